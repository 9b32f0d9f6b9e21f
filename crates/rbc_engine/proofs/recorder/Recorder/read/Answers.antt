use Rattle.std.proofs.Common.{ℕ, sym, subst}
use Rattle.rbc_engine.specs.Reading.{MaySee}
use Rattle.rbc_engine.proofs.recorder.Recorder.read.Goals as goal

-- the number of the ticket is the one that was asked for
pub returns-clause-stood : goal.returns-clause-stood
returns-clause-stood g c =
    subst (λ (number : ℕ). MaySee g.N.RunName.run g.N.RunName.log c.args.self.now.input c.args.key number) (sym c.in_ok-ticket.ensures.ticket.1) c.number-number.ensures
