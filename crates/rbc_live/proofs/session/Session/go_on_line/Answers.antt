use Rattle.rbc_live.proofs.Writing.{pending}
use Rattle.rbc_live.proofs.session.Session.go_on_line.Goals as goal

-- memory was refused
pub returns-then-is_err-clause-added : goal.returns-then-is_err-clause-added
returns-then-is_err-clause-added g c = λ plan wanted old ended rest is.
    c.out_of_memory.ensures plan wanted old ended (pending plan wanted c.args.self.now old (g.W.Write.contents c.args.writer.now) ended rest is)
