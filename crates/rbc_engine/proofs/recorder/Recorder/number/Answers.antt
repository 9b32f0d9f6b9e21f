use Rattle.std.proofs.Common.{ℕ, ap, subst}
use Rattle.rbc_engine.specs.Reading.{MaySee, Reading}
use Rattle.rbc_engine.proofs.recorder.Recorder.number.Goals as goal

pub returns : goal.returns
returns g c =
    subst (λ (input : ℕ). MaySee g.N.RunName.run g.N.RunName.log input c.args.key c.in-Some-number.number) (ap (λ (r : Reading). r.input) c.self.view_is) c.in-Some-number.ensures
