use Rattle.std.proofs.Common.{arith}
use Rattle.rbc_picture.proofs.window.Window.of.Goals as goal

pub returns-then-from : goal.returns-then-from
returns-then-from c = rw c.in-Some.is (λ below fits. (omega arith, omega arith))
