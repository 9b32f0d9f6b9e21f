use Rattle.rbc_core.proofs.Forwards.{none_is_computed_again}
use Rattle.rbc_core.proofs.law.forward_law.Goals as goal

pub returns : goal.returns
returns c = none_is_computed_again
