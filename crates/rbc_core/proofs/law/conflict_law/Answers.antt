use Rattle.rbc_core.proofs.Conflicts.{each_is_explained}
use Rattle.rbc_core.proofs.law.conflict_law.Goals as goal

pub returns : goal.returns
returns c = each_is_explained
