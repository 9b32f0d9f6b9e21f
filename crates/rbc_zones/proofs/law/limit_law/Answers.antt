use Rattle.rbc_zones.proofs.ToldLimits.{each_limit_is_told_rightly}
use Rattle.rbc_zones.proofs.law.limit_law.Goals as goal

pub returns : goal.returns
returns c = each_limit_is_told_rightly
