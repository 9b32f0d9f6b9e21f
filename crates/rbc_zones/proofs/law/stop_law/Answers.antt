use Rattle.rbc_zones.proofs.StopLaw.{each_stop}
use Rattle.rbc_zones.proofs.law.stop_law.Goals as goal

pub returns : goal.returns
returns c = each_stop
