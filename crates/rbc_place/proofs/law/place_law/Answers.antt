use Rattle.rbc_place.proofs.Holds.{each_place_holds}
use Rattle.rbc_place.proofs.law.place_law.Goals as goal

pub returns : goal.returns
returns c = each_place_holds
