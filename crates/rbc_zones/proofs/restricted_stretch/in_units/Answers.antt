use Rattle.rbc_zones.proofs.Parts.{divided_up_is}
use Rattle.rbc_zones.proofs.restricted_stretch.in_units.Goals as goal

pub returns-clause-length : goal.returns-clause-length
returns-clause-length c = let e = divided_up_is c.args.end c.args.unit c.requires.unit in cc
