use Rattle.rbc_zones.proofs.Areas.{is_area}
use Rattle.rbc_zones.proofs.area.Area.filled.Goals as goal

pub invariant_of-result : goal.invariant_of-result
invariant_of-result c = is_area c.args.segments.now c.copy_from_slice.new.self c.requires c.copy_from_slice.ensures.after
