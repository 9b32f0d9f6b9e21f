use Rattle.std.proofs.Common.{map, take}
use Rattle.rbc_json.specs.Lists.{IsListOf}
use Rattle.rbc_json.specs.Shapes.{segment_object}
use Rattle.rbc_json.proofs.effect.segments_text.Given as goal

-- the values of the elements that were looked at are written
abbrev pub invariant-loop-index : goal.invariant-loop-index
invariant-loop-index l = IsListOf (map segment_object (take l.index l.segments)) l.list
