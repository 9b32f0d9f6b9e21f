use Rattle.std.proofs.Common.{map, take}
use Rattle.rbc_json.specs.Lists.{IsListOf}
use Rattle.rbc_json.specs.Objects.{not_told_at}
use Rattle.rbc_json.proofs.input_object.not_told_text.Given as goal

-- the values of the elements that were looked at are written
abbrev pub invariant-loop-index : goal.invariant-loop-index
invariant-loop-index l = IsListOf (map not_told_at (take l.index l.all)) l.list
