use Rattle.std.proofs.Common.{map, take}
use Rattle.rbc_json.specs.Json.{number}
use Rattle.rbc_json.specs.Lists.{IsListOf}
use Rattle.rbc_json.proofs.refused.numbers_text.Given as goal

-- the values of the elements that were looked at are written
abbrev pub invariant-loop-index : goal.invariant-loop-index
invariant-loop-index l = IsListOf (map number (take l.index l.numbers)) l.list
