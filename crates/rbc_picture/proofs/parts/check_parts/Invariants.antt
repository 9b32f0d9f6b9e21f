use Rattle.std.proofs.Common.{◌≡◌, drop}
use Rattle.rbc_picture.specs.Selections.{parts_fault}
use Rattle.rbc_picture.proofs.parts.check_parts.Given as goal

abbrev pub invariant-loop-part : goal.invariant-loop-part
invariant-loop-part l = parts_fault l.track (drop l.part-index l.parts) ≡ parts_fault l.track l.parts
