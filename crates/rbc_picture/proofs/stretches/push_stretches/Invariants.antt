use Rattle.std.proofs.Common.{◌≡◌, ◌++◌, take}
use Rattle.rbc_picture.specs.Stretches.{stretches_in}
use Rattle.rbc_picture.proofs.stretches.push_stretches.Given as goal

abbrev pub invariant-loop-segment : goal.invariant-loop-segment
invariant-loop-segment l = l.stretches.items ≡ l.initial.stretches.items ++ stretches_in l.line l.number (take l.segment-index l.segments)
