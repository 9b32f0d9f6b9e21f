use Rattle.std.proofs.Common.{◌≡◌, ◌++◌, drop}
use Rattle.rbc_picture.specs.Stretches.{stop_stretches}
use Rattle.rbc_picture.proofs.stretches.stop_stretches.Given as goal

abbrev pub invariant-loop-number : goal.invariant-loop-number
invariant-loop-number l = l.stretches.items ++ stop_stretches l.line (drop l.number-index l.stops) ≡ stop_stretches l.line l.stops
