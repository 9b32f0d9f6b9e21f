use Rattle.std.proofs.Common.{◌≡◌, take}
use Rattle.rbc_picture.specs.Stretches.{limit_stretches}
use Rattle.rbc_picture.proofs.stretches.limit_stretches.Given as goal

abbrev pub invariant-loop-number : goal.invariant-loop-number
invariant-loop-number l = l.stretches.items ≡ limit_stretches l.line (take l.number-index l.limits)
