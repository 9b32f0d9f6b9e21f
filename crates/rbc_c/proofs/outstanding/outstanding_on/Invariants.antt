use Rattle.std.proofs.Common.{◌≡◌, take}
use Rattle.std.specs.List.{flat_map}
use Rattle.rbc_c.specs.Outstanding.{waits_of}
use Rattle.rbc_c.proofs.outstanding.outstanding_on.Given as goal

-- what waits at the engines that were looked at
abbrev pub invariant-loop-engine : goal.invariant-loop-engine
invariant-loop-engine l = l.all.items ≡ flat_map (waits_of l.desk) (take l.engine-index l.engine-items)
