use Rattle.std.proofs.Common.{◌≡◌, take}
use Rattle.std.specs.List.{flat_map}
use Rattle.rbc_live.specs.Alarms.{with_engine}
use Rattle.rbc_live.specs.Watching.{or_none, seen_of}
use Rattle.rbc_live.proofs.standing.alarms_in.Given as goal

-- the alarms of the engines that were looked at
abbrev pub invariant-loop-engine : goal.invariant-loop-engine
invariant-loop-engine l = l.all.items ≡ flat_map (λ engine. with_engine engine (or_none (seen_of l.horizon l.records engine))) (take l.engine-index l.engine-items)
