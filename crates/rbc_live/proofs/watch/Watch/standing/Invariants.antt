use Rattle.std.proofs.Common.{◌≡◌, take}
use Rattle.std.specs.List.{flat_map}
use Rattle.rbc_live.specs.Watching.{none_seen, seen_in, seen_lines}
use Rattle.rbc_live.proofs.watch.Watch.standing.Given as goal

-- the lines of the engines that were looked at
abbrev pub invariant-loop-engine : goal.invariant-loop-engine
invariant-loop-engine l = l.text.items ≡ flat_map (seen_lines l.input none_seen (seen_in l.self)) (take l.engine-index l.engine-items)
