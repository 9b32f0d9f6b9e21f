use Rattle.std.proofs.Common.{◌≡◌, map, take}
use Rattle.std.specs.List.{flat_map}
use Rattle.rbc_c.specs.Active.{stop_of}
use Rattle.rbc_c.proofs.active.stops_of.Given as goal

-- the segments of the stops that were looked at
abbrev pub invariant-loop-stop : goal.invariant-loop-stop
invariant-loop-stop l = l.all.items ≡ flat_map (λ stop. map (stop_of stop.0) stop.1) (take l.stop-index l.stop-items)
