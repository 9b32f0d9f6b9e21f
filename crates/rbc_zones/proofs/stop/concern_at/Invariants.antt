use Rattle.std.proofs.Common.{◌≡◌, false, drop}
use Rattle.rbc_zones.specs.Concerns.{concern_at}
use Rattle.rbc_zones.proofs.Concerned.{concern_from}
use Rattle.rbc_zones.proofs.stop.concern_at.Given as goal

-- the nearest edge so far and the segments that are left give what all segments give
abbrev pub invariant-loop-segment : goal.invariant-loop-segment
invariant-loop-segment l = concern_from l.fn.place l.nearest (drop l.segment-index l.segments) ≡ concern_at l.segments false l.fn.place
