use Rattle.std.proofs.Common.{◌≡◌, drop}
use Rattle.rbc_zones.specs.Concerns.{edges_ahead, nearest}
use Rattle.rbc_account.proofs.Nearest.{nearest_from}
use Rattle.rbc_account.proofs.reason.nearest_edge.Given as goal

-- the nearest edge so far and the segments that are left give what all segments give
abbrev pub invariant-loop-segment : goal.invariant-loop-segment
invariant-loop-segment l = nearest_from l.fn.place l.nearest (drop l.segment-index l.segments) ≡ nearest l.fn.place.facing (edges_ahead l.fn.place l.segments)
