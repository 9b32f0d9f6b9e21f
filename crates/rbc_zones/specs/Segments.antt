-- Stretches of track, and when they are good for a track (own rule).
use Rattle.std.specs.Prelude.{ℕ, ◌≤◌, Bool, false, ◌&&◌, nat_le, List, length, slice_get}
use Rattle.std.specs.List.{list_all, All}
use Rattle.std.specs.Option.{option_map_or}
use Rattle.rbc_place.specs.Plan.{Plan, max_length}
use Rattle.rbc_zones.specs.declared.segment.Segment.{Segment}

-- R-REFUSE-12: the most segments that an area has
abbrev pub max_segments : ℕ
max_segments = 8

-- R-REFUSE-12: a segment is good for a track if the track has its line, its first place is not above its second, and
-- both are on the line
abbrev pub is_good_segment : Plan → Segment → Bool
is_good_segment plan segment = option_map_or (λ length. nat_le segment.from segment.to && nat_le segment.to length) (slice_get plan.lines segment.line) false

-- R-REFUSE-12: segments are a good area if there are not too many and each of them is good
abbrev pub is_good_area : Plan → List Segment → Bool
is_good_area plan segments = nat_le (length segments) max_segments && list_all (is_good_segment plan) segments

-- the ends of each segment of an area are in order and at places that a line can have
pub record IsSegment (segment : Segment) : Type 0 where
  pub ordered : segment.from ≤ segment.to
  pub within : segment.to ≤ max_length

-- each area has at least one segment, and not too many
pub record AreSegments (segments : List Segment) : Type 0 where
  pub some : 1 ≤ length segments
  pub few : length segments ≤ max_segments
  pub each : All IsSegment segments
