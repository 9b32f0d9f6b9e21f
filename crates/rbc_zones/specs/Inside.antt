-- How the code keeps the segments of an area in an array.
use Rattle.std.specs.Prelude.{◌≡◌, ◌-◌, ◌≤◌, List, take, length, replicate, ◌++◌}
use Rattle.rbc_zones.specs.declared.area.Area.TheInside.{Inside}
use Rattle.rbc_zones.specs.declared.segment.Segment.{Segment}
use Rattle.rbc_zones.specs.Segments.{max_segments, AreSegments}

-- a segment of zeros, which fills the array where the area has no segment
abbrev pub no_segment : Segment
no_segment = record { line = 0; from = 0; to = 0 }

-- segments, filled up to the length of the array
abbrev pub padded : List Segment → List Segment
padded segments = segments ++ replicate (max_segments - length segments) no_segment

-- the segments come first, then segments of zeros
pub record IsAreaIn (inside : Inside) : Type 0 where
  pub few : inside.count ≤ max_segments
  pub padded : inside.segments ≡ padded (take inside.count inside.segments)
  pub sound : AreSegments (take inside.count inside.segments)
