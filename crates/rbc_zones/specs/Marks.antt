-- The marks of stops and restrictions, by which those on one line are found (own rule).
use Rattle.std.specs.Prelude.{ℕ, List, [], ◌∷◌, map, slice_get}
use Rattle.std.specs.List.{range_with_len}
use Rattle.std.specs.Option.{option_map_or}
use Rattle.rbc_maps.specs.OnLines.{mark_of}
use Rattle.rbc_zones.specs.declared.segment.Segment.{Segment}
use Rattle.rbc_zones.specs.Limits.{Limit}

-- the mark for a segment that an area does not have: no line has this mark
abbrev pub no_mark : ℕ
no_mark = 255

-- the mark of the segment at an index
abbrev pub mark_at : List Segment → ℕ → ℕ
mark_at segments at = option_map_or (λ segment. mark_of segment.line) (slice_get segments at) no_mark

-- the marks of the area of a stop: one for each segment that it can have
abbrev pub stop_marks : List Segment → List ℕ
stop_marks segments = map (mark_at segments) (range_with_len 0 8)

-- the mark of a restriction
abbrev pub limit_marks : Limit → List ℕ
limit_marks limit = mark_of limit.segment.line ∷ []
