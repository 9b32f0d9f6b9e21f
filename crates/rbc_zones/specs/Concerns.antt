-- What a stop means for a train at its place, and what the train is told of it (own rule).
use Rattle.std.specs.Prelude.{◌≡◌, ℕ, ◌+◌, ◌-◌, ◌*◌, ◌/◌, ◌^◌, ◌<◌, ◌≤◌, min, max, Bool, true, ◌==◌, ◌||◌, ◌&&◌, nat_lt, nat_le, if◌then◌else◌, List, [], ◌∷◌, map, Option, Some, None}
use Rattle.std.specs.List.{filter, fold, list_any, All}
use Rattle.rbc_place.specs.Way.{Way}
use Rattle.rbc_place.specs.Way.TheVariants.{Up, Down}
use Rattle.rbc_place.specs.Placing.{Place, IsSound}
use Rattle.rbc_place.specs.Reach.{IsAhead}
use Rattle.rbc_zones.specs.declared.segment.Segment.{Segment}
use Rattle.rbc_zones.specs.declared.stop_meaning.Concern.{Concern}
use Rattle.rbc_zones.specs.declared.stop_meaning.Concern.TheVariants as concern
use Rattle.rbc_zones.specs.Segments.{IsSegment}

-- R-STOP-1, R-STOP-2: the segments on the train's line
abbrev pub on_its_line : Place → List Segment → List Segment
on_its_line p segments = filter (λ segment. segment.line == p.line) segments

-- R-STOP-1: a segment and the interval in which the train may stand have a place in common
abbrev pub meets : Place → Segment → Bool
meets p segment = nat_le segment.from p.hi && nat_le p.lo segment.to

-- R-STOP-2: the end of a segment that a train reaches first
abbrev pub edge_of : Way → Segment → ℕ
edge_of Up segment = segment.from
edge_of Down segment = segment.to

-- R-STOP-2: a place lies ahead of all places where the train may stand
abbrev pub is_ahead : Way → Place → ℕ → Bool
is_ahead Up p place = nat_lt p.hi place
is_ahead Down p place = nat_lt place p.lo

-- R-STOP-2: the edges ahead of a train
abbrev pub edges_ahead : Place → List Segment → List ℕ
edges_ahead p segments = filter (is_ahead p.facing p) (map (edge_of p.facing) (on_its_line p segments))

-- the least of some numbers, and the greatest
abbrev pub least : List ℕ → Option ℕ
least [] = None
least (n ∷ ns) = Some (fold min n ns)

abbrev pub greatest : List ℕ → Option ℕ
greatest [] = None
greatest (n ∷ ns) = Some (fold max n ns)

-- R-STOP-3, R-STOP-4: the edge that a train reaches first
abbrev pub nearest : Way → List ℕ → Option ℕ
nearest Up edges = least edges
nearest Down edges = greatest edges

-- R-STOP-3: a place lies behind the train's balise group
abbrev pub is_behind_group : Way → ℕ → ℕ → Bool
is_behind_group Up at place = nat_lt place at
is_behind_group Down at place = nat_lt at place

-- R-STOP-2, R-STOP-3, R-STOP-4: what a stop means if this is its nearest edge ahead: no distance can be told to an edge
-- behind the balise group
abbrev pub concern_by_edge : Place → Option ℕ → Concern
concern_by_edge p None = concern.None
concern_by_edge p (Some edge) = if is_behind_group p.facing p.at edge then concern.Now else concern.Before edge

-- R-STOP-1: what a stop means for a train that has a place
abbrev pub concern_at : List Segment → Bool → Place → Concern
concern_at area forced p =
    if forced || list_any (meets p) (on_its_line p area) then concern.Now
    else concern_by_edge p (nearest p.facing (edges_ahead p area))

-- R-STOP-1: what a stop means for any train: one without a place stops at once
abbrev pub concern_of : List Segment → Bool → Option Place → Concern
concern_of area forced None = concern.Now
concern_of area forced (Some p) = concern_at area forced p

-- R-STOP-7, R-RESTRICTION-6: the most units that a message tells as a distance or a length
abbrev pub max_units : ℕ
max_units = 32766

-- R-STOP-7, R-RESTRICTION-6: the scale of a message: the least at which its numbers fit, or else the greatest
abbrev pub scale_by : (ℕ → Bool) → ℕ
scale_by fits = if fits 0 then 0 else if fits 1 then 1 else 2

-- R-STOP-7: the scale of a stop's distance
abbrev pub stop_scale : ℕ → ℕ
stop_scale distance = scale_by (λ scale. nat_le (distance / 10 ^ scale) max_units)

-- R-STOP-6, R-STOP-7: Q_SCALE and D_EMERGENCYSTOP of a distance: whole units of the scale, rounded down
abbrev pub told_distance : ℕ → ℕ × ℕ
told_distance distance = (stop_scale distance, distance / 10 ^ stop_scale distance)

-- R-STOP-7: a distance is told: it is never less than the units, exceeds them by less than a unit, and the unit is the
-- finest that has room
pub record IsToldFor (distance scale units : ℕ) : Type 0 where
  pub not_spare : scale ≤ 2
  pub in_field : units ≤ max_units
  pub not_beyond : units * 10 ^ scale ≤ distance
  pub near : distance < units * 10 ^ scale + 10 ^ scale
  pub finest : (finer : ℕ) → finer < scale → max_units < distance / 10 ^ finer

-- one place lies at or beyond another, for a train that faces this way
abbrev pub IsAtOrBeyond : Way → ℕ → ℕ → Type 0
IsAtOrBeyond Up place other = other ≤ place
IsAtOrBeyond Down place other = place ≤ other

-- R-STOP-6: how far one place lies ahead of another, or 0 if it lies behind
abbrev pub distance_to : Way → ℕ → ℕ → ℕ
distance_to Up at place = place - at
distance_to Down at place = at - place

-- R-STOP-4. An edge is the nearest one ahead: it is ahead of the train, an edge of the area, and each other edge that
-- is ahead lies at or beyond it.
pub record IsNearestEdge (p : Place) (area : List Segment) (edge : ℕ) : Type 0 where
  pub ahead : is_ahead p.facing p edge ≡ true
  pub an_edge : list_any (λ other. other == edge) (edges_ahead p area) ≡ true
  pub nearest : All (λ other. IsAtOrBeyond p.facing other edge) (edges_ahead p area)

-- R-STOP-7. A train is told where to stop before an edge: the place that lies as far ahead of its balise group as it is
-- told is not beyond the edge, and less than a unit short of it.
pub record IsToldBefore (p : Place) (edge scale units : ℕ) : Type 0 where
  pub place : ℕ
  pub ahead : IsAhead p.facing p.at (units * 10 ^ scale) place
  pub not_beyond : IsAtOrBeyond p.facing edge place
  pub near : distance_to p.facing place edge < 10 ^ scale

-- R-STOP-4, R-STOP-7. A train is told of the nearest edge ahead of it, by the distance of that edge from its balise
-- group in the finest unit that has room.
pub record IsToldRightly (p : Place) (area : List Segment) (edge scale units : ℕ) : Type 0 where
  pub first : IsNearestEdge p area edge
  pub finest : IsToldFor (distance_to p.facing p.at edge) scale units
  pub told : IsToldBefore p edge scale units

-- R-STOP-4, R-STOP-7: each stop before whose edge a train has to stop is told rightly
abbrev pub EachStopIsToldRightly : Type 0
EachStopIsToldRightly =
    (p : Place) (area : List Segment) (forced : Bool) (edge : ℕ) → IsSound p → All IsSegment area
    → concern_at area forced p ≡ concern.Before edge
    → IsToldRightly p area edge (told_distance (distance_to p.facing p.at edge)).0 (told_distance (distance_to p.facing p.at edge)).1
