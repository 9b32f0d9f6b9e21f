-- What a temporary speed restriction means for a train at its place, and what the train is told of it (own rule).
use Rattle.std.specs.Prelude.{◌≡◌, ◌⊎◌, ℕ, ◌+◌, ◌-◌, ◌*◌, ◌/◌, ◌%◌, ◌^◌, ◌<◌, ◌≤◌, min, max, Bool, true, false, not, ◌==◌, ◌||◌, ◌&&◌, nat_lt, nat_le}
use Rattle.rbc_place.specs.Plan.{Plan, max_length}
use Rattle.rbc_place.specs.Way.{Way}
use Rattle.rbc_place.specs.Way.TheVariants.{Up, Down}
use Rattle.rbc_place.specs.Placing.{Place, IsSound}
use Rattle.rbc_place.specs.Reach.{IsAhead}
use Rattle.rbc_zones.specs.declared.segment.Segment.{Segment}
use Rattle.rbc_zones.specs.declared.limit.Dirs.{Dirs}
use Rattle.rbc_zones.specs.declared.limit.Dirs.TheVariants as dirs
use Rattle.rbc_zones.specs.Segments.{is_good_segment}
use Rattle.rbc_zones.specs.Concerns.{max_units, scale_by}

-- R-RESTRICTION-1, R-REFUSE-12: the greatest speed of a restriction, in km/h
abbrev pub max_speed : ℕ
max_speed = 600

-- R-RESTRICTION-1: a restriction: its segment, its directions, its speed in km/h, and Q_FRONT
pub record Limit : Type 0 where
  pub segment : Segment
  pub dirs : Dirs
  pub speed : ℕ
  pub front : Bool

-- R-RESTRICTION-1: the ends of each restriction differ and are places that a line can have, and its speed is a value of
-- V_TSR
pub record IsLimit (limit : Limit) : Type 0 where
  pub ordered : limit.segment.from < limit.segment.to
  pub within : limit.segment.to ≤ max_length
  pub speed : limit.speed ≤ max_speed
  pub in_fives : limit.speed % 5 ≡ 0

-- R-REFUSE-12: a segment and a speed are good for a track
abbrev pub is_good_limit : Plan → Segment → ℕ → Bool
is_good_limit plan segment speed =
    is_good_segment plan segment && nat_lt segment.from segment.to && nat_le speed max_speed && speed % 5 == 0

-- R-RESTRICTION-2: a restriction applies to trains that face this way
abbrev pub is_for : Dirs → Way → Bool
is_for dirs.Up Up = true
is_for dirs.Up Down = false
is_for dirs.Down Up = false
is_for dirs.Down Down = true
is_for dirs.Both way = true

-- R-RESTRICTION-2: it lies wholly behind the interval in which the train may stand
abbrev pub lies_behind : Way → Segment → Place → Bool
lies_behind Up segment p = nat_lt segment.to p.lo
lies_behind Down segment p = nat_lt p.hi segment.from

-- R-RESTRICTION-2: a restriction is clear of a train
abbrev pub is_clear : Limit → Place → Bool
is_clear limit p =
    not (limit.segment.line == p.line) || not (is_for limit.dirs p.facing) || lies_behind p.facing limit.segment p

-- R-RESTRICTION-3: a segment ends beyond a balise group
abbrev pub ends_beyond : Way → Segment → ℕ → Bool
ends_beyond Up segment at = nat_lt at segment.to
ends_beyond Down segment at = nat_lt segment.from at

-- R-RESTRICTION-3: a restriction ends beyond the train's balise group
abbrev pub ends_beyond_group : Limit → Place → Bool
ends_beyond_group limit p = ends_beyond p.facing limit.segment p.at

-- R-RESTRICTION-3: a segment begins no farther ahead of the interval in which the train may stand than the horizon
abbrev pub starts_within : Way → Segment → Place → ℕ → Bool
starts_within Up segment p horizon = nat_le segment.from (p.hi + horizon)
starts_within Down segment p horizon = nat_le p.lo (segment.to + horizon)

-- R-RESTRICTION-3: a restriction concerns a train, which has to be told of it
abbrev pub concerns : Limit → Place → ℕ → Bool
concerns limit p horizon =
    not (is_clear limit p) && ends_beyond_group limit p && starts_within p.facing limit.segment p horizon

-- R-RESTRICTION-5: the distance from a balise group at which a segment begins, without the part that is behind the
-- group
abbrev pub begins_at : Way → Segment → ℕ → ℕ
begins_at Up segment at = max segment.from at - at
begins_at Down segment at = at - min segment.to at

-- R-RESTRICTION-5: the distance from a balise group at which a segment ends
abbrev pub ends_at : Way → Segment → ℕ → ℕ
ends_at Up segment at = segment.to - at
ends_at Down segment at = at - segment.from

-- R-RESTRICTION-6: a distance in whole units, rounded up
abbrev pub divided_up : ℕ → ℕ → ℕ
divided_up distance unit = (distance + (unit - 1)) / unit

-- R-RESTRICTION-6: D_TSR at a scale: the start, rounded down
abbrev pub start_at : ℕ → ℕ → ℕ
start_at scale begin = begin / 10 ^ scale

-- R-RESTRICTION-6: L_TSR at a scale: the length from that start to the end, which is rounded up
abbrev pub length_at : ℕ → ℕ → ℕ → ℕ
length_at scale begin end = divided_up end (10 ^ scale) - begin / 10 ^ scale

-- R-RESTRICTION-6: the least scale at which both have room in their fields
abbrev pub part_scale : ℕ → ℕ → ℕ
part_scale begin end = scale_by (λ scale. nat_le (start_at scale begin) max_units && nat_le (length_at scale begin end) max_units)

-- Q_SCALE, D_TSR and L_TSR of an interval, from the distances at which it begins and ends
abbrev pub told_of_part : ℕ → ℕ → ℕ × ℕ × ℕ
told_of_part begin end =
    (part_scale begin end, start_at (part_scale begin end) begin, length_at (part_scale begin end) begin end)

-- R-RESTRICTION-5, R-RESTRICTION-6: Q_SCALE, D_TSR and L_TSR of a restriction for a train
abbrev pub told_part : Limit → Place → ℕ × ℕ × ℕ
told_part limit p = told_of_part (begins_at p.facing limit.segment p.at) (ends_at p.facing limit.segment p.at)

-- a distance from the balise group is in the interval that is told
pub record IsTold (scale start length distance : ℕ) : Type 0 where
  pub begun : start * 10 ^ scale ≤ distance
  pub not_ended : distance ≤ (start + length) * 10 ^ scale

-- a distance from the balise group leads to a place of the restriction
pub record IsOf (limit : Limit) (p : Place) (distance : ℕ) : Type 0 where
  pub place : ℕ
  pub ahead : IsAhead p.facing p.at distance place
  pub from : limit.segment.from ≤ place
  pub to : place ≤ limit.segment.to

-- two distances are less than a unit apart
pub record AreNear (unit a b : ℕ) : Type 0 where
  pub not_above : a < b + unit
  pub not_below : b < a + unit

-- a distance is less than a unit from one that leads to a place of the restriction
pub record IsNearOne (limit : Limit) (p : Place) (unit distance : ℕ) : Type 0 where
  pub other : ℕ
  pub of : IsOf limit p other
  pub near : AreNear unit distance other

-- at a scale the start or the length has no room in its field
abbrev pub HasNoRoom : ℕ → ℕ → ℕ → Type 0
HasNoRoom scale begin end = (max_units < start_at scale begin) ⊎ (max_units < length_at scale begin end)

-- R-RESTRICTION-5, R-RESTRICTION-6. A restriction is told: the interval covers all of it that is not behind the balise
-- group, and less than a unit more at each end, in the finest unit that has room.
pub record IsToldPart (limit : Limit) (p : Place) (scale start length : ℕ) : Type 0 where
  pub not_spare : scale ≤ 2
  pub start_in_field : start ≤ max_units
  pub length_in_field : length ≤ max_units
  pub some : 1 ≤ length
  pub covers : (distance : ℕ) → IsOf limit p distance → IsTold scale start length distance
  pub no_longer : (distance : ℕ) → IsTold scale start length distance → IsNearOne limit p (10 ^ scale) distance
  pub finest : (finer : ℕ) → finer < scale → HasNoRoom finer (begins_at p.facing limit.segment p.at) (ends_at p.facing limit.segment p.at)

-- R-RESTRICTION-5, R-RESTRICTION-6: each restriction that concerns a train is told in this way
abbrev pub EachLimitIsToldRightly : Type 0
EachLimitIsToldRightly =
    (limit : Limit) (p : Place) (horizon : ℕ) → IsLimit limit → IsSound p → concerns limit p horizon ≡ true
    → IsToldPart limit p (told_part limit p).0 (told_part limit p).1 (told_part limit p).2
