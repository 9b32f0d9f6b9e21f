-- What a stop and a restriction mean for a train, case by case.
use Rattle.std.specs.Prelude.{◌≡◌, ℕ, ◌-◌, Bool, true, false, ◌==◌, ◌&&◌, if◌then◌else◌, List, Option, Some, None}
use Rattle.std.specs.List.{find}
use Rattle.std.specs.Option.{unwrap_or}
use Rattle.rbc_track.specs.declared.group.Way.{Way}
use Rattle.rbc_track.specs.declared.group.Way.TheVariants.{Up, Down}
use Rattle.rbc_place.specs.Placing.{Place}
use Rattle.rbc_zones.specs.declared.segment.Segment.{Segment}
use Rattle.rbc_zones.specs.declared.stop_meaning.Concern.{Concern}
use Rattle.rbc_zones.specs.declared.stop_meaning.Concern.TheVariants as concern
use Rattle.rbc_zones.specs.Nearer.{nearer}
use Rattle.rbc_zones.specs.Concerns.{meets, nearest, edges_ahead, is_behind_group}
use Rattle.rbc_zones.specs.Limits.{Limit, is_for, lies_behind}
use Rattle.rbc_account.specs.declared.reason.StopReason.{StopReason}
use Rattle.rbc_account.specs.declared.reason.StopReason.TheVariants.{NoPlace, Forced, Overlaps, BehindGroup, Before, Nothing}
use Rattle.rbc_account.specs.declared.reason.LimitReason.{LimitReason}
use Rattle.rbc_account.specs.declared.reason.LimitReason.TheVariants as limit_reason

-- what a stop means for a train, by its case
abbrev pub concern_by : StopReason → Concern
concern_by NoPlace = concern.Now
concern_by Forced = concern.Now
concern_by (Overlaps segment) = concern.Now
concern_by (BehindGroup edge) = concern.Now
concern_by (Before edge) = concern.Before edge
concern_by Nothing = concern.None

-- a stretch is on the line of a place and meets it
abbrev pub is_met : Place → Segment → Bool
is_met p segment = segment.line == p.line && meets p segment

-- the first such stretch
abbrev pub first_met : List Segment → Place → Option Segment
first_met area p = find (is_met p) area

-- the edge ahead that a train reaches first, or 0 if there is none
abbrev pub nearest_edge : Place → List Segment → ℕ
nearest_edge p area = unwrap_or (nearest p.facing (edges_ahead p area)) 0

-- the nearest edge found so far, or that of a segment on the line of the train that is ahead and nearer
abbrev pub nearer_on_line : Place → Option ℕ → Segment → Option ℕ
nearer_on_line p found segment = if segment.line == p.line then nearer p found segment else found

-- This case of a stop applies to a train. If the train has no place, or stops for it at once, that is the case; else a
-- stretch that meets its place is the case before the nearest edge ahead.
abbrev pub IsStopReason : List Segment → Bool → Option Place → StopReason → Type 0
IsStopReason area forced place NoPlace = place ≡ None
IsStopReason area forced place Forced = (p : Place) × (place ≡ Some p) × (forced ≡ true)
IsStopReason area forced place (Overlaps segment) = (p : Place) × (place ≡ Some p) × (forced ≡ false) × (first_met area p ≡ Some segment)
IsStopReason area forced place (BehindGroup edge) =
    (p : Place) × (place ≡ Some p) × (forced ≡ false) × (first_met area p ≡ None) × (nearest p.facing (edges_ahead p area) ≡ Some edge)
    × (is_behind_group p.facing p.at edge ≡ true)
IsStopReason area forced place (Before edge) =
    (p : Place) × (place ≡ Some p) × (forced ≡ false) × (first_met area p ≡ None) × (nearest p.facing (edges_ahead p area) ≡ Some edge)
    × (is_behind_group p.facing p.at edge ≡ false)
IsStopReason area forced place Nothing =
    (p : Place) × (place ≡ Some p) × (forced ≡ false) × (first_met area p ≡ None) × (nearest p.facing (edges_ahead p area) ≡ None)

-- whether a restriction is clear of a train, by its case
abbrev pub clear_by : LimitReason → Bool
clear_by limit_reason.OtherLine = true
clear_by limit_reason.OtherWay = true
clear_by limit_reason.Passed = true
clear_by limit_reason.Overlaps = false
clear_by (limit_reason.Ahead distance) = false

-- how far ahead of the interval in which a train may stand a segment begins
abbrev pub distance_ahead : Way → Segment → Place → ℕ
distance_ahead Up segment p = segment.from - p.hi
distance_ahead Down segment p = p.lo - segment.to

-- This case of a restriction applies to a train, as the first one: it is on another line; it is for trains that face
-- the other way; it lies wholly behind the train; it overlaps the place of the train; or it begins so far ahead of it.
abbrev pub IsLimitReason : Limit → Place → LimitReason → Type 0
IsLimitReason limit p limit_reason.OtherLine = (limit.segment.line == p.line) ≡ false
IsLimitReason limit p limit_reason.OtherWay = ((limit.segment.line == p.line) ≡ true) × (is_for limit.dirs p.facing ≡ false)
IsLimitReason limit p limit_reason.Passed =
    ((limit.segment.line == p.line) ≡ true) × (is_for limit.dirs p.facing ≡ true) × (lies_behind p.facing limit.segment p ≡ true)
IsLimitReason limit p limit_reason.Overlaps =
    ((limit.segment.line == p.line) ≡ true) × (is_for limit.dirs p.facing ≡ true) × (lies_behind p.facing limit.segment p ≡ false) × (is_met p limit.segment ≡ true)
IsLimitReason limit p (limit_reason.Ahead distance) =
    ((limit.segment.line == p.line) ≡ true) × (is_for limit.dirs p.facing ≡ true) × (lies_behind p.facing limit.segment p ≡ false) × (is_met p limit.segment ≡ false)
    × (distance ≡ distance_ahead p.facing limit.segment p)
