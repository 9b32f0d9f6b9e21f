-- Where a new stop has to lie for a train to be told of it, and where an area lies (own rule).
use Rattle.std.specs.Prelude.{ℕ, ◌+◌, ◌-◌, ◌*◌, ◌%◌, ◌^◌, nat_lt, nat_le, min, max, Bool, true, ◌&&◌, if◌then◌else◌, List, fold, length}
use Rattle.std.specs.List.{list_any}
use Rattle.std.specs.Option.{option_map_or}
use Rattle.rbc_settle.specs.Segment.{Segment}
use Rattle.rbc_settle.specs.Way.{Way}
use Rattle.rbc_settle.specs.Way.TheVariants as way
use Rattle.rbc_settle.specs.Placing.{Place}
use Rattle.rbc_settle.specs.declared.train.TrainRec.{TrainRec}
use Rattle.rbc_records.specs.declared.extent.Extent.{Extent}

-- the number of a place on a line, among those of all 64 lines: each line has 2 ^ 22, more than it is long
abbrev pub site_on : ℕ → ℕ → ℕ
site_on line place = line % 64 * 2 ^ 22 + min place (2 ^ 22 - 1)

-- no place, and all places
abbrev pub nowhere : Extent
nowhere = record { least = 2 ^ 32 - 1; most = 0 }

abbrev pub everywhere : Extent
everywhere = record { least = 0; most = 2 ^ 32 - 1 }

-- where a train at this place may stand, and what lies ahead of it: what lies behind it does not concern it
abbrev pub ahead_of : Way → Place → Extent
ahead_of way.Up p = record { least = site_on p.line (min p.lo p.hi); most = site_on p.line (2 ^ 32 - 1) }
ahead_of way.Down p = record { least = site_on p.line 0; most = site_on p.line (max p.lo p.hi) }

-- where a new stop has to lie to be told to a train: without a free stop identifier it is told no stop, and if a stop
-- may be forced on it, it is told any
abbrev pub extent_of_train : TrainRec → Extent
extent_of_train train =
    if nat_lt (length train.stops) 15 then (if nat_lt 0 (length train.forced) then everywhere else option_map_or (λ place. ahead_of place.facing place) train.place everywhere)
    else nowhere

-- an extent with the places of one more segment
abbrev pub with_segment : Extent → Segment → Extent
with_segment extent segment = record {
  least = min extent.least (site_on segment.line (min segment.from segment.to));
  most = max extent.most (site_on segment.line (max segment.from segment.to));
}

-- where an area lies: from the least end of its segments to the greatest. An area without segments is taken to lie everywhere.
abbrev pub extent_of_area : List Segment → Extent
extent_of_area area = if nat_lt 0 (length area) then fold with_segment nowhere area else everywhere

-- an extent has a place in common with the one from the least to the most
abbrev pub meet : Extent → ℕ → ℕ → Bool
meet a least most = nat_le a.least most && nat_le least a.most

-- a segment has a place in common with an extent, and one of those of an area has. An area without segments is taken to lie everywhere.
abbrev pub is_met : ℕ → ℕ → Segment → Bool
is_met least most segment = meet (with_segment nowhere segment) least most

abbrev pub is_one_met : List Segment → ℕ → ℕ → Bool
is_one_met area least most = if nat_lt 0 (length area) then list_any (is_met least most) area else true
