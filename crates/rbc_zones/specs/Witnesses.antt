-- Worked cases of what is told of stops and restrictions. Places are in units of 10 cm. The trains count from a
-- balise group at 10000 on line 0, whose nominal direction is up.
use Rattle.std.specs.Prelude.{ℕ, true, false, List, [], ◌∷◌}
use Rattle.rbc_place.specs.Way.TheVariants.{Up, Down}
use Rattle.rbc_place.specs.Placing.{Place}
use Rattle.rbc_zones.specs.declared.segment.Segment.{Segment}
use Rattle.rbc_zones.specs.declared.limit.Dirs.TheVariants as dirs
use Rattle.rbc_zones.specs.Limits.{Limit}

-- a train of 200 m that faces up, its front 200 m beyond the balise group
abbrev pub facing_up : Place
facing_up = record { line = 0; lrbg = 5; at = 10000; same = true; facing = Up; lo = 9900; hi = 12100 }

-- the same train facing down, its front 200 m below the balise group
abbrev pub facing_down : Place
facing_down = record { line = 0; lrbg = 5; at = 10000; same = true; facing = Down; lo = 7900; hi = 10100 }

-- a stretch of a line
abbrev pub on : ℕ → ℕ → ℕ → Segment
on line from to = record { line = line; from = from; to = to }

-- a stop 1 km ahead of the balise group, facing up
abbrev pub near_stop : List Segment
near_stop = on 0 20000 21000 ∷ []

-- a stop 4,000.5 m ahead of it
abbrev pub far_stop : List Segment
far_stop = on 0 50005 60000 ∷ []

-- a stop of both stretches, the farther one first
abbrev pub double_stop : List Segment
double_stop = on 0 50005 60000 ∷ on 0 20000 21000 ∷ []

-- a stop as far along another line
abbrev pub stop_elsewhere : List Segment
stop_elsewhere = on 1 50005 60000 ∷ []

-- a stop 700 m ahead of the balise group, facing down
abbrev pub low_stop : List Segment
low_stop = on 0 1000 3000 ∷ []

-- a stop at the lower end of the line
abbrev pub lowest_stop : List Segment
lowest_stop = on 0 0 0 ∷ []

-- a restriction to 80 km/h both ways on line 0, from a place to a place
abbrev pub restriction : ℕ → ℕ → Limit
restriction from to = record { segment = on 0 from to; dirs = dirs.Both; speed = 80; front = false }
