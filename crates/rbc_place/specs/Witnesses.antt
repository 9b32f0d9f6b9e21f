-- Worked cases of where a train may stand. Places and lengths are in units of 10 cm. Each report counts from a balise
-- group at 10000 on a line of length 300000, and the train is 200 m long.
use Rattle.std.specs.Prelude.{ℕ, true, None}
use Rattle.ertms_codec.specs.declared.from_train.Position.{Position}
use Rattle.rbc_track.specs.declared.group.Group.{Group}
use Rattle.rbc_track.specs.declared.group.Way.{Way}
use Rattle.rbc_track.specs.declared.group.Way.TheVariants.{Up}
use Rattle.rbc_place.specs.Placing.{Place}
use Rattle.rbc_place.specs.Reach.{HoldsItsTrain}

-- the balise group: its nominal direction is up
abbrev pub group_5 : Group
group_5 = record { line = 0; at = 10000; nominal = Up }

-- the train's front is 200 m beyond the balise group, it faces up, and each doubt is 10 m
abbrev pub facing_up : Position
facing_up = record { previous = None; scale = 0; lrbg = 5; distance = 2000; dir = 1; side = 1; over = 100; under = 100 }

-- the same told in metres
abbrev pub told_in_metres : Position
told_in_metres = record { previous = None; scale = 1; lrbg = 5; distance = 200; dir = 1; side = 1; over = 10; under = 10 }

-- the front may be 5 m short of where it is reported, and 20 m beyond
abbrev pub unequal_doubts : Position
unequal_doubts = record { previous = None; scale = 0; lrbg = 5; distance = 2000; dir = 1; side = 1; over = 50; under = 200 }

-- the train's front is 200 m below the balise group, and it faces down
abbrev pub facing_down : Position
facing_down = record { previous = None; scale = 0; lrbg = 5; distance = 2000; dir = 0; side = 0; over = 100; under = 100 }

-- a place of the train, from its lowest to its highest
abbrev pub from_to : Way → ℕ → ℕ → Place
from_to facing lo hi = record { line = 0; lrbg = 5; at = 10000; same = true; facing = facing; lo = lo; hi = hi }

-- the interval of a place holds the train of a report
abbrev pub Holds : Position → Place → Type 0
Holds report place = HoldsItsTrain 300000 group_5 report 2000 place
