-- Worked cases of the report of a train at a place. Places and lengths are in units of 10 cm.
use Rattle.std.specs.Prelude.{ℕ, [], ◌∷◌, None}
use Rattle.ertms_codec.specs.declared.from_train.Position.{Position}
use Rattle.rbc_track.specs.Plan.{Plan}
use Rattle.rbc_track.specs.declared.group.Group.{Group}
use Rattle.rbc_track.specs.declared.group.Way.{Way}
use Rattle.rbc_track.specs.declared.group.Way.TheVariants.{Up, Down}
use Rattle.rbc_place.specs.declared.reporting.NoReport.{NoReport}
use Rattle.rbc_place.specs.Reporting.{IsReportAt, IsNoReportAt}

-- a balise group whose nominal direction is up
abbrev pub group_5 : Group
group_5 = record { line = 0; at = 10000; nominal = Up }

-- the first of two balise groups at one place: its nominal direction is down
abbrev pub group_6 : Group
group_6 = record { line = 0; at = 60000; nominal = Down }

-- the second one, whose nominal direction is up
abbrev pub group_7 : Group
group_7 = record { line = 0; at = 60000; nominal = Up }

-- a line of 30 km with these balise groups
abbrev pub three_groups : Plan
three_groups = record {
  horizon = 100000;
  lines = 300000 ∷ [];
  groups = (5, group_5) ∷ (6, group_6) ∷ (7, group_7) ∷ [];
}

-- this is the report of a train at a place of the line
abbrev pub Tells : ℕ → Way → ℕ → Position → Type 0
Tells place facing doubt report = IsReportAt three_groups 0 place facing doubt report

-- there is no report of a train at a place of a line, for this reason
abbrev pub TellsNothing : ℕ → ℕ → Way → NoReport → Type 0
TellsNothing line place facing reason = IsNoReportAt three_groups line place facing reason

-- at balise group 5, with no doubt
abbrev pub at_the_group : Position
at_the_group = record { previous = None; scale = 0; lrbg = 5; distance = 0; dir = 1; side = 1; over = 0; under = 0 }

-- 100 m from balise group 5 against its nominal direction, with a doubt of 5 m
abbrev pub against : Position
against = record { previous = None; scale = 0; lrbg = 5; distance = 1000; dir = 0; side = 0; over = 50; under = 50 }

-- the same from balise group 6
abbrev pub from_6 : Position
from_6 = record against { lrbg = 6 }

-- 4,000 m from balise group 5, told in metres, with a doubt of 2 m over and 3 m under
abbrev pub in_metres : Position
in_metres = record { previous = None; scale = 1; lrbg = 5; distance = 4000; dir = 1; side = 1; over = 2; under = 3 }
