-- The active stops and restrictions of a desk as C has them (own layout).
use Rattle.std.specs.Prelude.{◌≡◌, ℕ, Bool, true, false, List, map}
use Rattle.std.specs.List.{flat_map}
use Rattle.rbc_zones.specs.declared.segment.Segment.{Segment}
use Rattle.rbc_zones.specs.declared.limit.Dirs.{Dirs}
use Rattle.rbc_zones.specs.declared.limit.Dirs.TheVariants.{Up, Down, Both}
use Rattle.rbc_zones.specs.Limits.{Limit}
use Rattle.rbc_live.specs.declared.desk.LiveDesk.{LiveDesk}
use Rattle.rbc_live.specs.Known.{active_stops, active_limits}
use Rattle.rbc_c.specs.declared.active.Stop.{Stop}
use Rattle.rbc_c.specs.declared.active.Restriction.{Restriction}

-- one segment of a stop
abbrev pub stop_of : ℕ → Segment → Stop
stop_of number segment = record { number = number; line = segment.line; from = segment.from; to = segment.to }

-- these are the segments of the active stops of a desk: numbers ascending, and those of one stop in the order in which they were given
abbrev pub AreStops : LiveDesk → List Stop → Type 0
AreStops desk given = given ≡ flat_map (λ stop. map (stop_of stop.0) stop.1) (active_stops desk.records)

-- the ways in which a restriction applies: 0 down, 1 up, 2 both
abbrev pub code_of_dirs : Dirs → ℕ
code_of_dirs Down = 0
code_of_dirs Up = 1
code_of_dirs Both = 2

-- Q_FRONT
abbrev pub code_of_front : Bool → ℕ
code_of_front false = 0
code_of_front true = 1

-- a restriction
abbrev pub restriction_of : ℕ × Limit → Restriction
restriction_of (number, limit) = record {
  number = number;
  line = limit.segment.line;
  from = limit.segment.from;
  to = limit.segment.to;
  ways = code_of_dirs limit.dirs;
  speed = limit.speed;
  front = code_of_front limit.front;
}

-- these are the active restrictions of a desk, numbers ascending
abbrev pub AreRestrictions : LiveDesk → List Restriction → Type 0
AreRestrictions desk given = given ≡ map restriction_of (active_limits desk.records)
