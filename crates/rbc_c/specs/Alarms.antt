-- The alarms of a desk as C has them (own layout).
use Rattle.std.specs.Prelude.{◌≡◌, ℕ, List, map}
use Rattle.rbc_live.specs.declared.alarm.Alarm.{Alarm as Stands}
use Rattle.rbc_live.specs.declared.desk.LiveDesk.{LiveDesk}
use Rattle.rbc_live.specs.Alarms.{rank}
use Rattle.rbc_live.specs.Watching.{AreAlarmsOn}
use Rattle.rbc_c.specs.declared.alarms.Alarm.{Alarm}

-- an alarm of a train, with its engine number, as C has it
abbrev pub alarm_of : ℕ × Stands → Alarm
alarm_of (engine, alarm) = record { engine = engine; kind = (rank alarm).0; number = (rank alarm).1 }

-- these are the alarms that stand on a desk, in their order
abbrev pub AreAlarms : LiveDesk → List Alarm → Type 0
AreAlarms desk given = (alarms : List (ℕ × Stands)) × AreAlarmsOn desk.track desk.records alarms × (given ≡ map alarm_of alarms)
