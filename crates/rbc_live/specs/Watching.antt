-- The alarms that are kept between inputs.
use Rattle.std.specs.Prelude.{◌≡◌, ◌<◌, ◌≤◌, ℕ, ◌+◌, Bool, true, false, ◌==◌, ◌||◌, nat_eq, if◌then◌else◌, List, [], Option, Some, None, is_none, option_and_then}
use Rattle.std.specs.List.{flat_map, list_any}
use Rattle.std.specs.Map.{lookup}
use Rattle.std.specs.Option.{option_map_or, unwrap_or}
use Rattle.rbc_settle.specs.declared.train.TrainRec.{TrainRec}
use Rattle.rbc_settle.specs.Numbers.{AreNumbers, has_number}
use Rattle.rbc_records.specs.declared.record.Key.{Key}
use Rattle.rbc_records.specs.declared.record.Key.TheVariants as key
use Rattle.rbc_records.specs.declared.record.Rec.{Rec}
use Rattle.rbc_records.specs.Notes.{is_noted, record_in}
use Rattle.rbc_rule.specs.World.{World}
use Rattle.rbc_text.specs.Held.{AreRecordsOf}
use Rattle.rbc_track.specs.Plan.{Plan}
use Rattle.rbc_live.specs.declared.alarm.Alarm.{Alarm}
use Rattle.rbc_live.specs.declared.wanted.Wanted.{Wanted}
use Rattle.rbc_live.specs.Known.{train_in, active_stops, active_limits}
use Rattle.rbc_live.specs.Waits.{lacks_something}
use Rattle.rbc_live.specs.Alarms.{alarms_at, all_alarms, engine_lines}

-- a train may have alarms: it has no place, or lacks something for a message
abbrev pub may_alarm : TrainRec → Bool
may_alarm train = is_none train.place || lacks_something train

-- the alarms of a train that may have any, by the active stops and restrictions of records
abbrev pub alarms_if_any : ℕ → List (Key × Rec) → TrainRec → Option (List Alarm)
alarms_if_any horizon records train = if may_alarm train then Some (alarms_at horizon (active_stops records) (active_limits records) train) else None

-- the same for the train with an engine number, if it is enrolled
abbrev pub seen_of : ℕ → List (Key × Rec) → ℕ → Option (List Alarm)
seen_of horizon records engine = option_and_then (alarms_if_any horizon records) (train_in records engine)

-- the alarms that are kept of an engine
abbrev pub seen_in : List (ℕ × List Alarm) → ℕ → Option (List Alarm)
seen_in seen engine = lookup (nat_eq engine) seen

-- what is kept after that of one engine is replaced
abbrev pub seen_with : ℕ → Option (List Alarm) → (ℕ → Option (List Alarm)) → ℕ → Option (List Alarm)
seen_with engine alarms seen other = if engine == other then alarms else seen other

-- the alarms that are kept, or none
abbrev pub or_none : Option (List Alarm) → List Alarm
or_none seen = unwrap_or seen []

-- alarms are kept for each train that may have any, and for no other
abbrev pub IsWatch : ℕ → List (Key × Rec) → List (ℕ × List Alarm) → Type 0
IsWatch horizon records seen = (engine : ℕ) → seen_in seen engine ≡ seen_of horizon records engine

-- whether a key is that of the active stops or restrictions
abbrev pub is_zone : Key → Bool
is_zone key.Roster = false
is_zone (key.Train engine) = false
is_zone key.Stops = true
is_zone key.Limits = true
is_zone (key.Line line) = false
is_zone key.Unplaced = false

-- the engine number of a train's key
abbrev pub engine_of : Key → Option ℕ
engine_of key.Roster = None
engine_of (key.Train engine) = Some engine
engine_of key.Stops = None
engine_of key.Limits = None
engine_of (key.Line line) = None
engine_of key.Unplaced = None

-- whether writes are of the active stops or restrictions, and whether they are of a train
abbrev pub are_zones_written : List (Key × Option Rec) → Bool
are_zones_written writes = list_any (λ write. is_zone write.0) writes

abbrev pub is_train_written : List (Key × Option Rec) → ℕ → Bool
is_train_written writes engine = list_any (λ write. option_map_or (λ written. written == engine) (engine_of write.0) false) writes

-- records stay, except those under the keys of writes
abbrev pub StayBut : List (Key × Option Rec) → List (Key × Rec) → List (Key × Rec) → Type 0
StayBut writes before after = (k : Key) → is_noted writes k ≡ false → record_in after k ≡ record_in before k

-- the lines of an engine, by the alarms that were seen before and after an input
abbrev pub seen_lines : ℕ → (ℕ → Option (List Alarm)) → (ℕ → Option (List Alarm)) → ℕ → List ℕ
seen_lines input before after engine = engine_lines input engine (or_none (before engine)) (or_none (after engine))

-- The text is that of the lines of some engines, in ascending order; no other engine has any.
pub record AreSeenLines (input : ℕ) (before after : ℕ → Option (List Alarm)) (text : List ℕ) : Type 0 where
  pub engines : List ℕ
  pub ascending : AreNumbers engines
  pub others : (engine : ℕ) → has_number engines engine ≡ false → seen_lines input before after engine ≡ []
  pub spelled : text ≡ flat_map (seen_lines input before after) engines

-- nothing was seen before
abbrev pub none_seen : ℕ → Option (List Alarm)
none_seen engine = None

-- a watch is kept exactly if alarms are wanted
abbrev pub IsWatchFor : Bool → ℕ → List (Key × Rec) → Option (List (ℕ × List Alarm)) → Type 0
IsWatchFor false horizon records None = Unit
IsWatchFor true horizon records None = ⊥
IsWatchFor false horizon records (Some watch) = ⊥
IsWatchFor true horizon records (Some watch) = IsWatch horizon records watch

-- the alarm lines with the answer to an input, by the alarms that were seen before and after it
pub record IsAlarmPart (wanted : Wanted) (input : ℕ) (before after : ℕ → Option (List Alarm)) (text : List ℕ) : Type 0 where
  pub unwanted : wanted.alarms ≡ false → text ≡ []
  pub change : wanted.alarms ≡ true → wanted.from ≤ input → AreSeenLines input before after text
  pub stand : wanted.alarms ≡ true → input + 1 ≡ wanted.from → AreSeenLines input none_seen after text
  pub earlier : wanted.alarms ≡ true → input + 1 < wanted.from → text ≡ []

-- these are all alarms of the world that has the records
abbrev pub AreAlarmsOn : Plan → List (Key × Rec) → List (ℕ × Alarm) → Type 0
AreAlarmsOn plan records alarms = (w : World) → AreRecordsOf plan (record_in records) w → alarms ≡ all_alarms plan w
