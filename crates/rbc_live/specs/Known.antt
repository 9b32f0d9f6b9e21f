-- What the records of an account say of trains, stops and restrictions.
use Rattle.std.specs.Prelude.{ℕ, List, [], Option, Some, None, option_and_then}
use Rattle.rbc_maps.specs.Numbered.{none_numbered}
use Rattle.rbc_maps.specs.Maps.{value_of}
use Rattle.rbc_ids.specs.Table.{Slots}
use Rattle.rbc_zones.specs.declared.segment.Segment.{Segment}
use Rattle.rbc_zones.specs.Limits.{Limit}
use Rattle.rbc_settle.specs.declared.train.TrainRec.{TrainRec}
use Rattle.rbc_settle.specs.Settling.{Stops, Limits}
use Rattle.rbc_settle.specs.WellFormed.{number_in}
use Rattle.rbc_records.specs.declared.record.Key.{Key}
use Rattle.rbc_records.specs.declared.record.Key.TheVariants as key
use Rattle.rbc_records.specs.declared.record.Rec.{Rec}
use Rattle.rbc_records.specs.declared.record.Rec.TheVariants as rec
use Rattle.rbc_records.specs.Notes.{record_in}

-- the train of a record, if it is one of a train
abbrev pub train_of : Option Rec → Option TrainRec
train_of None = None
train_of (Some (rec.Train train)) = Some train
train_of (Some (rec.Engines engines)) = None
train_of (Some (rec.Stops stops)) = None
train_of (Some (rec.Limits limits)) = None

-- the engines of a record, or none
abbrev pub engines_of : Option Rec → List ℕ
engines_of None = []
engines_of (Some (rec.Train train)) = []
engines_of (Some (rec.Engines engines)) = engines
engines_of (Some (rec.Stops stops)) = []
engines_of (Some (rec.Limits limits)) = []

-- the stops of a record, or none
abbrev pub stops_of : Option Rec → Stops
stops_of None = none_numbered
stops_of (Some (rec.Train train)) = none_numbered
stops_of (Some (rec.Engines engines)) = none_numbered
stops_of (Some (rec.Stops stops)) = stops
stops_of (Some (rec.Limits limits)) = none_numbered

-- the restrictions of a record, or none
abbrev pub limits_of : Option Rec → Limits
limits_of None = none_numbered
limits_of (Some (rec.Train train)) = none_numbered
limits_of (Some (rec.Engines engines)) = none_numbered
limits_of (Some (rec.Stops stops)) = none_numbered
limits_of (Some (rec.Limits limits)) = limits

-- the train with an engine number, if it is enrolled
abbrev pub train_in : List (Key × Rec) → ℕ → Option TrainRec
train_in records engine = train_of (record_in records (key.Train engine))

-- the enrolled engines, ascending
abbrev pub engines_in : List (Key × Rec) → List ℕ
engines_in records = engines_of (record_in records key.Roster)

-- the active stops, and the last number that was given to a stop
abbrev pub active_stops : List (Key × Rec) → List (ℕ × List Segment)
active_stops records = (stops_of (record_in records key.Stops)).active

abbrev pub last_stop : List (Key × Rec) → ℕ
last_stop records = (stops_of (record_in records key.Stops)).last

-- the active restrictions, and the last number that was given to a restriction
abbrev pub active_limits : List (Key × Rec) → List (ℕ × Limit)
active_limits records = (limits_of (record_in records key.Limits)).active

abbrev pub last_limit : List (Key × Rec) → ℕ
last_limit records = (limits_of (record_in records key.Limits)).last

-- the number that is told under an identifier
abbrev pub number_under : Slots → ℕ → Option ℕ
number_under slots id = option_and_then (λ slot. number_in slot) (value_of slots id)
