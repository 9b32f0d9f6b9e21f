-- What began to wait through an input: what waits after it, and did not wait before.
use Rattle.std.specs.Prelude.{ℕ, not, if◌then◌else◌, List, [], map, Option, Some, None, option_and_then}
use Rattle.std.specs.List.{filter, filter_map}
use Rattle.std.specs.Option.{option_map_or}
use Rattle.rbc_maps.specs.Maps.{value_of}
use Rattle.rbc_zones.specs.declared.segment.Segment.{Segment}
use Rattle.rbc_zones.specs.Limits.{Limit}
use Rattle.rbc_settle.specs.declared.train.TrainRec.{TrainRec}
use Rattle.rbc_records.specs.declared.record.Key.{Key}
use Rattle.rbc_records.specs.declared.record.Rec.{Rec}
use Rattle.rbc_rule.specs.Effect.{engine_of}
use Rattle.rbc_rule.specs.declared.input.Input.{Input}
use Rattle.rbc_rule.specs.declared.input.Input.TheVariants as input
use Rattle.rbc_rule.specs.declared.outcome.Reply.{Reply}
use Rattle.rbc_rule.specs.declared.outcome.Reply.TheVariants.{Done, Refused}
use Rattle.rbc_live.specs.declared.waiting.Waiting.{Waiting}
use Rattle.rbc_live.specs.Known.{train_in, engines_in, active_stops, active_limits}
use Rattle.rbc_live.specs.Waits.{stop_waits, limit_waits, waiting_stop, waiting_limit, waiting_at, waits_in}

-- the train that sent an input, if a train did
abbrev pub sender_in : List (Key × Rec) → Input → Option TrainRec
sender_in records (input.Received message) = train_in records (engine_of message)
sender_in records (input.Enrol engine length) = None
sender_in records (input.Withdraw engine) = None
sender_in records (input.Stop number segments) = None
sender_in records (input.Release number) = None
sender_in records (input.Restrict number segment dirs speed front) = None
sender_in records (input.Lift number) = None
sender_in records (input.Bad code) = None

-- what waits at a train after an input and did not wait at it before
abbrev pub newly : ℕ → List (Key × Rec) → Option TrainRec → TrainRec → List Waiting
newly horizon records before train =
    filter (λ waiting. not (waits_in (option_map_or (waiting_at horizon records) before []) waiting.what)) (waiting_at horizon records train)

-- the same with the engine, if it is enrolled
abbrev pub come_at : ℕ → List (Key × Rec) → ℕ → Option TrainRec → List (ℕ × Waiting)
come_at horizon records engine before = option_map_or (λ train. map (λ waiting. (engine, waiting)) (newly horizon records before train)) (train_in records engine) []

-- a stop or a restriction waits at a train, with its engine
abbrev pub stop_at : ℕ × List Segment → ℕ → TrainRec → Option (ℕ × Waiting)
stop_at stop engine train = if stop_waits train stop then Some (engine, waiting_stop train stop.0) else None

abbrev pub limit_at : ℕ → ℕ × Limit → ℕ → TrainRec → Option (ℕ × Waiting)
limit_at horizon limit engine train = if limit_waits horizon train limit then Some (engine, waiting_limit train limit.0) else None

-- the same for an engine, if it is enrolled
abbrev pub stop_come_at : List (Key × Rec) → ℕ × List Segment → ℕ → Option (ℕ × Waiting)
stop_come_at records stop engine = option_and_then (stop_at stop engine) (train_in records engine)

abbrev pub limit_come_at : List (Key × Rec) → ℕ → ℕ × Limit → ℕ → Option (ℕ × Waiting)
limit_come_at records horizon limit engine = option_and_then (limit_at horizon limit engine) (train_in records engine)

-- at which trains a stop or a restriction that began waits
abbrev pub stop_come : List (Key × Rec) → ℕ → List (ℕ × Waiting)
stop_come records number = option_map_or (λ area. filter_map (stop_come_at records (number, area)) (engines_in records)) (value_of (active_stops records) number) []

abbrev pub limit_come : List (Key × Rec) → ℕ → ℕ → List (ℕ × Waiting)
limit_come records horizon number = option_map_or (λ limit. filter_map (limit_come_at records horizon (number, limit)) (engines_in records)) (value_of (active_limits records) number) []

-- What began to wait through an accepted input: at its own train, or at any train if a stop or a restriction began.
abbrev pub come_by : ℕ → List (Key × Rec) → Option TrainRec → Input → List (ℕ × Waiting)
come_by horizon records before (input.Received message) = come_at horizon records (engine_of message) before
come_by horizon records before (input.Enrol engine length) = come_at horizon records engine None
come_by horizon records before (input.Stop number segments) = stop_come records number
come_by horizon records before (input.Restrict number segment dirs speed front) = limit_come records horizon number
come_by horizon records before (input.Withdraw engine) = []
come_by horizon records before (input.Release number) = []
come_by horizon records before (input.Lift number) = []
come_by horizon records before (input.Bad code) = []

-- an input that was refused changes nothing
abbrev pub come_to_wait : ℕ → List (Key × Rec) → Option TrainRec → Input → Reply → List (ℕ × Waiting)
come_to_wait horizon records before input (Done sent) = come_by horizon records before input
come_to_wait horizon records before input (Refused code) = []
