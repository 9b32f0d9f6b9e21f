-- The state of the trains.
use Rattle.std.specs.Prelude.{◌≡◌, ℕ, Bool, false, List, length, map, Option, Some, None, is_some, option_map, option_and_then}
use Rattle.std.specs.List.{filter, filter_map}
use Rattle.std.specs.Option.{unwrap_or}
use Rattle.rbc_maps.specs.Maps.{value_of}
use Rattle.rbc_ids.specs.declared.slot.Slot.{Slot}
use Rattle.rbc_ids.specs.declared.slot.Slot.TheVariants.{Used, Revoking}
use Rattle.rbc_ids.specs.Table.{Slots, identifier_of}
use Rattle.rbc_settle.specs.declared.train.TrainRec.{TrainRec}
use Rattle.rbc_records.specs.declared.record.Key.{Key}
use Rattle.rbc_records.specs.declared.record.Rec.{Rec}
use Rattle.rbc_live.specs.declared.waiting.Waiting.{Waiting}
use Rattle.rbc_live.specs.declared.waiting.Waits.{Waits}
use Rattle.rbc_live.specs.declared.waiting.Waits.TheVariants.{Stop, Restriction, Again}
use Rattle.rbc_account.specs.declared.state.Sharing.{Sharing}
use Rattle.rbc_account.specs.declared.state.Standing.{Standing}
use Rattle.rbc_account.specs.declared.state.TrainStanding.{TrainStanding}
use Rattle.rbc_live.specs.Known.{train_in, engines_in, active_stops, active_limits}
use Rattle.rbc_live.specs.Waits.{waits_in, kind_and_number}
use Rattle.rbc_live.specs.Waits.{waiting_at}
use Rattle.rbc_account.specs.Owed.{messages_owed}
use Rattle.rbc_account.specs.Totals.{owed_told, owed_total, owing_total, untold_total, again_total}

-- what waits at the train with an engine number, if it is enrolled
abbrev pub waiting_of : ℕ → List (Key × Rec) → ℕ → Option (ℕ × List Waiting)
waiting_of horizon records engine = option_map (λ train. (engine, waiting_at horizon records train)) (train_in records engine)

-- what waits at each train, engines ascending
abbrev pub waiting_everywhere : ℕ → List (Key × Rec) → List (ℕ × List Waiting)
waiting_everywhere horizon records = filter_map (waiting_of horizon records) (engines_in records)

-- the engine of a train, and what is told to wait there
abbrev pub waiting_told : TrainStanding → ℕ × List Waiting
waiting_told standing = (standing.engine, standing.waiting.items)

-- what is told to wait at the trains is what waits there
abbrev pub AreStandings : ℕ → List (Key × Rec) → List TrainStanding → Type 0
AreStandings horizon records standings = map waiting_told standings ≡ waiting_everywhere horizon records

-- how many messages the train with an engine number has not answered, if it is enrolled
abbrev pub owed_by : List (Key × Rec) → ℕ → Option ℕ
owed_by records engine = option_map messages_owed (train_in records engine)

-- what the trains are told to owe is what each of them owes, engines ascending
abbrev pub AreOwed : List (Key × Rec) → List TrainStanding → Type 0
AreOwed records standings = map owed_told standings ≡ filter_map (owed_by records) (engines_in records)

-- ---- to how many trains a stop or a restriction is told

-- whether the message that told the number of a slot is answered, if it tells one
abbrev pub acked_in : Slot → Option Bool
acked_in (Used used) = Some used.acked
acked_in (Revoking stamp) = None

-- the same for an identifier, and for a number
abbrev pub acked_under : Slots → ℕ → Option Bool
acked_under slots id = option_and_then (λ slot. acked_in slot) (value_of slots id)

abbrev pub answer_in : Slots → ℕ → Option Bool
answer_in slots number = option_and_then (acked_under slots) (identifier_of slots number)

-- whether a train answered a stop or acknowledged a restriction, if it is told to the train
abbrev pub answer_of : Waits → TrainRec → Option Bool
answer_of (Stop number) train = answer_in train.stops number
answer_of (Restriction number) train = answer_in train.limits number
answer_of (Again number) train = None

abbrev pub answer_at : List (Key × Rec) → Waits → ℕ → Option Bool
answer_at records what engine = option_and_then (answer_of what) (train_in records engine)

abbrev pub is_told_at : List (Key × Rec) → Waits → TrainStanding → Bool
is_told_at records what standing = is_some (answer_at records what standing.engine)

abbrev pub is_answered_at : List (Key × Rec) → Waits → TrainStanding → Bool
is_answered_at records what standing = unwrap_or (answer_at records what standing.engine) false

-- whether a stop or a restriction waits at a train
abbrev pub waits_at : Waits → TrainStanding → Bool
waits_at what standing = waits_in standing.waiting.items what

-- to how many of the trains a stop or a restriction is told, how many of them answered it, and at how many it waits
abbrev pub sharing_of : List (Key × Rec) → List TrainStanding → Waits → Sharing
sharing_of records standings what = record {
  number = (kind_and_number what).1;
  told = length (filter (is_told_at records what) standings);
  answered = length (filter (is_answered_at records what) standings);
  untold = length (filter (waits_at what) standings);
}

-- the same for each active stop, and for each active restriction
abbrev pub stop_sharings : List (Key × Rec) → List TrainStanding → List Sharing
stop_sharings records standings = map (λ stop. sharing_of records standings (Stop stop.0)) (active_stops records)

abbrev pub limit_sharings : List (Key × Rec) → List TrainStanding → List Sharing
limit_sharings records standings = map (λ limit. sharing_of records standings (Restriction limit.0)) (active_limits records)

-- The state: what waits at each train and what the train owes, to how many trains each active stop and restriction is
-- told, and the totals over all trains.
pub record IsStanding (horizon : ℕ) (records : List (Key × Rec)) (standing : Standing) : Type 0 where
  pub waits : AreStandings horizon records standing.trains.items
  pub of_stops : standing.stops.items ≡ stop_sharings records standing.trains.items
  pub of_limits : standing.limits.items ≡ limit_sharings records standing.trains.items
  pub owed_each : AreOwed records standing.trains.items
  pub owed : standing.acknowledgements ≡ owed_total records
  pub owing : standing.owing ≡ owing_total records
  pub untold : standing.untold ≡ untold_total horizon records
  pub untold_again : standing.untold_again ≡ again_total records
