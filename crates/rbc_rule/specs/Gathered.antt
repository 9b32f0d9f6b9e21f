-- What settling trains writes and sends, by the records that were read (own rule).
use Rattle.std.specs.Prelude.{◌≡◌, ℕ, Bool, false, ◌==◌, if◌then◌else◌, List, [], ◌∷◌, ◌++◌, Option, Some, None, IsTrue, length, ◌&&◌, not}
use Rattle.std.specs.List.{flat_map, fold, scan, All}
use Rattle.std.specs.Option.{unwrap_or, option_map_or}
use Rattle.ertms_codec.specs.ToTrain.{Fits}
use Rattle.rbc_track.specs.Plan.{Plan}
use Rattle.rbc_maps.specs.Maps.{value_of, keys}
use Rattle.rbc_maps.specs.Numbered.{Numbered, none_numbered}
use Rattle.rbc_settle.specs.declared.train.TrainRec.{TrainRec}
use Rattle.rbc_settle.specs.declared.sent.Sent.{Sent}
use Rattle.rbc_settle.specs.Numbers.{has_number, with_number, without_number}
use Rattle.rbc_settle.specs.Trains.{new_train}
use Rattle.rbc_settle.specs.Settling.{Stops, Limits, actions_with_stamp, settled, messages_of, carried_out, message_of, to_engine}
use Rattle.rbc_settle.specs.declared.single_change.Change.{Change}
use Rattle.rbc_settle.specs.SingleChange.{actions_for}
use Rattle.rbc_records.specs.declared.record.Key.{Key}
use Rattle.rbc_records.specs.declared.record.Key.TheVariants as key
use Rattle.rbc_records.specs.declared.record.Rec.{Rec}
use Rattle.rbc_records.specs.declared.record.Rec.TheVariants as rec
use Rattle.rbc_rule.specs.declared.outcome.Outcome.{Outcome}
use Rattle.rbc_rule.specs.declared.outcome.Reply.TheVariants.{Done}
use Rattle.rbc_rule.specs.Effect.{forget}
use Rattle.rbc_rule.specs.Records.{engines_record}
use Rattle.rbc_rule.specs.Touching.{released_by}

-- without a record, nothing was ever given a number
abbrev pub or_none : {V : Type 0} → Option (Numbered V) → Numbered V
or_none numbered = unwrap_or numbered none_numbered

-- a train, which no longer stops at once for the released stop, if there is one
abbrev pub forgotten : Option ℕ → TrainRec → TrainRec
forgotten None train = train
forgotten (Some number) train = forget number train

-- a train stops at once for the released stop
abbrev pub is_forced_by : Option ℕ → TrainRec → Bool
is_forced_by None train = false
is_forced_by (Some number) train = has_number train.forced number

-- the record of a train stays as it is
abbrev pub is_same : Plan → Stops → Limits → Option ℕ → TrainRec → Bool
is_same plan stops limits released train =
    not (is_forced_by released train) && length (actions_with_stamp plan stops limits train) == 0

-- the train after it is settled
abbrev pub settled_train : Plan → Stops → Limits → Option ℕ → TrainRec → TrainRec
settled_train plan stops limits released train = settled plan stops limits (forgotten released train)

-- the write of a train that changes, under its engine number
abbrev pub write_of : Plan → Stops → Limits → Option ℕ → TrainRec → List (Key × Option Rec)
write_of plan stops limits released train =
    if is_same plan stops limits released train then []
    else (key.Train train.engine, Some (rec.Train (settled_train plan stops limits released train))) ∷ []

-- the messages to a train that is settled
abbrev pub sent_of : Plan → Stops → Limits → Option ℕ → TrainRec → List Sent
sent_of plan stops limits released train = to_engine train.engine (messages_of plan stops limits (forgotten released train))

-- ---- by the change alone

-- the record of a train that was settled before a change stays as it is
abbrev pub is_same_by : Plan → Change → TrainRec → Bool
is_same_by plan changed train = not (is_forced_by (released_by changed) train) && length (actions_for plan changed train) == 0

-- the write of that train, and its message, by the action for the change alone
abbrev pub write_by : Plan → Change → TrainRec → List (Key × Option Rec)
write_by plan changed train =
    let start = forgotten (released_by changed) train in
    if is_same_by plan changed train then []
    else (key.Train train.engine, Some (rec.Train (fold carried_out start (actions_for plan changed start)))) ∷ []

abbrev pub sent_by : Plan → Change → TrainRec → List Sent
sent_by plan changed train =
    let start = forgotten (released_by changed) train in
    to_engine train.engine (scan carried_out message_of start (actions_for plan changed start))

-- ---- all trains

-- the writes and the messages of all trains
abbrev pub writes_of : Plan → Stops → Limits → Option ℕ → List (ℕ × TrainRec) → List (Key × Option Rec)
writes_of plan stops limits released trains = flat_map (λ train. write_of plan stops limits released train.1) trains

abbrev pub all_sent : Plan → Stops → Limits → Option ℕ → List (ℕ × TrainRec) → List Sent
all_sent plan stops limits released trains = flat_map (λ train. sent_of plan stops limits released train.1) trains

-- the write and the messages of the train of an engine
abbrev pub write_at : Plan → Stops → Limits → Option ℕ → List (ℕ × TrainRec) → ℕ → List (Key × Option Rec)
write_at plan stops limits released trains engine = option_map_or (write_of plan stops limits released) (value_of trains engine) []

abbrev pub sent_at : Plan → Stops → Limits → Option ℕ → List (ℕ × TrainRec) → ℕ → List Sent
sent_at plan stops limits released trains engine = option_map_or (sent_of plan stops limits released) (value_of trains engine) []

-- each message has its variables in their ranges
abbrev pub AreSendable : List Sent → Type 0
AreSendable sent = All (λ one. Fits one.message) sent

-- Settling the trains of these engines alone writes and sends what settling all trains does.
pub record IsEnough (plan : Plan) (stops : Stops) (limits : Limits) (released : Option ℕ) (trains : List (ℕ × TrainRec)) (engines : List ℕ) : Type 0 where
  pub enrolled : All (λ engine. IsTrue (has_number (keys trains) engine)) engines
  pub writes : flat_map (write_at plan stops limits released trains) engines ≡ writes_of plan stops limits released trains
  pub sent : flat_map (sent_at plan stops limits released trains) engines ≡ all_sent plan stops limits released trains

-- ---- outcomes for one train

-- the outcome for a new train, beside the engines that are enrolled, and those of them without a place
abbrev pub enrolled_outcome : Plan → Stops → Limits → ℕ → ℕ → List ℕ → List ℕ → Outcome
enrolled_outcome plan stops limits engine train_length engines unplaced =
    let train = new_train engine train_length 0 in
    record {
      result = Done (length (messages_of plan stops limits train));
      writes =
          (key.Roster, engines_record (with_number engine engines))
          ∷ (key.Train engine, Some (rec.Train (settled plan stops limits train)))
          ∷ (key.Unplaced, engines_record (with_number engine unplaced))
          ∷ [];
      messages = to_engine engine (messages_of plan stops limits train);
    }

-- the outcome for a train that leaves the enrolled engines, and the list in which it stood
abbrev pub withdrawn_outcome : ℕ → List ℕ → Key → List ℕ → Outcome
withdrawn_outcome engine engines list others = record {
  result = Done 0;
  writes = (key.Roster, engines_record (without_number engine engines)) ∷ (key.Train engine, None) ∷ (list, engines_record (without_number engine others)) ∷ [];
  messages = [];
}

-- the outcome for a train after its message, with what it writes first if it moves from list to list
abbrev pub heard_outcome : Plan → Stops → Limits → ℕ → TrainRec → List (Key × Option Rec) → Outcome
heard_outcome plan stops limits engine train moved = record {
  result = Done (length (messages_of plan stops limits train));
  writes = moved ++ (key.Train engine, Some (rec.Train (settled plan stops limits train))) ∷ [];
  messages = to_engine train.engine (messages_of plan stops limits train);
}

-- the outcome of settling all trains, with one more write
abbrev pub settled_outcome : Plan → Stops → Limits → Option ℕ → List (ℕ × TrainRec) → Key → Rec → Outcome
settled_outcome plan stops limits released trains k new = record {
  result = Done (length (all_sent plan stops limits released trains));
  writes = writes_of plan stops limits released trains ++ (k, Some new) ∷ [];
  messages = all_sent plan stops limits released trains;
}
