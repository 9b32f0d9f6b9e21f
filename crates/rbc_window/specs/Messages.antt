-- What messages from trains do to the records, one after another (own rule).
use Rattle.std.specs.Prelude.{ℕ, if◌then◌else◌, List, [], ◌∷◌, Option, Some, None, Result, Ok, Err}
use Rattle.std.specs.List.{fold}
use Rattle.ertms_codec.specs.declared.from_train.FromTrain.{FromTrain}
use Rattle.rbc_track.specs.Plan.{Plan}
use Rattle.rbc_settle.specs.declared.train.TrainRec.{TrainRec}
use Rattle.rbc_settle.specs.Numbers.{with_number, without_number}
use Rattle.rbc_settle.specs.Settling.{Stops, Limits}
use Rattle.rbc_records.specs.declared.record.Key.{Key}
use Rattle.rbc_records.specs.declared.record.Key.TheVariants as key
use Rattle.rbc_records.specs.declared.record.Rec.{Rec}
use Rattle.rbc_records.specs.declared.record.Rec.TheVariants as rec
use Rattle.rbc_records.specs.Notes.{same_key}
use Rattle.rbc_records.specs.Writes.{written}
use Rattle.rbc_rule.specs.declared.input.Input.{Input}
use Rattle.rbc_rule.specs.declared.input.Input.TheVariants.{Enrol, Withdraw, Stop, Release, Restrict, Lift, Received, Bad}
use Rattle.rbc_rule.specs.declared.outcome.Outcome.{Outcome}
use Rattle.rbc_rule.specs.declared.outcome.Reply.TheVariants.{Refused}
use Rattle.rbc_rule.specs.declared.refuse.Refusal.TheVariants.{UnknownTrain}
use Rattle.rbc_rule.specs.Codes.{code_of}
use Rattle.rbc_rule.specs.Effect.{engine_of, heard}
use Rattle.rbc_rule.specs.Records.{engines_record, list_of}
use Rattle.rbc_rule.specs.Lists.{engines_in}
use Rattle.rbc_rule.specs.Gathered.{heard_outcome}

-- the records under their keys
abbrev pub Records : Type 0
Records = Key → Option Rec

-- what messages are judged by: the track, the stops and the restrictions, none of which a message changes
pub record Setting : Type 0 where
  pub track : Plan
  pub stops : Stops
  pub limits : Limits

-- the train in a record
abbrev pub train_in : Option Rec → Option TrainRec
train_in None = None
train_in (Some (rec.Engines engines)) = None
train_in (Some (rec.Train train)) = Some train
train_in (Some (rec.Stops stops)) = None
train_in (Some (rec.Limits limits)) = None

-- what a train that moves from one list to another writes: nothing if both are the same
abbrev pub moves_in : Records → ℕ → Key → Key → List (Key × Option Rec)
moves_in records engine left entered =
    if same_key left entered then []
    else (left, engines_record (without_number engine (engines_in (records left)))) ∷ (entered, engines_record (with_number engine (engines_in (records entered)))) ∷ []

-- an input that is refused writes nothing and sends nothing
abbrev pub refused : ℕ → Outcome
refused code = record { result = Refused code; writes = []; messages = [] }

-- the outcome of a message, by its train after it, or by the code that refuses it
abbrev pub outcome_of_train : Setting → Records → ℕ → TrainRec → Result TrainRec ℕ → Outcome
outcome_of_train s records engine old (Err code) = refused code
outcome_of_train s records engine old (Ok train) = heard_outcome s.track s.stops s.limits engine train (moves_in records engine (list_of old) (list_of train))

-- the outcome of a message from the train that stands there, if there is one
abbrev pub outcome_of_message : Setting → Records → FromTrain → Option TrainRec → Outcome
outcome_of_message s records message None = refused (code_of UnknownTrain)
outcome_of_message s records message (Some old) = outcome_of_train s records (engine_of message) old (heard s.track message old)

-- The outcome of an input that is a message. Nothing is said of other inputs.
abbrev pub outcome_of : Setting → Records → Input → Outcome
outcome_of s records (Received message) = outcome_of_message s records message (train_in (records (key.Train (engine_of message))))
outcome_of s records (Enrol engine train_length) = refused 0
outcome_of s records (Withdraw engine) = refused 0
outcome_of s records (Stop number segments) = refused 0
outcome_of s records (Release number) = refused 0
outcome_of s records (Restrict number segment dirs speed front) = refused 0
outcome_of s records (Lift number) = refused 0
outcome_of s records (Bad code) = refused 0

-- the records after an input, and after inputs one after another
abbrev pub next_records : Setting → Records → Input → Records
next_records s records input = written (outcome_of s records input).writes records

abbrev pub records_after : Setting → Records → List Input → Records
records_after s records inputs = fold (next_records s) records inputs

-- the engine of the train that sent an input, if it is a message
abbrev pub sender : Input → Option ℕ
sender (Received message) = Some (engine_of message)
sender (Enrol engine train_length) = None
sender (Withdraw engine) = None
sender (Stop number segments) = None
sender (Release number) = None
sender (Restrict number segment dirs speed front) = None
sender (Lift number) = None
sender (Bad code) = None
