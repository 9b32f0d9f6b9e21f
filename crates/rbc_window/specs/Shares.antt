-- Shares of a window, each with trains of its own (own rule).
use Rattle.std.specs.Prelude.{◌≡◌, ◌⊎◌, ℕ, ◌++◌, List, [], ◌∷◌, Option, Some, None, true, map, All, IsTrue, slice_get}
use Rattle.ertms_codec.specs.declared.from_train.FromTrain.{FromTrain}
use Rattle.rbc_maps.specs.Maps.{value_of, with_value, IsMap}
use Rattle.rbc_settle.specs.declared.train.TrainRec.{TrainRec}
use Rattle.rbc_records.specs.declared.record.Key.{Key}
use Rattle.rbc_records.specs.declared.record.Key.TheVariants as key
use Rattle.rbc_records.specs.declared.record.Rec.{Rec}
use Rattle.rbc_records.specs.declared.record.Rec.TheVariants as rec
use Rattle.rbc_records.specs.Notes.{same_key}
use Rattle.rbc_rule.specs.declared.input.Input.{Input}
use Rattle.rbc_rule.specs.Effect.{engine_of}
use Rattle.rbc_rule.specs.Lists.{is_list}
use Rattle.rbc_rule.specs.Gathered.{AreSendable}
use Rattle.rbc_window.specs.declared.kept.Kept.{Kept}
use Rattle.rbc_window.specs.declared.share.Share.{Share}
use Rattle.rbc_window.specs.Messages.{Records, Setting, moves_in, outcome_of_message, records_after}
use Rattle.rbc_window.specs.Kept.{IsAnswerOf, AreKept, share_of}

-- a train under its key
abbrev pub train_write : ℕ × TrainRec → Key × Option Rec
train_write train = (key.Train train.0, Some (rec.Train train.1))

abbrev pub train_writes : List (ℕ × TrainRec) → List (Key × Option Rec)
train_writes trains = map train_write trains

-- what stands under an engine number: the train that the share has changed, or else what stood there when the window began
abbrev pub train_or : Option TrainRec → Option Rec → Option Rec
train_or None before = before
train_or (Some train) before = Some (rec.Train train)

-- A message changes its train, which may move from list to list, or nothing.
abbrev pub Changes : Setting → FromTrain → Option TrainRec → List (ℕ × TrainRec) → List (ℕ × TrainRec) → Kept → Type 0
Changes s message before old new kept =
    (((records : Records) → (outcome_of_message s records message before).writes ≡ []) × (new ≡ old) × (same_key kept.left kept.entered ≡ true))
    ⊎ ((after : TrainRec)
    × ((records : Records) → (outcome_of_message s records message before).writes
    ≡ moves_in records (engine_of message) kept.left kept.entered ++ (key.Train (engine_of message), Some (rec.Train after)) ∷ [])
    × (new ≡ with_value (engine_of message) after old))

-- A message is taken in by its train alone, whatever other records there are.
pub record IsTakenBy (s : Setting) (message : FromTrain) (before : Option TrainRec) (old new : List (ℕ × TrainRec)) (kept : Kept) : Type 0 where
  pub answer : (records : Records) → IsAnswerOf (outcome_of_message s records message before) kept.answer
  pub sendable : AreSendable kept.answer.messages.items
  pub left : IsTrue (is_list kept.left)
  pub entered : IsTrue (is_list kept.entered)
  pub changes : Changes s message before old new kept

-- the trains of a share stand as they do after all messages, and are trains of the share
pub record TrainsStand (s : Setting) (number : ℕ) (records : Records) (inputs : List Input) (trains : List (ℕ × TrainRec)) : Type 0 where
  pub stand : (engine : ℕ) → share_of engine ≡ number
      → train_or (value_of trains engine) (records (key.Train engine)) ≡ records_after s records inputs (key.Train engine)
  pub own : All (λ (train : ℕ × TrainRec). share_of train.0 ≡ number) trains
  pub rises : IsMap trains

-- A share has taken its messages in: it keeps what comes of each, and its trains stand as they do after all messages.
pub record HasTaken (s : Setting) (number : ℕ) (records : Records) (inputs : List Input) (trains : List (ℕ × TrainRec)) (kept : List Kept) : Type 0 where
  pub keeps : AreKept s number records inputs kept
  pub trained : TrainsStand s number records inputs trains

-- a share that says that it is done has done so
abbrev pub HasTakenIfDone : Setting → Records → List Input → Share → Type 0
HasTakenIfDone s records inputs share = share.is_done ≡ true → HasTaken s share.number records inputs share.trains share.kept.items

abbrev pub HaveTakenIfDone : Setting → Records → List Input → List Share → Type 0
HaveTakenIfDone s records inputs shares = All (HasTakenIfDone s records inputs) shares

-- each share stands at the place of its number, and says that it has taken its messages in
abbrev pub AreInPlaces : List Share → Type 0
AreInPlaces shares = (place : ℕ) (share : Share) → slice_get shares place ≡ Some share → (share.number ≡ place) × (share.is_done ≡ true)
