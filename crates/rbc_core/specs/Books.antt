-- What is true of each book, and words for its parts.
use Rattle.std.specs.Prelude.{◌≡◌, ◌⊎◌, ℕ, ◌+◌, ◌-◌, ◌<◌, ◌≤◌, Bool, true, false, List, length, Option, Some, None, slice_get}
use Rattle.std.specs.Bool.{OnTrue}
use Rattle.std.specs.Option.{option_map}
use Rattle.rbc_records.specs.declared.record.Key.{Key}
use Rattle.rbc_records.specs.declared.record.Rec.{Rec}
use Rattle.rbc_records.specs.Notes.{AreNow, record_in}
use Rattle.rbc_versions.specs.Log.{LogName, Shown, number_of}
use Rattle.rbc_versions.specs.Entries.{AreCurrent, AreOfWrites, AreKeyedOf, StandIn, numbered, record_of, records_of, ticket_in, tickets_after}
use Rattle.rbc_rule.specs.declared.input.Input.{Input}
use Rattle.rbc_rule.specs.declared.outcome.Outcome.{Outcome}
use Rattle.rbc_desk.specs.Held.{Held, Standing, standing, AreOutboxes, IsOutcomeOf, after_outcome}
use Rattle.rbc_core.specs.declared.stage.Stage.{Stage}
use Rattle.rbc_core.specs.declared.stage.Stage.TheVariants.{Free, Out, Tried, Void}
use Rattle.rbc_core.specs.Runs.{Run, IsGoodRun, IsInput, IsSerialRun}
use Rattle.rbc_core.specs.Core.{Try, State}

-- what contracts see of a book, and the state that it stands for
pub record BookValue : Type 0 where
  pub desk : Held
  pub present : List (Key × Shown)
  pub stages : List (Stage Try)
  pub committed : ℕ
  pub taken : ℕ
  pub recomputed : ℕ
  pub closed : Bool

-- the number of what stands under a key now, by the present tickets, and the record
abbrev pub number_now : List (Key × Shown) → Key → ℕ
number_now tickets k = number_of (ticket_in tickets k)

abbrev pub record_now : List (Key × Shown) → Key → Option Rec
record_now tickets k = option_map record_of (ticket_in tickets k)

abbrev pub state_of : BookValue → State
state_of b = record { desk = standing b.desk; present = number_now b.present; stages = b.stages; committed = b.committed; taken = b.taken; recomputed = b.recomputed; closed = b.closed }

-- the stages that the input at an index may have, by how many inputs are committed and taken
abbrev pub IsStage : ℕ → ℕ → ℕ → Stage Try → Type 0
IsStage committed taken k Free = (k < committed) ⊎ (taken ≤ k)
IsStage committed taken k Out = (committed ≤ k) × (k < taken)
IsStage committed taken k (Tried a) = (committed ≤ k) × (k < taken) × (a.number ≡ k + 1)
IsStage committed taken k Void = (committed ≤ k) × (k < taken)

abbrev pub AreStages : ℕ → ℕ → List (Stage Try) → Type 0
AreStages committed taken stages = (k : ℕ) (g : Stage Try) → slice_get stages k ≡ Some g → IsStage committed taken k g

-- what is true of each book of a run
pub record IsKept (run : Run) (s : State) : Type 0 where
  pub good : IsGoodRun run
  pub serial : IsSerialRun run s.committed s.desk
  pub boxes : AreOutboxes s.desk.outboxes
  pub results : length s.desk.results ≡ length run.opening.results + s.committed
  pub all : length s.stages ≡ length run.inputs
  pub in_turn : s.committed ≤ s.taken
  pub in_range : s.taken ≤ length run.inputs
  pub counted : s.recomputed ≤ s.committed
  pub stages : AreStages s.committed s.taken s.stages

-- The present tickets show what stands under each key: each is of the log, its version was published under that key and
-- has the record that stands there. Without a record there is no ticket, so the number is 0.
pub record ArePresent (log : LogName) (tickets : List (Key × Shown)) (records : Key → Option Rec) : Type 0 where
  pub stand : StandIn log tickets
  pub show : (k : Key) → record_now tickets k ≡ records k

-- what is true of each book of a run, whose records are published in a log
pub record IsBook (run : Run) (log : LogName) (b : BookValue) : Type 0 where
  pub kept : IsKept run (state_of b)
  pub present : ArePresent log b.present (record_in b.desk.records)

-- the input of this number is taken, and neither attempted nor given up
abbrev pub IsOutIn : List (Stage Try) → ℕ → Type 0
IsOutIn stages number = (1 ≤ number) × (slice_get stages (number - 1) ≡ Some Out)

-- Whether an input at this stage can be committed and, if so, whether by its attempt: exactly if the number of each
-- note is the present one. Then its record is too.
abbrev pub Judges : List (Key × Shown) → Stage Try → Option Bool → Type 0
Judges tickets (Tried a) (Some true) = AreCurrent a.notes (number_now tickets) × AreNow (records_of a.notes) (record_now tickets)
Judges tickets (Tried a) (Some false) = ¬ (AreCurrent a.notes (number_now tickets))
Judges tickets Void (Some false) = Unit
Judges tickets Free None = Unit
Judges tickets Out None = Unit
Judges tickets (Tried a) None = ⊥
Judges tickets Void (Some true) = ⊥
Judges tickets Void None = ⊥
Judges tickets Free (Some fresh) = ⊥
Judges tickets Out (Some fresh) = ⊥

abbrev pub IsJudged : List (Stage Try) → ℕ → List (Key × Shown) → Option Bool → Type 0
IsJudged stages index tickets answer = (g : Stage Try) × (slice_get stages index ≡ Some g) × Judges tickets g answer

-- an outcome of the input at an index, with its publication: right for the records, and that of the attempt if the attempt is fresh
pub record IsOutcomeAt (run : Run) (log : LogName) (index : ℕ) (stage : Stage Try) (is_fresh : Bool) (records : Key → Option Rec) (outcome : Outcome) (entries : List (Key × Option Shown)) : Type 0 where
  pub input : Input
  pub is_input : IsInput run (index + 1) input
  pub right : IsOutcomeOf run.track input records outcome
  pub published : AreKeyedOf log entries
  pub writes : AreOfWrites (numbered entries) outcome.writes
  pub attempt : OnTrue is_fresh ((a : Try) × (stage ≡ Tried a) × (outcome ≡ a.outcome) × (numbered entries ≡ a.writes))

-- the desk and the present tickets after such an outcome
pub record IsCarriedOut (run : Run) (log : LogName) (index : ℕ) (stage : Stage Try) (is_fresh : Bool) (old new : Standing) (before now : List (Key × Shown)) : Type 0 where
  pub outcome : Outcome
  pub entries : List (Key × Option Shown)
  pub is_outcome : IsOutcomeAt run log index stage is_fresh old.records outcome entries
  pub taken_over : new ≡ after_outcome old outcome
  pub tickets : (k : Key) → ticket_in now k ≡ tickets_after entries (ticket_in before) k
