-- What a book keeps: the desk now, the number of what stands under each key, and how far each input is (own rule).
use Rattle.std.specs.Prelude.{◌≡◌, ◌⊎◌, ℕ, ◌+◌, ◌-◌, ◌<◌, ◌≤◌, Bool, false, List, length, replicate, Some, slice_get, set}
use Rattle.rbc_records.specs.declared.record.Key.{Key}
use Rattle.rbc_records.specs.Notes.{Part}
use Rattle.rbc_versions.specs.Entries.{NumberedRec, records_of, AreCurrent, AreOfWrites}
use Rattle.rbc_rule.specs.declared.input.Input.{Input}
use Rattle.rbc_rule.specs.declared.outcome.Outcome.{Outcome}
use Rattle.rbc_rule.specs.Gathered.{AreSendable}
use Rattle.rbc_rule.specs.Right.{IsRight}
use Rattle.rbc_desk.specs.Held.{Standing, standing}
use Rattle.rbc_core.specs.declared.stage.Stage.{Stage}
use Rattle.rbc_core.specs.declared.stage.Stage.TheVariants.{Free, Tried, Void}
use Rattle.rbc_core.specs.Runs.{Run, IsInput}

-- An attempt: the number of an input; under each key that was read the number that was answered, with the record that
-- it means; what the input does if these still stand; and under each key that it writes the number of what it puts
-- there, with the record that it means.
pub record Try : Type 0 where
  pub number : ℕ
  pub notes : List (Key × NumberedRec)
  pub outcome : Outcome
  pub writes : List (Key × NumberedRec)

-- it is right: in each well-formed world that has the records that were read, its outcome is that of the input's step; and its numbers mean
-- what the outcome writes
pub record IsRightTry (run : Run) (a : Try) : Type 0 where
  pub input : Input
  pub is_input : IsInput run a.number input
  pub right : IsRight run.track input (Part (records_of a.notes)) a.outcome.result a.outcome.writes a.outcome.messages
  pub fit : AreSendable a.outcome.messages
  pub writes : AreOfWrites a.writes a.outcome.writes

-- the desk now, the number of what stands under each key (0 if nothing does), how far each input is, how many inputs
-- are committed, taken and recomputed, and whether it is closed to `take`
pub record State : Type 0 where
  pub desk : Standing
  pub present : Key → ℕ
  pub stages : List (Stage Try)
  pub committed : ℕ
  pub taken : ℕ
  pub recomputed : ℕ
  pub closed : Bool

-- a book that was just opened, whatever numbers its records were published under
abbrev pub opening : Run → (Key → ℕ) → State
opening run numbers = record { desk = standing run.opening; present = numbers; stages = replicate (length run.inputs) Free; committed = 0; taken = 0; recomputed = 0; closed = false }

-- the input of this number is taken, not committed, and at this stage
pub record IsAt (s : State) (number : ℕ) (stage : Stage Try) : Type 0 where
  pub uncommitted : s.committed < number
  pub taken : number ≤ s.taken
  pub at : slice_get s.stages (number - 1) ≡ Some stage

-- the number of the next input to be committed
abbrev pub front : State → ℕ
front s = s.committed + 1

-- the next input to be committed has an attempt, or was given up
abbrev pub IsReady : State → Type 0
IsReady s = ((a : Try) × IsAt s (front s) (Tried a)) ⊎ IsAt s (front s) Void

-- the next input was given up, or a number that was read for its attempt is not the present one
abbrev pub IsStale : State → Type 0
IsStale s = IsAt s (front s) Void ⊎ ((a : Try) × IsAt s (front s) (Tried a) × ¬ (AreCurrent a.notes s.present))

-- the stages with another one for the input of this number
abbrev pub with_stage : State → ℕ → Stage Try → List (Stage Try)
with_stage s number stage = set s.stages (number - 1) stage
