-- What comes of what the arguments ask for.
use Rattle.std.specs.Prelude.{◌≡◌, ◌⊎◌, ⊤, ℕ, Bool, true, false, List, [], ◌∷◌, Option, None, Result, Ok, Err}
use Rattle.rbc_dispatch.specs.Checking.{Checks, IsUnreported}
use Rattle.rbc_dispatch.specs.Decoding.{Decodes, DecodesLong, IsUntouched}
use Rattle.rbc_dispatch.specs.Ending.{status_of_fault}
use Rattle.rbc_dispatch.specs.Filtering.{DecodesAllLines, EncodesLines, EncodesTextOn}
use Rattle.rbc_dispatch.specs.Living.{Lives}
use Rattle.rbc_dispatch.specs.Running.{Keeps, Runs}
use Rattle.rbc_dispatch.specs.Showing.{DrawsPicture, TellsLog}
use Rattle.rbc_dispatch.specs.Telling.{TellsCodes}
use Rattle.rbc_dispatch.specs.Terminal.{SaysOnly}
use Rattle.rbc_dispatch.specs.Words.{Asks, Asked, Run, Live, Explain, Picture, Check, Encode, Decode, DecodeLines, Codes, Page, IsSelected}
use Rattle.rbc_dispatch.specs.declared.fault.Fault.{Fault}

-- What comes of a task, by what the reader had left before and has left after, what was written before and is after, and both streams before and
-- after. What a page of help says stands elsewhere.
abbrev pub Does : {E I O : Type 0} → Asked → Option (List ℕ) → Option (List ℕ) → Option (List ℕ) → Option (List ℕ) → I → I → O → O → Result E Fault → Type 0
Does {E = E} (Run file workers by_train stats alarms) read_old read_new old new i j o p r = Runs {E = E} workers alarms read_old read_new old new r × Keeps {E = E} r i j o p
Does {E = E} (Live file wanted) read_old read_new old new i j o p r = Lives {E = E} wanted read_old read_new old new r × Keeps {E = E} r i j o p
Does {E = E} (Explain file wanted json) read_old read_new old new i j o p r = TellsLog {E = E} wanted json read_old read_new old new r × Keeps {E = E} r i j o p
Does {E = E} (Picture file after chosen) read_old read_new old new i j o p r =
    IsSelected chosen (λ selection. DrawsPicture {E = E} after selection read_old read_new old new r) × Keeps {E = E} r i j o p
    × IsUntouched {E = E} r o p
Does {E = E} (Check file other json) read_old read_new old new i j o p r = (j ≡ i) × Checks {E = E} r × IsUnreported {E = E} r o p
Does {E = E} (Encode file []) read_old read_new old new i j o p r = EncodesLines {E = E} file read_old read_new old new r
Does {E = E} (Encode file (space ∷ text)) read_old read_new old new i j o p r = (j ≡ i) × EncodesTextOn {E = E} file text old new r
Does {E = E} (Decode word true) read_old read_new old new i j o p r = (j ≡ i) × IsUntouched {E = E} r o p × DecodesLong {E = E} word old new r
Does {E = E} (Decode word false) read_old read_new old new i j o p r = (j ≡ i) × IsUntouched {E = E} r o p × Decodes {E = E} word old new r
Does {E = E} DecodeLines read_old read_new old new i j o p r = DecodesAllLines {E = E} read_old read_new old new r
Does {E = E} (Codes code false) read_old read_new old new i j o p r = (j ≡ i) × TellsCodes {E = E} code old new r
Does {E = E} (Codes code true) read_old read_new old new i j o p r = (j ≡ i) × TellsCodes {E = E} None old new r
Does (Page topic) read_old read_new old new i j o p r = j ≡ i

-- at a terminal no more than the first bytes of the notice are added, and nothing where there is no terminal
abbrev pub Announces : {W : Type 0} → Bool → List ℕ → W → W → Option (List ℕ) → Option (List ℕ) → Type 0
Announces at_terminal notice old new held_old held_new = (at_terminal ≡ false → new ≡ old) × SaysOnly notice held_old held_new

-- What a task leaves on standard error: a run with figures its report, a task that reads a batch the notice, and any other nothing.
abbrev pub LeavesErrors : {W : Type 0} → Asked → Bool → List ℕ → W → W → Option (List ℕ) → Option (List ℕ) → Type 0
LeavesErrors (Run file workers by_train true false) at_terminal notice old new held_old held_new = ⊤
LeavesErrors (Run file workers by_train false false) at_terminal notice old new held_old held_new = Announces at_terminal notice old new held_old held_new
LeavesErrors (Run file workers by_train stats true) at_terminal notice old new held_old held_new = Announces at_terminal notice old new held_old held_new
LeavesErrors (Live file wanted) at_terminal notice old new held_old held_new = Announces at_terminal notice old new held_old held_new
LeavesErrors (Explain file wanted json) at_terminal notice old new held_old held_new = Announces at_terminal notice old new held_old held_new
LeavesErrors _ at_terminal notice old new held_old held_new = new ≡ old

-- ---- the whole program

-- the exit status after a task: 0 if it was done, or if the reader of a text for people went away
abbrev pub status_of_task : {E : Type 0} → Result E Fault → ℕ
status_of_task (Ok done) = 0
status_of_task (Err fault) = status_of_fault fault

-- The words that were read ask for a task. It came to this end, and the exit status is that of the end.
pub record IsTaskDone {I O : Type 0} (read_old read_new old new : Option (List ℕ)) (i j : I) (o p : O) (status : ℕ) : Type 0 where
  pub words : List (List ℕ)
  pub asked : Asked
  pub asks : Asks asked words
  pub came : Result (Unit {0}) Fault
  pub does : Does asked read_old read_new old new i j o p came
  pub is_status : status ≡ status_of_task came

-- No task was begun. Nothing is read, and standard output is as it was, unless help or the version was asked for.
abbrev pub IsNoTaskDone : {I O : Type 0} → I → I → O → O → ℕ → Type 0
IsNoTaskDone i j o p status = (j ≡ i) × ((status ≡ 0) ⊎ (p ≡ o))

-- What comes of the program as a whole. The kit does not say which words it was given.
abbrev pub IsWholeRun : {I O : Type 0} → Option (List ℕ) → Option (List ℕ) → Option (List ℕ) → Option (List ℕ) → I → I → O → O → ℕ → Type 0
IsWholeRun read_old read_new old new i j o p status = IsTaskDone read_old read_new old new i j o p status ⊎ IsNoTaskDone i j o p status
