-- What a worker knows of a book that others change.
use Rattle.std.specs.Prelude.{◌≡◌, ◌⊎◌, ℕ, ◌<◌, ◌≤◌, List, length, Option, Some}
use Rattle.rbc_records.specs.declared.record.Key.{Key}
use Rattle.rbc_versions.specs.Log.{LogName, Shown}
use Rattle.rbc_versions.specs.Entries.{number_for}
use Rattle.rbc_core.specs.Runs.{Run}
use Rattle.rbc_core.specs.Core.{Try, IsRightTry}
use Rattle.rbc_core.specs.Books.{BookValue, IsBook, state_of}
use Rattle.rbc_core.specs.Forwards.{IsLatest}

-- a number of an input, which counts from 1
abbrev pub IsNumber : Run → ℕ → Type 0
IsNumber run number = (1 ≤ number) × (number ≤ length run.inputs)

-- this was the number under a key as an input was to see it, or 0 if nothing stood there, in some state that a book of the run can be in
abbrev pub WasLatest : Run → LogName → ℕ → Key → ℕ → Type 0
WasLatest run log input key number = (b : BookValue) × IsBook run log b × IsLatest (state_of b) input key number

-- this was that number for each input from one on
abbrev pub WasLatestFrom : Run → LogName → ℕ → Key → ℕ → Type 0
WasLatestFrom run log first key number = (input : ℕ) → first ≤ input → WasLatest run log input key number

-- this is the number that a right attempt at an input puts under a key
abbrev pub IsPutBy : Run → ℕ → Key → ℕ → Type 0
IsPutBy run input key number = (a : Try) × IsRightTry run a × (a.number ≡ input) × (number_for a.writes key ≡ Some number)

-- an attempt at an earlier input puts this number there
abbrev pub IsPutBefore : Run → ℕ → Key → ℕ → Type 0
IsPutBefore run input key number = (earlier : ℕ) × (earlier < input) × IsPutBy run earlier key number

-- An input may see this number under a key: it was the latest, or the worker's own attempt at an earlier input, which it deposits first, puts it
-- there.
pub record MaySee (run : Run) (log : LogName) (input : ℕ) (key : Key) (number : ℕ) : Type 0 where
  pub origin : WasLatest run log input key number ⊎ IsPutBefore run input key number

-- what contracts see of a number of an input: the input, the key, and the number under it
pub record Numbered : Type 0 where
  pub input : ℕ
  pub key : Key
  pub number : ℕ

-- what contracts see of a recorder: the number of its input, its notes, and how many of its reads have failed
pub record Reading : Type 0 where
  pub input : ℕ
  pub notes : List (Key × Option Shown)
  pub failures : ℕ
