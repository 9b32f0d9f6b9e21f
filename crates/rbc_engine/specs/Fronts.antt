-- The next input of a book that no worker has any more.
use Rattle.std.specs.Prelude.{◌≡◌, ◌⊎◌, ◌+◌, ◌<◌, false, length}
use Rattle.rbc_core.specs.declared.book.Commit.{Commit}
use Rattle.rbc_core.specs.declared.book.Commit.TheVariants.{Applied, Recomputed, NotReady, Done, Failed}
use Rattle.rbc_core.specs.declared.stage.Stage.TheVariants.{Void}
use Rattle.rbc_core.specs.Runs.{Run}
use Rattle.rbc_core.specs.Core.{State, IsAt, IsReady, front}
use Rattle.rbc_core.specs.Books.{IsKept}

-- there is a next input, and it is neither attempted nor given up
pub record IsWaiting (run : Run) (s : State) : Type 0 where
  pub book : IsKept run s
  pub unclosed : s.closed ≡ false
  pub more : s.committed < length run.inputs
  pub unready : ¬ (IsReady s)

-- it is given up, and still the next
abbrev pub IsGivenUp : State → State → Type 0
IsGivenUp s t = (t.closed ≡ false) × (t.committed ≡ s.committed) × IsAt t (front t) Void

-- the next input is committed; it was not taken, and is not the first; there is none; or memory was refused
abbrev pub IsNext : Run → State → Commit → State → Type 0
IsNext run s Applied t = (s.committed < length run.inputs) × (t.committed ≡ s.committed + 1)
IsNext run s Recomputed t = (s.committed < length run.inputs) × (t.committed ≡ s.committed + 1)
IsNext run s NotReady t = (t ≡ s) × (s.taken ≡ s.committed) × (0 < s.committed)
IsNext run s Done t = t.committed ≡ length run.inputs
IsNext run s Failed t = Unit

-- a stretch is at its end: all inputs are committed, or all that were taken, and at least one
abbrev pub IsAtItsEnd : Run → State → Type 0
IsAtItsEnd run s = (s.committed ≡ length run.inputs) ⊎ ((s.taken ≡ s.committed) × (0 < s.committed))
