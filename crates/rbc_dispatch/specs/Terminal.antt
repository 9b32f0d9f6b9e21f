-- The notice on standard error for a batch that is typed.
use Rattle.std.specs.Prelude.{ℕ, List, Option, take}
use Rattle.std.specs.Io.KnownBytes.{Appends}

-- no more than the first bytes of the notice are written
abbrev pub SaysOnly : List ℕ → Option (List ℕ) → Option (List ℕ) → Type 0
SaysOnly notice old new = (sent : ℕ) × Appends old new (take sent notice)
