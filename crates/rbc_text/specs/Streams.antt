-- What was read from a reader, and what a writer has taken.
use Rattle.std.specs.Prelude.{◌≡◌, ◌≤◌, ◌-◌, ◌+◌, ◌^◌, ℕ, min, List, Option, take, length}
use Rattle.std.specs.Io.KnownBytes.{Appends, Consumes, IsAtEnd}
use Rattle.rbc_text.specs.declared.outlet.WriteFault.{WriteFault}

-- the batch is all that the reader had left
abbrev pub IsAllRead : Option (List ℕ) → Option (List ℕ) → List ℕ → Type 0
IsAllRead old new batch = Consumes old new batch × IsAtEnd new

-- a number as it is counted, up to 2 ^ 64 - 1
abbrev pub count_of : ℕ → ℕ
count_of number = min number (2 ^ 64 - 1)

-- the first bytes of a text are out, this many of them
abbrev pub IsPartOut : Option (List ℕ) → Option (List ℕ) → List ℕ → ℕ → Type 0
IsPartOut old new text sent = (out : ℕ) × (out ≤ length text) × (sent ≡ count_of out) × Appends old new (take out text)

-- the first bytes of a text are out, after this many others; the fault counts them all
abbrev pub IsCutShort : ℕ → List ℕ → Option (List ℕ) → Option (List ℕ) → WriteFault → Type 0
IsCutShort sent text old new fault = (part : ℕ) × (part ≤ length text) × Appends old new (take part text) × (fault.sent ≡ count_of (sent + part))
