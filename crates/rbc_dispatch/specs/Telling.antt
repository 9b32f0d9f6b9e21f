-- What comes of a text that is written for people.
use Rattle.std.specs.Prelude.{◌≤◌, ⊤, ℕ, List, Option, None, Some, Result, Ok, Err, take, length}
use Rattle.std.specs.Io.KnownBytes.{Appends}
use Rattle.rbc_dispatch.specs.Parts.{IsPartOn}
use Rattle.rbc_dispatch.specs.declared.fault.Fault.{Fault}
use Rattle.rbc_dispatch.specs.declared.fault.Fault.TheVariants.{Write, ReaderGone, OutOfMemory}

-- the text is cut short, at a write fault or because its reader went away: exactly its first bytes are out
abbrev pub IsCutShort : Fault → Option (List ℕ) → Option (List ℕ) → List ℕ → Type 0
IsCutShort (Write sent) old new text = (sent ≤ length text) × Appends old new (take sent text)
IsCutShort (ReaderGone sent) old new text = (sent ≤ length text) × Appends old new (take sent text)
IsCutShort _ old new text = ⊥

-- At Ok this text is added to the output, and nothing else; otherwise the text is cut short.
abbrev pub TellsPage : {E : Type 0} → List ℕ → Option (List ℕ) → Option (List ℕ) → Result E Fault → Type 0
TellsPage page old new (Ok done) = Appends old new page
TellsPage page old new (Err fault) = IsCutShort fault old new page

-- the list of the codes, or the part on one code
abbrev pub IsListOf : Option ℕ → List ℕ → Type 0
IsListOf None text = ⊤
IsListOf (Some code) text = IsPartOn code text

-- At Ok the list is added to the output, and nothing else; otherwise the list is cut short, or memory ran out.
abbrev pub TellsCodes : {E : Type 0} → Option ℕ → Option (List ℕ) → Option (List ℕ) → Result E Fault → Type 0
TellsCodes code old new (Ok done) = (text : List ℕ) × IsListOf code text × Appends old new text
TellsCodes code old new (Err (Write sent)) = (text : List ℕ) × IsListOf code text × (sent ≤ length text) × Appends old new (take sent text)
TellsCodes code old new (Err (ReaderGone sent)) = (text : List ℕ) × IsListOf code text × (sent ≤ length text) × Appends old new (take sent text)
TellsCodes code old new (Err OutOfMemory) = ⊤
TellsCodes code old new (Err _) = ⊥
