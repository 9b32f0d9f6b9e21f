-- The lines of what was read, one after another.
use Rattle.std.specs.Prelude.{◌≡◌, ◌≤◌, ◌*◌, ◌⊎◌, ℕ, Bool, true, false, List, [], ◌∷◌, ◌++◌, drop, length, Option, Result, Ok, Err}
use Rattle.std.specs.List.{slice_split}
use Rattle.std.specs.Io.KnownBytes.{Consumes, IsAtEnd}
use Rattle.std.specs.declared.alloc.AllocError.{AllocError}
use Rattle.rbc_text.specs.BatchText.{is_line_feed, lines_of}
use Rattle.rbc_text.specs.Calls.{max_calls}
use Rattle.rbc_text.specs.EndedLines.{ended_lines_of, joined}
use Rattle.rbc_text.specs.declared.calls.Calls.{Calls}
use Rattle.rbc_account.specs.declared.lines.LineFault.{LineFault}
use Rattle.rbc_account.specs.declared.lines.LineFault.TheVariants.{Read, Memory}
use Rattle.rbc_account.specs.declared.lines.LineReader.{LineReader}

-- the bytes of the piece that belong to no line yet
abbrev pub left_in : LineReader → List ℕ
left_in reader = drop reader.at reader.piece.items

-- no call has failed, no call gave more than 65536 bytes, and there are 2 ^ 47 calls at most
pub record AreCalls (calls : Calls) (batch : List ℕ) : Type 0 where
  pub sound : calls.failed ≡ false
  pub few : calls.made ≤ max_calls
  pub short : length batch ≤ 65536 * calls.made

-- the lines, and then those of what is left; at the end of the reader, all lines
abbrev pub IsRest : Bool → Option (List ℕ) → List ℕ → List (List ℕ) → List ℕ → Type 0
IsRest false new batch lines left = slice_split is_line_feed batch ≡ lines ++ slice_split is_line_feed left
IsRest true new batch lines left = IsAtEnd new × (lines_of batch ≡ lines)

-- These lines were given, which are the first of what was read.
pub record HasRead (old new : Option (List ℕ)) (reader : LineReader) (lines : List (List ℕ)) : Type 0 where
  pub batch : List ℕ
  pub read : Consumes old new batch
  pub calls : AreCalls reader.calls batch
  pub rest : IsRest reader.ended new batch lines (left_in reader)

-- These lines were given, and the next one has begun.
pub record IsMidway (old new : Option (List ℕ)) (reader : LineReader) (lines : List (List ℕ)) : Type 0 where
  pub batch : List ℕ
  pub read : Consumes old new batch
  pub calls : AreCalls reader.calls batch
  pub on : reader.ended ≡ false
  pub rest : slice_split is_line_feed batch ≡ lines ++ joined reader.line.items (slice_split is_line_feed (left_in reader))

-- these are the lines of all that a reader had left
abbrev pub AreAllLines : Option (List ℕ) → Option (List ℕ) → List (List ℕ) → Type 0
AreAllLines old new lines = (batch : List ℕ) × Consumes old new batch × IsAtEnd new × (lines_of batch ≡ lines)

-- these are the lines of what was read that had ended
abbrev pub AreEndedLines : Option (List ℕ) → Option (List ℕ) → List (List ℕ) → Type 0
AreEndedLines old new lines = (batch : List ℕ) × Consumes old new batch × (ended_lines_of batch ≡ lines)

-- these are the first lines of what was read
abbrev pub AreFirstLines : Option (List ℕ) → Option (List ℕ) → List (List ℕ) → Type 0
AreFirstLines old new lines = (batch : List ℕ) × (more : List (List ℕ)) × Consumes old new batch × (lines_of batch ≡ lines ++ more)

-- a call failed, or all calls were made
abbrev pub IsGivenUp : Calls → Type 0
IsGivenUp calls = (calls.failed ≡ true) ⊎ (calls.made ≡ max_calls)

-- One line more was given, or none is left, or there is a fault.
abbrev pub IsNext : Option (List ℕ) → Option (List ℕ) → LineReader → List (List ℕ) → Result Bool LineFault → Type 0
IsNext old new reader lines (Ok true) = HasRead old new reader (lines ++ reader.line.items ∷ [])
IsNext old new reader lines (Ok false) = HasRead old new reader lines × (reader.ended ≡ true)
IsNext old new reader lines (Err Read) = AreEndedLines old new lines × IsGivenUp reader.calls
IsNext old new reader lines (Err Memory) = AreFirstLines old new lines

-- The line was cut at its line feed, or goes on behind all that is left.
abbrev pub IsCut : Option (List ℕ) → Option (List ℕ) → LineReader → List (List ℕ) → Result Bool AllocError → Type 0
IsCut old new reader lines (Ok true) = HasRead old new reader (lines ++ reader.line.items ∷ []) × (reader.ended ≡ false)
IsCut old new reader lines (Ok false) = IsMidway old new reader lines × (left_in reader ≡ [])
IsCut old new reader lines (Err refused) = AreFirstLines old new lines

-- A piece more was read, or nothing is left to be read, or there is a fault.
abbrev pub IsFilled : Option (List ℕ) → Option (List ℕ) → LineReader → List (List ℕ) → Result Bool LineFault → Type 0
IsFilled old new reader lines (Ok true) = IsMidway old new reader lines
IsFilled old new reader lines (Ok false) = IsMidway old new reader lines × (left_in reader ≡ []) × IsAtEnd new
IsFilled old new reader lines (Err Read) = AreEndedLines old new lines × IsGivenUp reader.calls
IsFilled old new reader lines (Err Memory) = AreFirstLines old new lines
