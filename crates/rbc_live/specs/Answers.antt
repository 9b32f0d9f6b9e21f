-- What is written when lines are answered as they come.
use Rattle.std.specs.Prelude.{ℕ, List, Option, Result, Ok, Err, ◌++◌, codes}
use Rattle.std.specs.Fmt.{decimal}
use Rattle.std.specs.Io.KnownBytes.{Appends, Consumes}
use Rattle.rbc_track.specs.Plan.{Plan}
use Rattle.rbc_text.specs.BatchText.{lines_of}
use Rattle.rbc_text.specs.EndedLines.{ended_lines_of}
use Rattle.rbc_text.specs.Streams.{IsAllRead, IsPartOut}
use Rattle.rbc_live.specs.Lines.{AreAnswers, AreFirstAnswers}
use Rattle.rbc_live.specs.declared.prompt.PromptError.{PromptError}
use Rattle.rbc_live.specs.declared.wanted.Wanted.{Wanted}
use Rattle.rbc_live.specs.declared.prompt.PromptError.TheVariants.{Read, Memory, Write}

-- At Ok what is wanted for all lines that were read is out, and nothing else. At a read fault, what is wanted for all
-- lines that have ended. If memory was refused, what is wanted for the first lines, each answer whole. At a write
-- fault, the first bytes of such a text.
abbrev pub Answers : {E : Type 0} → Plan → Wanted → Option (List ℕ) → Option (List ℕ) → Option (List ℕ) → Option (List ℕ) → Result E PromptError → Type 0
Answers plan wanted read_old read_new old new (Ok done) =
    (batch text : List ℕ) × IsAllRead read_old read_new batch × AreAnswers plan wanted (lines_of batch) text × Appends old new text
Answers plan wanted read_old read_new old new (Err Read) =
    (batch text : List ℕ) × Consumes read_old read_new batch × AreAnswers plan wanted (ended_lines_of batch) text × Appends old new text
Answers plan wanted read_old read_new old new (Err Memory) =
    (batch text : List ℕ) × Consumes read_old read_new batch × AreFirstAnswers plan wanted (lines_of batch) text × Appends old new text
Answers plan wanted read_old read_new old new (Err (Write sent)) =
    (batch text : List ℕ) × Consumes read_old read_new batch × AreFirstAnswers plan wanted (lines_of batch) text × IsPartOut old new text sent

-- the text of a fault
abbrev pub fault_text : PromptError → List ℕ
fault_text Read = codes "read fault"
fault_text Memory = codes "out of memory"
fault_text (Write sent) = codes "write fault after " ++ decimal sent ++ codes " bytes"
