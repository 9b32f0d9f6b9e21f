-- What is out where lines go through a filter as they come.
use Rattle.std.specs.Prelude.{◌≡◌, ◌⊎◌, ◌+◌, ℕ, List, [], ◌∷◌, ◌++◌, Option, Result, Ok, Err, length}
use Rattle.std.specs.Io.KnownBytes.{Appends, Consumes}
use Rattle.rbc_text.specs.BatchText.{lines_of}
use Rattle.rbc_text.specs.EndedLines.{ended_lines_of}
use Rattle.rbc_text.specs.Streams.{IsAllRead, IsPartOut}
use Rattle.rbc_words.specs.Lines.{begun_line_of}
use Rattle.rbc_words.specs.Rules.{StaysItself}
use Rattle.rbc_words.specs.declared.filter.FilterError.{FilterError}
use Rattle.rbc_words.specs.declared.filter.FilterError.TheVariants.{Read, Memory, Write, Line}

-- the text is what the lines become, one after another, with a line feed behind each
abbrev pub AreTurned : (List ℕ → List ℕ → Type 0) → List (List ℕ) → List ℕ → Type 0
AreTurned becomes [] text = text ≡ []
AreTurned becomes (line ∷ lines) text = (first rest : List ℕ) × becomes line first × AreTurned becomes lines rest × (text ≡ first ++ 10 ∷ rest)

-- nothing is out of a line that has begun, or all of it, since it becomes itself however it goes on
abbrev pub IsPassedOn : (List ℕ → List ℕ → Type 0) → List ℕ → List ℕ → Type 0
IsPassedOn becomes line text = (text ≡ []) ⊎ ((text ≡ line) × StaysItself becomes text)

-- nothing is out of a line, or its first bytes, since a line that begins so becomes itself
abbrev pub IsBegun : (List ℕ → List ℕ → Type 0) → List ℕ → List ℕ → Type 0
IsBegun becomes line text = (text ≡ []) ⊎ ((more : List ℕ) × (line ≡ text ++ more) × StaysItself becomes text)

-- the text is what the first of these lines become, and what is out of the line behind them
abbrev pub AreFirstTurned : (List ℕ → List ℕ → Type 0) → List (List ℕ) → List ℕ → Type 0
AreFirstTurned becomes [] text = text ≡ []
AreFirstTurned becomes (line ∷ lines) text =
    IsBegun becomes line text ⊎ ((first rest : List ℕ) × becomes line first × AreFirstTurned becomes lines rest × (text ≡ first ++ 10 ∷ rest))

-- the line of this number is the first of these lines that is wrong, and the text is what the lines before it become
abbrev pub IsFirstWrong : {F : Type 0} → (List ℕ → List ℕ → Type 0) → (List ℕ → F → Type 0) → List (List ℕ) → List ℕ → ℕ → F → Type 0
IsFirstWrong becomes is_wrong lines text number fault =
    (before : List (List ℕ)) × (line : List ℕ) × (more : List (List ℕ)) × (lines ≡ before ++ line ∷ more)
    × AreTurned becomes before text × (number ≡ length before + 1) × is_wrong line fault

-- At Ok all is read, and what all lines become is out. At a read fault what all lines that have ended become is out, and what was passed on of
-- the line that has begun. Where memory was refused what the first lines become is out; at a write fault the first bytes of such a text. At a
-- wrong line, which may go on behind what was read, all that the lines before it become is out.
abbrev pub Filters : {E F : Type 0} → (List ℕ → List ℕ → Type 0) → (List ℕ → F → Type 0)
    → Option (List ℕ) → Option (List ℕ) → Option (List ℕ) → Option (List ℕ) → Result E (FilterError F) → Type 0
Filters becomes is_wrong read_old read_new old new (Ok done) =
    (batch text : List ℕ) × IsAllRead read_old read_new batch × AreTurned becomes (lines_of batch) text × Appends old new text
Filters becomes is_wrong read_old read_new old new (Err Read) =
    (batch text begun : List ℕ) × Consumes read_old read_new batch × AreTurned becomes (ended_lines_of batch) text
    × IsPassedOn becomes (begun_line_of batch) begun × Appends old new (text ++ begun)
Filters becomes is_wrong read_old read_new old new (Err Memory) =
    (batch text : List ℕ) × Consumes read_old read_new batch × AreFirstTurned becomes (lines_of batch) text × Appends old new text
Filters becomes is_wrong read_old read_new old new (Err (Write sent)) =
    (batch text : List ℕ) × Consumes read_old read_new batch × AreFirstTurned becomes (lines_of batch) text × IsPartOut old new text sent
Filters becomes is_wrong read_old read_new old new (Err (Line number fault)) =
    (batch text : List ℕ) × Consumes read_old read_new batch × IsFirstWrong becomes is_wrong (lines_of batch) text number fault × Appends old new text
