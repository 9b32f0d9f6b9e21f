-- The lines of a text of which more may come.
use Rattle.std.specs.Prelude.{ℕ, List, [], ◌∷◌, ◌++◌}
use Rattle.std.specs.List.{slice_split}
use Rattle.rbc_text.specs.BatchText.{is_line_feed}

-- all but the last one
abbrev pub but_last : List (List ℕ) → List (List ℕ)
but_last [] = []
but_last (last ∷ []) = []
but_last (line ∷ more ∷ lines) = line ∷ but_last (more ∷ lines)

-- the lines of a text that a line feed has ended
abbrev pub ended_lines_of : List ℕ → List (List ℕ)
ended_lines_of text = but_last (slice_split is_line_feed text)

-- pieces, the first of which goes on from what stands before it
abbrev pub joined : List ℕ → List (List ℕ) → List (List ℕ)
joined rest [] = rest ∷ []
joined rest (first ∷ more) = (rest ++ first) ∷ more
