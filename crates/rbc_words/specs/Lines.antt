-- The lines of what was read.
use Rattle.std.specs.Prelude.{ℕ, List, [], ◌∷◌}
use Rattle.std.specs.List.{slice_split}
use Rattle.rbc_text.specs.BatchText.{is_line_feed}

-- the last one
abbrev pub last_of : List (List ℕ) → List ℕ
last_of [] = []
last_of (last ∷ []) = last
last_of (line ∷ more ∷ lines) = last_of (more ∷ lines)

-- what stands behind the last line feed
abbrev pub begun_line_of : List ℕ → List ℕ
begun_line_of text = last_of (slice_split is_line_feed text)
