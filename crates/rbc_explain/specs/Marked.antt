-- The lines of a log, and which of them are lines of the output of a run: each of these stands in it as it is, with "= " before it (own rule).
use Rattle.std.specs.Prelude.{◌≡◌, ◌==◌, ℕ, false, if◌then◌else◌, List, [], ◌∷◌, ◌++◌, take, drop, flat_map, filter_map, Option, Some, None, codes}
use Rattle.std.specs.List.{list_any, AllByRecursion}
use Rattle.std.specs.Str.{bytes_eq}
use Rattle.rbc_text.specs.BatchText.{is_line_feed}

-- a line with its line feed
abbrev pub ended : List ℕ → List ℕ
ended line = line ++ codes "\n"

-- a line has no line feed in it
abbrev pub IsLine : List ℕ → Type 0
IsLine line = list_any is_line_feed line ≡ false

-- a text ends with a line feed and has no `=`
abbrev pub IsPlain : List ℕ → Type 0
IsPlain text = (body : List ℕ) × (text ≡ body ++ codes "\n") × (list_any (λ byte. byte == 61) text ≡ false)

-- a line of words as it stands in a log: one that begins with `=` is indented, so that it has no mark
abbrev pub indent_of : List ℕ → List ℕ
indent_of [] = []
indent_of (first ∷ line) = if first == 61 then codes " " else []

abbrev pub shown : List ℕ → List ℕ
shown line = indent_of line ++ line

-- the rest of a line that begins with the mark "= "
abbrev pub unmarked : List ℕ → Option (List ℕ)
unmarked line = if bytes_eq (take 2 line) (codes "= ") then Some (drop 2 line) else None

-- These lines were added to a text, each with its line feed, and nothing else.
pub record AreAdded (added : List (List ℕ)) (old new : List ℕ) : Type 0 where
  pub text : new ≡ old ++ flat_map ended added
  pub each : AllByRecursion IsLine added

-- Lines were added to a text. The marked ones are, without their marks, these lines, in order.
abbrev pub IsToldOn : List (List ℕ) → List ℕ → List ℕ → Type 0
IsToldOn answers old new = (added : List (List ℕ)) × AreAdded added old new × (filter_map unmarked added ≡ answers)
