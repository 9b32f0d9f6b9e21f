-- Pieces of a text, as slices: what follows its first separator, and all its pieces.
use Rattle.std.specs.Prelude.{ℕ, ◌+◌, List, [], ◌==◌, length, map, Option, Some, None}
use Rattle.std.specs.List.{slice_split}
use denote.Ref.{Bor}

-- the text after the first separator, cut at each further separator
abbrev pub pieces_behind : ℕ → Option (Bor (List ℕ)) → List (List ℕ)
pieces_behind separator None = []
pieces_behind separator (Some text) = slice_split (λ byte. byte == separator) text.now

-- the text after the first separator, or nothing if there is no separator
abbrev pub text_behind : Option (Bor (List ℕ)) → List ℕ
text_behind None = []
text_behind (Some text) = text.now

-- how much text is left
abbrev pub length_left : Option (Bor (List ℕ)) → ℕ
length_left None = 0
length_left (Some text) = length text.now + 1

-- the texts that slices show
abbrev pub texts_of : List (Bor (List ℕ)) → List (List ℕ)
texts_of slices = map (λ (slice : Bor (List ℕ)). slice.now) slices
