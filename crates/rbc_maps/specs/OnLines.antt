-- Values that lie on lines, and the marks by which those of one line are found (own rule).
use Rattle.std.specs.Prelude.{ℕ, Bool, ◌==◌, ◌%◌, List}
use Rattle.std.specs.List.{list_any, filter}

-- the mark of a line: the last six bits of its number, as a track has at most 64 lines
abbrev pub mark_of : ℕ → ℕ
mark_of line = line % 64

-- a mark is among some
abbrev pub has_mark : ℕ → List ℕ → Bool
has_mark mark marks = list_any (λ other. other == mark) marks

-- the values that carry a mark, with their numbers
abbrev pub marked : {V : Type 0} → (V → List ℕ) → ℕ → List (ℕ × V) → List (ℕ × V)
marked marks mark pairs = filter (λ pair. has_mark mark (marks pair.1)) pairs
