-- Values in chains: each leads, by each of its marks, to the next one that carries it (own rule).
use Rattle.std.specs.Prelude.{◌≡◌, ℕ, ◌+◌, ◌<◌, ◌≤◌, nat_lt, if◌then◌else◌, List, [], ◌∷◌, map, length, drop, set, slice_index_or as get_or, slice_index}
use Rattle.std.specs.List.{position_or_len, All}
use Rattle.rbc_maps.specs.Numbered.{Numbered, AreNumbered}
use Rattle.rbc_maps.specs.OnLines.{has_mark}

-- where the first value that carries a mark stands, counted from a base, or the place after the last one
abbrev pub first_with : ℕ → List (List ℕ) → ℕ → ℕ
first_with base column mark = base + position_or_len (has_mark mark) column

-- the heads of all chains: where the first value stands that carries each line's mark
abbrev pub AreHeads : ℕ → List (List ℕ) → List ℕ → Type 0
AreHeads base column first = (mark : ℕ) → mark < 64 → slice_index first mark ≡ first_with base column mark

-- the entry of a table at a row and a slot
abbrev pub entry : List (List ℕ) → ℕ → ℕ → ℕ
entry table row slot = slice_index (get_or table row []) slot

-- from a row on, each slot of n leads from its mark, if a line has it, to the next value that carries it
abbrev pub AreLinksFrom : ℕ → ℕ → List (List ℕ) → List (List ℕ) → Type 0
AreLinksFrom n from column next = (row slot : ℕ) → from ≤ row → row < length column → slot < n → entry column row slot < 64
    → entry next row slot ≡ first_with (row + 1) (drop (row + 1) column) (entry column row slot)

-- The chains of values with n marks each: their heads, and what leads from one value to the next.
pub record AreChained (n : ℕ) (column : List (List ℕ)) (first : List ℕ) (next : List (List ℕ)) : Type 0 where
  pub long : length next ≡ length column
  pub heads : AreHeads 0 column first
  pub full : 0 < length column → length first ≡ 128
  pub links : AreLinksFrom n 0 column next

-- the heads once a value at a place is put before the others
abbrev pub headed : List ℕ → ℕ → List ℕ → List ℕ
headed [] place first = first
headed (mark ∷ own) place first = headed own place (if nat_lt mark 64 then set first mark place else first)

-- Active values that are kept beside their marks and in chains, each of which is sound.
pub record AreMarked {V : Type 0} (marks : V → List ℕ) (is_sound : V → Type 0) (n : ℕ) (values : Numbered V) (column : List (List ℕ)) (first : List ℕ) (next : List (List ℕ)) : Type 0 where
  pub numbered : AreNumbered values
  pub kept : column ≡ map (λ pair. marks pair.1) values.active
  pub sound : All (λ pair. is_sound pair.1) values.active
  pub chained : AreChained n column first next

-- A place in the chain of a line's mark: a value that carries it, or the end.
pub record IsInChain {V : Type 0} (marks : V → List ℕ) (n mark place : ℕ) (pairs : List (ℕ × V)) (column next : List (List ℕ)) : Type 0 where
  pub line : mark < 64
  pub kept : column ≡ map (λ pair. marks pair.1) pairs
  pub stands : position_or_len (has_mark mark) (drop place column) ≡ 0
  pub long : length next ≡ length column
  pub links : AreLinksFrom n 0 column next
