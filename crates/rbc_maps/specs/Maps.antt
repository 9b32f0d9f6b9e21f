-- A map from numbers to values, as the list of its pairs in ascending order of the key.
use Rattle.std.specs.Prelude.{ℕ, ◌+◌, Bool, true, ◌==◌, nat_lt, nat_le, if◌then◌else◌, List, [], ◌∷◌, map, IsTrue, ◌&&◌, not, Option}
use Rattle.std.specs.List.{list_any, filter, position_or_len}
use Rattle.std.specs.Map.{lookup}

-- whether the map has a value at a key
abbrev pub has : {V : Type 0} → List (ℕ × V) → ℕ → Bool
has pairs key = list_any (λ pair. pair.0 == key) pairs

-- the value at a key, or a default if the map has none
abbrev pub value_or : {V : Type 0} → V → List (ℕ × V) → ℕ → V
value_or none [] key = none
value_or none (pair ∷ pairs) key = if pair.0 == key then pair.1 else value_or none pairs key

-- the value at a key, if the map has one
abbrev pub value_of : {V : Type 0} → List (ℕ × V) → ℕ → Option V
value_of pairs key = lookup (λ other. other == key) pairs

-- the map without a key
abbrev pub without : {V : Type 0} → ℕ → List (ℕ × V) → List (ℕ × V)
without key pairs = filter (λ pair. not (pair.0 == key)) pairs

-- the map with this value at the key, in place of any that it had there
abbrev pub with_value : {V : Type 0} → ℕ → V → List (ℕ × V) → List (ℕ × V)
with_value key value [] = (key, value) ∷ []
with_value key value (pair ∷ pairs) =
    if nat_lt key pair.0 then (key, value) ∷ pair ∷ pairs
    else (if pair.0 == key then (key, value) ∷ pairs
    else pair ∷ with_value key value pairs)

-- the index of a key, or where it would be inserted: the first index whose key is not below it
abbrev pub index_for : {V : Type 0} → ℕ → List (ℕ × V) → ℕ
index_for key pairs = position_or_len (λ pair. nat_le key pair.0) pairs

-- the keys of a map
abbrev pub keys : {V : Type 0} → List (ℕ × V) → List ℕ
keys pairs = map (λ pair. pair.0) pairs

-- each key is above the one before it, and the first is not below a given number
abbrev pub rises_from : ℕ → List ℕ → Bool
rises_from least [] = true
rises_from least (key ∷ keys) = nat_le least key && rises_from (key + 1) keys

-- the pairs ascend, so no key stands twice
abbrev pub IsMap : {V : Type 0} → List (ℕ × V) → Type 0
IsMap pairs = IsTrue (rises_from 0 (keys pairs))
