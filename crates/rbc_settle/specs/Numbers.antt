-- Ascending lists of numbers, each of them once (own rule).
use Rattle.std.specs.Prelude.{ℕ, Bool, ◌≡◌, ◌==◌, ◌||◌, not, nat_lt, if◌then◌else◌, List, [], ◌∷◌, IsTrue}
use Rattle.std.specs.List.{list_any, filter}
use Rattle.rbc_ids.specs.Maps.{rises_from}

-- each number is above the one before it
abbrev pub AreNumbers : List ℕ → Type 0
AreNumbers numbers = IsTrue (rises_from 0 numbers)

-- the list has a number
abbrev pub has_number : List ℕ → ℕ → Bool
has_number numbers n = list_any (λ other. other == n) numbers

-- the list with a number that it lacked, at its place
abbrev pub with_number : ℕ → List ℕ → List ℕ
with_number n [] = n ∷ []
with_number n (first ∷ rest) = if nat_lt n first then n ∷ first ∷ rest else first ∷ with_number n rest

-- the list with a number, which it may have
abbrev pub and_number : ℕ → List ℕ → List ℕ
and_number n numbers = if has_number numbers n then numbers else with_number n numbers

-- the list without a number
abbrev pub without_number : ℕ → List ℕ → List ℕ
without_number n numbers = filter (λ other. not (other == n)) numbers

-- a list has the numbers of both lists, and no other
abbrev pub IsUnion : List ℕ → List ℕ → List ℕ → Type 0
IsUnion both one other = (n : ℕ) → has_number both n ≡ has_number one n || has_number other n
