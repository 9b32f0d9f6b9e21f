-- What the first place of a separator says of the pieces of a text.
use Rattle.std.proofs.Common.{◌≡◌, ℕ, ◌+◌, ◌<◌, ◌≤◌, Bool, true, false, not, cond, ltb, List, [], ◌∷◌, length, take, drop, Option, Some, None, refl, ap, ◌∙◌, arith}
use Rattle.std.specs.List.{position, position_or_len, slice_split, onto_first}
use Rattle.std.proofs.lemmas.List.Splits.{slice_split_first}
use Rattle.std.proofs.lemmas.Bool.Decides.{nat_tests}

pub record IsPlace {X : Type 0} (p : X → Bool) (xs : List X) (at : ℕ) : Type 0 where
  pub place : position_or_len p xs ≡ at
  pub within : at < length xs

found : (n len at : ℕ) → Some at ≡ cond (ltb n len) (Some n) None → (n ≡ at) × (at < len)
found n len at e = grind (arith, nat_tests)

-- where it is found, it is the first place
pub place_found : {X : Type 0} (p : X → Bool) (xs : List X) (at : ℕ) → Some at ≡ position p xs → IsPlace p xs at
place_found p xs at e = let f = found _ _ at e in record { place = f.0; within = f.1 }

lost : (n len : ℕ) (o : Option ℕ) → None ≡ o → o ≡ cond (ltb n len) (Some n) None → len ≤ n
lost n len o e h = grind (arith, nat_tests)

-- where it is not, nothing passes
pub no_place : {X : Type 0} (p : X → Bool) (xs : List X) → None ≡ position p xs → length xs ≤ position_or_len p xs
no_place p xs e = lost _ _ _ e refl

pub split_at_place : {X : Type 0} (p : X → Bool) (xs : List X) (d : X) (at : ℕ) → IsPlace p xs at → slice_split p xs ≡ take at xs ∷ slice_split p (drop (at + 1) xs)
split_at_place p xs d at f =
    let within : position_or_len p xs < length xs = omega (arith, f.place, f.within) in
    slice_split_first p xs d within ∙ ap (λ n. take n xs ∷ slice_split p (drop (n + 1) xs)) f.place

pub split_without_place : {X : Type 0} (p : X → Bool) (xs : List X) → length xs ≤ position_or_len p xs → slice_split p xs ≡ xs ∷ []
split_without_place p [] h = refl
split_without_place p (x ∷ xs) h = elim (p x) as (λ b. length (x ∷ xs) ≤ cond (not b) (1 + position_or_len p xs) 0 → cond b ([] ∷ slice_split p xs) (onto_first x (slice_split p xs)) ≡ (x ∷ xs) ∷ []) [
  | true ↦ λ le. absurd (omega (arith, le))
  | false ↦ λ le. ap (onto_first x) (split_without_place p xs (omega (arith, le)))
] h

-- there is always a first piece
pub split_is_cons : {X : Type 0} (p : X → Bool) (xs : List X) → (first : List X) × (rest : List (List X)) × (slice_split p xs ≡ first ∷ rest)
split_is_cons p [] = ([], [], refl)
split_is_cons {X} p (x ∷ xs) = elim (p x) as (λ b. (first : List X) × (rest : List (List X)) × (cond b ([] ∷ slice_split p xs) (onto_first x (slice_split p xs)) ≡ first ∷ rest)) [
  | true ↦ ([], slice_split p xs, refl)
  | false ↦ let tail = split_is_cons p xs in (x ∷ tail.0, tail.1, ap (onto_first x) tail.2)
]
