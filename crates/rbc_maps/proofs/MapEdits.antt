-- What a write or an insertion at a key's place does to a map.
use Rattle.std.proofs.Common.{◌≡◌, ◌≢◌, ℕ, suc, ◌+◌, ◌<◌, ◌≤◌, Bool, true, false, not, cond, ltb, List, [], ◌∷◌, length, set, get_or, refl, sym, ap, ◌∙◌, subst, arith, inl, inr, unwrap_or, Some, None}
use Rattle.std.specs.List.{position, position_or_len, insert}
use Rattle.std.proofs.lemmas.List.{get_or_default}
use Rattle.std.proofs.lemmas.Bool.{cases_lt}
use Rattle.std.proofs.lemmas.Bool.Decides.{nat_tests}
use Rattle.rbc_maps.specs.Maps.{with_value, index_for}

-- a place is never past the end
pub position_or_len_le : {X : Type 0} (p : X → Bool) (xs : List X) → position_or_len p xs ≤ length xs
position_or_len_le p [] = omega arith
position_or_len_le p (x ∷ xs) = elim (p x) as (λ b. cond (not b) (1 + position_or_len p xs) 0 ≤ suc (length xs)) [ true ↦ omega arith | false ↦ omega (arith, position_or_len_le p xs) ]

chosen_or_len : (n len : ℕ) → n ≤ len → unwrap_or (cond (ltb n len) (Some n) None) len ≡ n
chosen_or_len n len le = elim (cases_lt n len) [ inl lt ↦ grind (arith, nat_tests) | inr ge ↦ grind (arith, nat_tests) ]

-- a search that found nothing ends at the length
pub position_or_len_is : {X : Type 0} (p : X → Bool) (xs : List X) → unwrap_or (position p xs) (length xs) ≡ position_or_len p xs
position_or_len_is p xs = chosen_or_len _ _ (position_or_len_le p xs)

module _ {V : Type 0} (key : ℕ) (value : V) where
  place_above : (pair : ℕ × V) (pairs : List (ℕ × V)) → pair.0 < key → index_for key (pair ∷ pairs) ≡ suc (index_for key pairs)
  place_above pair pairs below = grind (arith, nat_tests)

  place_here : (pair : ℕ × V) (pairs : List (ℕ × V)) → key ≤ pair.0 → index_for key (pair ∷ pairs) ≡ 0
  place_here pair pairs not_below = grind (arith, nat_tests)

  with_above : (pair : ℕ × V) (pairs : List (ℕ × V)) → pair.0 < key → with_value key value (pair ∷ pairs) ≡ pair ∷ with_value key value pairs
  with_above pair pairs below = grind (arith, nat_tests)

  with_at : (pair : ℕ × V) (pairs : List (ℕ × V)) → pair.0 ≡ key → with_value key value (pair ∷ pairs) ≡ (key, value) ∷ pairs
  with_at pair pairs same = grind (arith, nat_tests)

  with_before : (pair : ℕ × V) (pairs : List (ℕ × V)) → key < pair.0 → with_value key value (pair ∷ pairs) ≡ (key, value) ∷ pair ∷ pairs
  with_before pair pairs above = grind (arith, nat_tests)

  -- a key that is there gets the value
  pub with_value-set : (pairs : List (ℕ × V)) (d : ℕ × V) → index_for key pairs < length pairs → (get_or pairs (index_for key pairs) d).0 ≡ key → with_value key value pairs ≡ set pairs (index_for key pairs) (key, value)
  with_value-set [] d within same = absurd (omega (arith, within))
  with_value-set (pair ∷ pairs) d within same = elim (cases_lt pair.0 key) [
    | inl below ↦
        let here = place_above pair pairs below in
        let within' : suc (index_for key pairs) < suc (length pairs) = subst (λ n. n < suc (length pairs)) here within in
        let same' : (get_or (pair ∷ pairs) (suc (index_for key pairs)) d).0 ≡ key = subst (λ n. (get_or (pair ∷ pairs) n d).0 ≡ key) here same in
        with_above pair pairs below ∙ ap (λ (xs : List (ℕ × V)). pair ∷ xs) (with_value-set pairs d (omega arith) same') ∙ sym (ap (λ n. set (pair ∷ pairs) n (key, value)) here)
    | inr not_below ↦
        let here = place_here pair pairs not_below in
        let same' : pair.0 ≡ key = subst (λ n. (get_or (pair ∷ pairs) n d).0 ≡ key) here same in
        with_at pair pairs same' ∙ sym (ap (λ n. set (pair ∷ pairs) n (key, value)) here)
  ]

  -- a key that is not there gets a pair at its place
  pub with_value-insert : (pairs : List (ℕ × V)) → ((d : ℕ × V) → index_for key pairs < length pairs → (get_or pairs (index_for key pairs) d).0 ≢ key) → with_value key value pairs ≡ insert pairs (index_for key pairs) (key, value)
  with_value-insert [] absent = refl
  with_value-insert (pair ∷ pairs) absent = elim (cases_lt pair.0 key) [
    | inl below ↦
        let here = place_above pair pairs below in
        let absent' : (d : ℕ × V) → suc (index_for key pairs) < suc (length pairs) → (get_or (pair ∷ pairs) (suc (index_for key pairs)) d).0 ≢ key = subst (λ n. (d : ℕ × V) → n < suc (length pairs) → (get_or (pair ∷ pairs) n d).0 ≢ key) here absent in
        with_above pair pairs below ∙ ap (λ (xs : List (ℕ × V)). pair ∷ xs) (with_value-insert pairs (λ d lt. absent' d (omega arith))) ∙ sym (ap (λ n. insert (pair ∷ pairs) n (key, value)) here)
    | inr not_below ↦
        let here = place_here pair pairs not_below in
        let absent' : (d : ℕ × V) → 0 < suc (length pairs) → pair.0 ≢ key = subst (λ n. (d : ℕ × V) → n < suc (length pairs) → (get_or (pair ∷ pairs) n d).0 ≢ key) here absent in
        let other : pair.0 ≢ key = absent' pair (omega arith) in
        with_before pair pairs (omega (arith, other)) ∙ sym (ap (λ n. insert (pair ∷ pairs) n (key, value)) here)
  ]

  -- the pair that was read at the key's place has the key: it is written over
  pub written : (pairs : List (ℕ × V)) (at : ℕ) (d m : ℕ × V) → at ≡ index_for key pairs → at < length pairs → d ≡ get_or pairs at d → d.0 ≡ key → m ≡ get_or pairs at m → set pairs at (m.0, value) ≡ with_value key value pairs
  written pairs at d m is within read same read' =
      let one : m ≡ d = read' ∙ get_or_default pairs at m d within ∙ sym read in
      let here : (get_or pairs at d).0 ≡ key = ap (λ (p : ℕ × V). p.0) (sym read) ∙ same in
      let result = with_value-set pairs d (subst (λ n. n < length pairs) is within) (subst (λ n. (get_or pairs n d).0 ≡ key) is here) in
      ap (λ k. set pairs at (k, value)) (ap (λ (p : ℕ × V). p.0) one ∙ same) ∙ ap (λ n. set pairs n (key, value)) is ∙ sym result

  -- no pair was there, or one with another key: the new one goes before it
  pub inserted : (pairs : List (ℕ × V)) (at : ℕ) → at ≡ index_for key pairs → ((d : ℕ × V) → at < length pairs → (get_or pairs at d).0 ≢ key) → insert pairs at (key, value) ≡ with_value key value pairs
  inserted pairs at is absent =
      ap (λ n. insert pairs n (key, value)) is ∙ sym (with_value-insert pairs (subst (λ n. (d : ℕ × V) → n < length pairs → (get_or pairs n d).0 ≢ key) is absent))
