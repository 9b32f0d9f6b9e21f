-- Where a binary search among ascending keys ends.
use Rattle.std.proofs.Common.{◌≡◌, ℕ, zero, suc, ◌+◌, ◌<◌, ◌≤◌, Bool, true, false, cond, ◌||◌, ◌&&◌, eqb, ltb, leb, List, [], ◌∷◌, length, get_or, refl, sym, ap, ◌∙◌, subst, arith, inl, inr}
use Rattle.std.specs.List.Sorted.{IsNonDecreasingBy, IsPartitionPoint}
use Rattle.std.proofs.lemmas.Bool.{cases_lt, or_from, or_parts, ne_eqb, and_parts, leb-true, le-leb, lt-leb, ltb-true, ltb-false, lt-ltb, le-ltb, and_right, and_left, and_from, or_left, eq-eqb}
use Rattle.std.proofs.lemmas.Bool.Decides.{nat_tests}
use Rattle.std.proofs.lemmas.List.Sums.{position_or_len_is}
use Rattle.rbc_maps.specs.Maps.{has, index_for, keys, rises_from, value_or, with_value}

pub and_true : (a b : Bool) → a ≡ true → (a && b) ≡ b
and_true true b e = refl
and_true false b e = absurd (let bad : false ≡ true = e in cc)

module _ {V : Type 0} where
  -- each key is at or above the lower bound
  pub rises_above : (least : ℕ) (pairs : List (ℕ × V)) → rises_from least (keys pairs) ≡ true → (i : ℕ) (d : ℕ × V) → i < length pairs → least ≤ (get_or pairs i d).0
  rises_above least [] rises i d within = absurd (omega arith)
  rises_above least (pair ∷ pairs) rises zero d within = leb-true least pair.0 (and_parts (leb least pair.0) (rises_from (pair.0 + 1) (keys pairs)) rises).0
  rises_above least (pair ∷ pairs) rises (suc i) d within =
      let parts = and_parts (leb least pair.0) (rises_from (pair.0 + 1) (keys pairs)) rises in
      let below = leb-true least pair.0 parts.0 in
      let above = rises_above (pair.0 + 1) pairs parts.1 i d (omega arith) in
      omega (arith, below, above)

  pub non_decreasing : (least : ℕ) (pairs : List (ℕ × V)) → rises_from least (keys pairs) ≡ true → IsNonDecreasingBy (λ pair. pair.0) pairs
  non_decreasing least [] rises i j d le within = absurd (omega arith)
  non_decreasing least (pair ∷ pairs) rises zero zero d le within = omega arith
  non_decreasing least (pair ∷ pairs) rises zero (suc j) d le within =
      let parts = and_parts (leb least pair.0) (rises_from (pair.0 + 1) (keys pairs)) rises in
      let above = rises_above (pair.0 + 1) pairs parts.1 j d (omega arith) in
      omega (arith, above)
  non_decreasing least (pair ∷ pairs) rises (suc i) zero d le within = absurd (omega arith)
  non_decreasing least (pair ∷ pairs) rises (suc i) (suc j) d le within =
      let parts = and_parts (leb least pair.0) (rises_from (pair.0 + 1) (keys pairs)) rises in
      non_decreasing (pair.0 + 1) pairs parts.1 i j d (omega arith) (omega arith)

  -- the point before which the keys are below
  pub place_is : (key : ℕ) (pairs : List (ℕ × V)) (n : ℕ) → n ≤ length pairs → IsPartitionPoint (λ pair. ltb pair.0 key ≡ true) (λ pair. ltb pair.0 key ≡ false) pairs n → n ≡ index_for key pairs
  place_is key [] n within parted = omega arith
  place_is key (pair ∷ pairs) n within parted =
      sym (position_or_len_is (λ (p : ℕ × V). leb key p.0) (pair ∷ pairs) n pair within
      (λ k below. lt-leb key _ (ltb-true _ key (parted.0 k pair (omega arith) below)))
      (λ inside. le-leb key _ (ltb-false _ key (parted.1 n pair (omega arith) inside))))

  pub absent_below : (key least : ℕ) (pairs : List (ℕ × V)) → key < least → rises_from least (keys pairs) ≡ true → has pairs key ≡ false
  absent_below key least [] below rises = refl
  absent_below key least (pair ∷ pairs) below rises =
      let parts = and_parts (leb least pair.0) (rises_from (pair.0 + 1) (keys pairs)) rises in
      let above = leb-true least pair.0 parts.0 in
      or_from (eqb pair.0 key) (has pairs key) (ne_eqb pair.0 key (λ same. absurd (omega (arith, above, same)))) (absent_below key (pair.0 + 1) pairs (omega (arith, above)) parts.1)

  place_after : (key : ℕ) (pair : ℕ × V) (pairs : List (ℕ × V)) → pair.0 < key → index_for key (pair ∷ pairs) ≡ suc (index_for key pairs)
  place_after key pair pairs below = grind (arith, nat_tests)

  place_here : (key : ℕ) (pair : ℕ × V) (pairs : List (ℕ × V)) → key ≤ pair.0 → index_for key (pair ∷ pairs) ≡ 0
  place_here key pair pairs not_below = grind (arith, nat_tests)

  -- the key is there where the pair at its place has it
  pub has_is : (key least : ℕ) (pairs : List (ℕ × V)) (d : ℕ × V) → rises_from least (keys pairs) ≡ true → has pairs key ≡ (ltb (index_for key pairs) (length pairs) && eqb (get_or pairs (index_for key pairs) d).0 key)
  has_is key least [] d rises = refl
  has_is key least (pair ∷ pairs) d rises =
      let parts = and_parts (leb least pair.0) (rises_from (pair.0 + 1) (keys pairs)) rises in
      elim (cases_lt pair.0 key) [
        | inl below ↦
            let here = place_after key pair pairs below in
            let other : eqb pair.0 key ≡ false = ne_eqb pair.0 key (λ same. absurd (omega (arith, same))) in
            let rest = has_is key (pair.0 + 1) pairs d parts.1 in
            ap (λ b. b || has pairs key) other ∙ rest ∙ ap (λ b. b && eqb (get_or pairs (index_for key pairs) d).0 key) (grind (arith, nat_tests))
            ∙ sym (ap (λ n. ltb n (suc (length pairs)) && eqb (get_or (pair ∷ pairs) n d).0 key) here)
        | inr not_below ↦
            let here = place_here key pair pairs not_below in
            elim (cases_lt key pair.0) [
              | inl above ↦
                  let absent = absent_below key (pair.0 + 1) pairs (omega arith) parts.1 in
                  or_from (eqb pair.0 key) (has pairs key) (ne_eqb pair.0 key (λ same. absurd (omega (arith, same)))) absent
                  ∙ sym (ap (λ n. ltb n (suc (length pairs)) && eqb (get_or (pair ∷ pairs) n d).0 key) here ∙ and_right (ltb 0 (suc (length pairs))) (eqb pair.0 key) (ne_eqb pair.0 key (λ same. absurd (omega (arith, same)))))
              | inr same ↦
                  let e = eq-eqb pair.0 key (omega arith) in
                  or_left (eqb pair.0 key) (has pairs key) e
                  ∙ sym (ap (λ n. ltb n (suc (length pairs)) && eqb (get_or (pair ∷ pairs) n d).0 key) here ∙ and_from (ltb 0 (suc (length pairs))) (eqb pair.0 key) (lt-ltb 0 (suc (length pairs)) (omega arith)) e)
            ]
      ]

  -- the pair at the key's place tells whether the key is there
  pub has_here : (key : ℕ) (pairs : List (ℕ × V)) (at : ℕ) (d : ℕ × V) → rises_from 0 (keys pairs) ≡ true → at ≡ index_for key pairs → at < length pairs → eqb (get_or pairs at d).0 key ≡ has pairs key
  has_here key pairs at d rises is within =
      ap (λ n. eqb (get_or pairs n d).0 key) is
      ∙ sym (has_is key 0 pairs d rises ∙ and_true (ltb (index_for key pairs) (length pairs)) _ (lt-ltb (index_for key pairs) (length pairs) (omega (arith, is))))

  -- past the end it is not
  pub has_past : (key : ℕ) (pairs : List (ℕ × V)) (at : ℕ) → rises_from 0 (keys pairs) ≡ true → at ≡ index_for key pairs → length pairs ≤ at → has pairs key ≡ false
  has_past key [] at rises is past = refl
  has_past key (pair ∷ pairs) at rises is past =
      has_is key 0 (pair ∷ pairs) pair rises ∙ and_left (ltb (index_for key (pair ∷ pairs)) (suc (length pairs))) _ (le-ltb (index_for key (pair ∷ pairs)) (suc (length pairs)) (omega (arith, is)))

  -- the value at the key's place
  pub value_or-here : (none : V) (key least : ℕ) (pairs : List (ℕ × V)) (d : ℕ × V) → index_for key pairs < length pairs → (get_or pairs (index_for key pairs) d).0 ≡ key → value_or none pairs key ≡ (get_or pairs (index_for key pairs) d).1
  value_or-here none key least [] d within same = absurd (omega arith)
  value_or-here none key least (pair ∷ pairs) d within same = elim (cases_lt pair.0 key) [
    | inl below ↦
        let here = place_after key pair pairs below in
        let other : eqb pair.0 key ≡ false = ne_eqb pair.0 key (λ equal. absurd (omega (arith, equal))) in
        let within' : suc (index_for key pairs) < suc (length pairs) = subst (λ n. n < suc (length pairs)) here within in
        let same' : (get_or (pair ∷ pairs) (suc (index_for key pairs)) d).0 ≡ key = subst (λ n. (get_or (pair ∷ pairs) n d).0 ≡ key) here same in
        ap (λ b. cond b pair.1 (value_or none pairs key)) other ∙ value_or-here none key least pairs d (omega arith) same' ∙ sym (ap (λ n. (get_or (pair ∷ pairs) n d).1) here)
    | inr not_below ↦
        let here = place_here key pair pairs not_below in
        let same' : pair.0 ≡ key = subst (λ n. (get_or (pair ∷ pairs) n d).0 ≡ key) here same in
        ap (λ b. cond b pair.1 (value_or none pairs key)) (eq-eqb pair.0 key same') ∙ sym (ap (λ n. (get_or (pair ∷ pairs) n d).1) here)
  ]

  pub value_or-absent : (none : V) (key : ℕ) (pairs : List (ℕ × V)) → has pairs key ≡ false → value_or none pairs key ≡ none
  value_or-absent none key [] absent = refl
  value_or-absent none key (pair ∷ pairs) absent =
      let parts = or_parts (eqb pair.0 key) (has pairs key) absent in
      ap (λ b. cond b pair.1 (value_or none pairs key)) parts.0 ∙ value_or-absent none key pairs parts.1

  -- one more key keeps the order
  pub rises-with_value : (key : ℕ) (value : V) (least : ℕ) (pairs : List (ℕ × V)) → least ≤ key → rises_from least (keys pairs) ≡ true → rises_from least (keys (with_value key value pairs)) ≡ true
  rises-with_value key value least [] le rises = and_from (leb least key) true (le-leb least key le) refl
  rises-with_value key value least (pair ∷ pairs) le rises =
      let parts = and_parts (leb least pair.0) (rises_from (pair.0 + 1) (keys pairs)) rises in
      elim (cases_lt key pair.0) [
        | inl above ↦ rw (lt-ltb key pair.0 above) (and_from (leb least key) _ (le-leb least key le) (and_from (leb (key + 1) pair.0) _ (le-leb (key + 1) pair.0 (omega arith)) parts.1))
        | inr not_above ↦ elim (cases_lt pair.0 key) [
          | inl below ↦ rw (le-ltb key pair.0 not_above, ne_eqb pair.0 key (λ equal. absurd (omega (arith, equal)))) (and_from (leb least pair.0) _ parts.0 (rises-with_value key value (pair.0 + 1) pairs (omega arith) parts.1))
          | inr same ↦
              let e : pair.0 ≡ key = omega arith in
              rw (le-ltb key pair.0 not_above, eq-eqb pair.0 key e) (and_from (leb least key) _ (le-leb least key le) (subst (λ n. rises_from (n + 1) (keys pairs) ≡ true) e parts.1))
        ]
      ]
