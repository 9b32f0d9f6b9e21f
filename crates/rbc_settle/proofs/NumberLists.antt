-- Where a number stands in an ascending list, and what putting it there and taking it out make of the list.
use Rattle.std.proofs.Common.{◌≡◌, ℕ, zero, suc, ◌+◌, ◌<◌, ◌≤◌, Bool, true, false, not, cond, ◌||◌, ◌&&◌, eqb, ltb, leb, List, [], ◌∷◌, length, get_or, refl, sym, ap, ◌∙◌, subst, arith, inl, inr}
use Rattle.std.specs.List.{position_or_len, insert, remove}
use Rattle.std.specs.List.Sorted.{IsNonDecreasingBy, IsPartitionPoint}
use Rattle.std.proofs.lemmas.Bool.{cases_lt, or_from, or_left, or_parts, ne_eqb, eq-eqb, eqb-true, eqb-false, or_cases, and_from, and_left, and_right, and_parts, leb-true, le-leb, lt-leb, lt-ltb, le-ltb, ltb-true, ltb-false}
use Rattle.std.proofs.lemmas.Bool.Decides.{nat_tests}
use Rattle.std.proofs.lemmas.List.Sums.{position_or_len_is}
use Rattle.rbc_ids.specs.Maps.{rises_from}
use Rattle.rbc_ids.proofs.MapFacts.{rises_from-lower}
use Rattle.rbc_settle.specs.Numbers.{has_number, with_number, without_number}
use Rattle.rbc_maps.proofs.MapPlaces.{and_true}

-- where a number stands, or would stand
abbrev pub place : ℕ → List ℕ → ℕ
place n xs = position_or_len (λ other. leb n other) xs

pub rising : (least x : ℕ) (xs : List ℕ) → rises_from least (x ∷ xs) ≡ true → (least ≤ x) × (rises_from (x + 1) xs ≡ true)
rising least x xs rises =
    let parts = and_parts (leb least x) (rises_from (x + 1) xs) rises in
    (leb-true least x parts.0, parts.1)

pub rises-cons : (least x : ℕ) (xs : List ℕ) → least ≤ x → rises_from (x + 1) xs ≡ true → rises_from least (x ∷ xs) ≡ true
rises-cons least x xs above rises = and_from (leb least x) (rises_from (x + 1) xs) (le-leb least x above) rises

-- each number is at or above the lower bound
rises_above : (least : ℕ) (xs : List ℕ) → rises_from least xs ≡ true → (i d : ℕ) → i < length xs → least ≤ get_or xs i d
rises_above least [] rises i d within = absurd (omega arith)
rises_above least (x ∷ xs) rises zero d within = (rising least x xs rises).0
rises_above least (x ∷ xs) rises (suc i) d within =
    let parts = rising least x xs rises in
    let first = parts.0 in
    let above = rises_above (x + 1) xs parts.1 i d (omega arith) in
    omega (arith, first, above)

pub non_decreasing : (least : ℕ) (xs : List ℕ) → rises_from least xs ≡ true → IsNonDecreasingBy (λ x. x) xs
non_decreasing least [] rises i j d le within = absurd (omega arith)
non_decreasing least (x ∷ xs) rises zero zero d le within = omega arith
non_decreasing least (x ∷ xs) rises zero (suc j) d le within =
    let above = rises_above (x + 1) xs (rising least x xs rises).1 j d (omega arith) in
    omega (arith, above)
non_decreasing least (x ∷ xs) rises (suc i) zero d le within = absurd (omega arith)
non_decreasing least (x ∷ xs) rises (suc i) (suc j) d le within =
    non_decreasing (x + 1) xs (rising least x xs rises).1 i j d (omega arith) (omega arith)

module _ (n : ℕ) where
  -- the point before which the numbers are below
  pub place_is : (xs : List ℕ) (at : ℕ) → at ≤ length xs → IsPartitionPoint (λ x. ltb x n ≡ true) (λ x. ltb x n ≡ false) xs at → at ≡ place n xs
  place_is xs at within parted =
      sym (position_or_len_is (λ other. leb n other) xs at 0 within
      (λ k below. lt-leb n _ (ltb-true _ n (parted.0 k 0 (omega arith) below)))
      (λ inside. le-leb n _ (ltb-false _ n (parted.1 at 0 (omega arith) inside))))

  place_after : (x : ℕ) (xs : List ℕ) → x < n → place n (x ∷ xs) ≡ suc (place n xs)
  place_after x xs below = grind (arith, nat_tests)

  place_here : (x : ℕ) (xs : List ℕ) → n ≤ x → place n (x ∷ xs) ≡ 0
  place_here x xs not_below = grind (arith, nat_tests)

  -- a place is never past the end
  place_within : (xs : List ℕ) → place n xs ≤ length xs
  place_within [] = omega arith
  place_within (x ∷ xs) = elim (leb n x) as (λ b. cond (not b) (1 + place n xs) 0 ≤ suc (length xs)) [ true ↦ omega arith | false ↦ omega (arith, place_within xs) ]

  -- a number below all of them is not there
  absent_below : (least : ℕ) (xs : List ℕ) → n < least → rises_from least xs ≡ true → has_number xs n ≡ false
  absent_below least [] below rises = refl
  absent_below least (x ∷ xs) below rises =
      let parts = rising least x xs rises in
      let above = parts.0 in
      or_from (eqb x n) (has_number xs n) (ne_eqb x n (λ same. absurd (omega (arith, above, same)))) (absent_below (x + 1) xs (omega (arith, above)) parts.1)

  -- a number is there where the one at its place is it
  has_is : (least : ℕ) (xs : List ℕ) (d : ℕ) → rises_from least xs ≡ true → has_number xs n ≡ (ltb (place n xs) (length xs) && eqb (get_or xs (place n xs) d) n)
  has_is least [] d rises = refl
  has_is least (x ∷ xs) d rises =
      let parts = rising least x xs rises in
      elim (cases_lt x n) [
        | inl below ↦
            let here = place_after x xs below in
            let other : eqb x n ≡ false = ne_eqb x n (λ same. absurd (omega (arith, same))) in
            let rest = has_is (x + 1) xs d parts.1 in
            ap (λ b. b || has_number xs n) other ∙ rest ∙ ap (λ b. b && eqb (get_or xs (place n xs) d) n) (grind (arith, nat_tests))
            ∙ sym (ap (λ at. ltb at (suc (length xs)) && eqb (get_or (x ∷ xs) at d) n) here)
        | inr not_below ↦
            let here = place_here x xs not_below in
            elim (cases_lt n x) [
              | inl above ↦
                  let other : eqb x n ≡ false = ne_eqb x n (λ same. absurd (omega (arith, same))) in
                  or_from (eqb x n) (has_number xs n) other (absent_below (x + 1) xs (omega arith) parts.1)
                  ∙ sym (ap (λ at. ltb at (suc (length xs)) && eqb (get_or (x ∷ xs) at d) n) here ∙ and_right (ltb 0 (suc (length xs))) (eqb x n) other)
              | inr same ↦
                  let e = eq-eqb x n (omega arith) in
                  or_left (eqb x n) (has_number xs n) e
                  ∙ sym (ap (λ at. ltb at (suc (length xs)) && eqb (get_or (x ∷ xs) at d) n) here ∙ and_from (ltb 0 (suc (length xs))) (eqb x n) (lt-ltb 0 (suc (length xs)) (omega arith)) e)
            ]
      ]

  -- the number at its place tells whether it is there
  pub has_here : (xs : List ℕ) (at d : ℕ) → rises_from 0 xs ≡ true → at ≡ place n xs → at < length xs → eqb (get_or xs at d) n ≡ has_number xs n
  has_here xs at d rises is within =
      ap (λ k. eqb (get_or xs k d) n) is
      ∙ sym (has_is 0 xs d rises ∙ and_true (ltb (place n xs) (length xs)) _ (lt-ltb (place n xs) (length xs) (omega (arith, is))))

  -- past the end it is not
  pub has_past : (xs : List ℕ) (at : ℕ) → rises_from 0 xs ≡ true → at ≡ place n xs → length xs ≤ at → has_number xs n ≡ false
  has_past xs at rises is past =
      has_is 0 xs 0 rises ∙ and_left (ltb (place n xs) (length xs)) _ (le-ltb (place n xs) (length xs) (omega (arith, is)))

  -- a new number goes in at its place
  insert-with : (xs : List ℕ) → has_number xs n ≡ false → insert xs (place n xs) n ≡ with_number n xs
  insert-with [] absent = refl
  insert-with (x ∷ xs) absent =
      let parts = or_parts (eqb x n) (has_number xs n) absent in
      elim (cases_lt x n) [
        | inl below ↦
            ap (λ at. insert (x ∷ xs) at n) (place_after x xs below) ∙ ap (λ (ys : List ℕ). x ∷ ys) (insert-with xs parts.1)
            ∙ sym (ap (λ b. cond b (n ∷ x ∷ xs) (x ∷ with_number n xs)) (le-ltb n x (omega arith)))
        | inr not_below ↦
            let other = eqb-false x n parts.0 in
            let above : n < x = omega (arith, other) in
            ap (λ at. insert (x ∷ xs) at n) (place_here x xs not_below) ∙ sym (ap (λ b. cond b (n ∷ x ∷ xs) (x ∷ with_number n xs)) (lt-ltb n x above))
      ]

  -- and the list ascends with it
  pub rises-with : (least : ℕ) (xs : List ℕ) → least ≤ n → has_number xs n ≡ false → rises_from least xs ≡ true → rises_from least (with_number n xs) ≡ true
  rises-with least [] le absent rises = rises-cons least n [] le refl
  rises-with least (x ∷ xs) le absent rises =
      let parts = rising least x xs rises in
      let others = or_parts (eqb x n) (has_number xs n) absent in
      let first = parts.0 in
      let other = eqb-false x n others.0 in
      elim (cases_lt n x) [
        | inl above ↦ rw (lt-ltb n x above) (rises-cons least n (x ∷ xs) le (rises-cons (n + 1) x xs (omega arith) parts.1))
        | inr not_above ↦ rw (le-ltb n x not_above) (rises-cons least x (with_number n xs) first (rises-with (x + 1) xs (omega (arith, other)) others.1 parts.1))
      ]

  -- what is not there need not be taken out
  pub without-absent : (xs : List ℕ) → has_number xs n ≡ false → without_number n xs ≡ xs
  without-absent [] absent = refl
  without-absent (x ∷ xs) absent =
      let parts = or_parts (eqb x n) (has_number xs n) absent in
      ap (λ b. cond (not b) (x ∷ without_number n xs) (without_number n xs)) parts.0 ∙ ap (λ (ys : List ℕ). x ∷ ys) (without-absent xs parts.1)

  -- a number that is there is taken out at its place
  remove-without : (least : ℕ) (xs : List ℕ) → rises_from least xs ≡ true → has_number xs n ≡ true → remove xs (place n xs) ≡ without_number n xs
  remove-without least [] rises there = absurd (let bad : false ≡ true = there in cc)
  remove-without least (x ∷ xs) rises there =
      let parts = rising least x xs rises in
      elim (cases_lt x n) [
        | inl below ↦
            let other : eqb x n ≡ false = ne_eqb x n (λ same. absurd (omega (arith, same))) in
            let there' : has_number xs n ≡ true = sym (ap (λ b. b || has_number xs n) other) ∙ there in
            ap (remove (x ∷ xs)) (place_after x xs below) ∙ ap (λ (ys : List ℕ). x ∷ ys) (remove-without (x + 1) xs parts.1 there')
            ∙ sym (ap (λ b. cond (not b) (x ∷ without_number n xs) (without_number n xs)) other)
        | inr not_below ↦
            let same : x ≡ n = elim (or_cases (eqb x n) (has_number xs n) there) [
              | inl here ↦ eqb-true x n here
              | inr further ↦ absurd (let absent = absent_below (x + 1) xs (omega arith) parts.1 in let bad : false ≡ true = sym absent ∙ further in cc)
            ] in
            let absent = absent_below (x + 1) xs (omega (arith, same)) parts.1 in
            ap (remove (x ∷ xs)) (place_here x xs not_below) ∙ sym (without-absent xs absent)
            ∙ sym (ap (λ b. cond (not b) (x ∷ without_number n xs) (without_number n xs)) (eq-eqb x n same))
      ]

  -- fewer numbers ascend too
  rises-without : (least : ℕ) (xs : List ℕ) → rises_from least xs ≡ true → rises_from least (without_number n xs) ≡ true
  rises-without least [] rises = refl
  rises-without least (x ∷ xs) rises =
      let parts = rising least x xs rises in
      let first = parts.0 in
      let rest = rises-without (x + 1) xs parts.1 in
      elim (eqb x n) as (λ b. rises_from least (cond (not b) (x ∷ without_number n xs) (without_number n xs)) ≡ true) [
        | true ↦ rises_from-lower least (x + 1) _ (omega arith) rest
        | false ↦ rises-cons least x _ first rest
      ]

-- what stands in a vector at the place of a number: `items` is what the vector has, `now` how the numbers are seen
module _ (n at : ℕ) (items now : List ℕ) (same : items ≡ now) (rises : rises_from 0 items ≡ true) (is_place : at ≡ place n now) where
  at_place : at ≡ place n items
  at_place = is_place ∙ ap (place n) (sym same)

  in_items : (b : Bool) → has_number now n ≡ b → has_number items n ≡ b
  in_items b e = ap (λ (xs : List ℕ). has_number xs n) same ∙ e

  pub at_within : at ≤ length items
  at_within = let is = at_place in let within = place_within n items in omega (arith, is, within)

  pub at_there : has_number now n ≡ true → at < length items
  at_there there =
      let is = at_place in
      let parts = and_parts (ltb (place n items) (length items)) (eqb (get_or items (place n items) 0) n) (sym (has_is n 0 items 0 rises) ∙ in_items true there) in
      let within = ltb-true (place n items) (length items) parts.0 in
      omega (arith, is, within)

  -- the number that was read there tells whether it is among them
  pub read_there : (read : ℕ) → at < length items → read ≡ get_or items at read → eqb read n ≡ has_number now n
  read_there read within was =
      ap (λ k. eqb k n) was ∙ has_here n items at read rises at_place within ∙ ap (λ (xs : List ℕ). has_number xs n) same

  pub none_past : length items ≤ at → has_number now n ≡ false
  none_past past = sym (ap (λ (xs : List ℕ). has_number xs n) same) ∙ has_past n items at rises at_place past

  pub added : has_number now n ≡ false → (new : List ℕ) → new ≡ insert items at n → new ≡ with_number n now
  added absent new is = is ∙ ap (λ k. insert items k n) at_place ∙ insert-with n items (in_items false absent) ∙ ap (with_number n) same

  pub added_rises : has_number now n ≡ false → (new : List ℕ) → new ≡ insert items at n → rises_from 0 new ≡ true
  added_rises absent new is = subst (λ (xs : List ℕ). rises_from 0 xs ≡ true) (sym (added absent new is)) (rises-with n 0 now (omega arith) absent (subst (λ (xs : List ℕ). rises_from 0 xs ≡ true) same rises))

  pub taken_out : has_number now n ≡ true → (new : List ℕ) → new ≡ remove items at → new ≡ without_number n now
  taken_out there new is = is ∙ ap (remove items) at_place ∙ remove-without n 0 items rises (in_items true there) ∙ ap (without_number n) same

  pub taken_out_rises : has_number now n ≡ true → (new : List ℕ) → new ≡ remove items at → rises_from 0 new ≡ true
  taken_out_rises there new is = subst (λ (xs : List ℕ). rises_from 0 xs ≡ true) (sym (taken_out there new is)) (rises-without n 0 now (subst (λ (xs : List ℕ). rises_from 0 xs ≡ true) same rises))
