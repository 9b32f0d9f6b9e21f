-- What a map with one more key has.
use Rattle.std.proofs.Common.{◌≡◌, ◌≢◌, ℕ, zero, suc, ◌+◌, ◌<◌, ◌≤◌, Bool, true, false, cond, ◌||◌, eqb, leb, List, [], ◌∷◌, refl, sym, ap, ◌∙◌, arith, inl, inr}
use Rattle.std.specs.List.{list_any, filter, range_with_len, AllByRecursion}
use Rattle.std.proofs.lemmas.Bool.{cases_lt, or_parts, eqb-false, ne_eqb, le-ltb, and_parts, le-leb, leb-true, and_from}
use Rattle.std.proofs.lemmas.Bool.Decides.{nat_tests}
use Rattle.rbc_maps.specs.Maps.{has, with_value, rises_from}

pub or_swap : (a b c : Bool) → (a || (b || c)) ≡ (b || (a || c))
or_swap true true c = refl
or_swap true false c = refl
or_swap false b c = refl

module _ {V : Type 0} (key : ℕ) (value : V) where
  with_before : (pair : ℕ × V) (pairs : List (ℕ × V)) → key < pair.0 → with_value key value (pair ∷ pairs) ≡ (key, value) ∷ pair ∷ pairs
  with_before pair pairs above = grind (arith, nat_tests)

  with_after : (pair : ℕ × V) (pairs : List (ℕ × V)) → key ≢ pair.0 → pair.0 ≤ key → with_value key value (pair ∷ pairs) ≡ pair ∷ with_value key value pairs
  with_after pair pairs other above = let e = ne_eqb pair.0 key (λ same. other (sym same)) in let l = le-ltb key pair.0 above in rw (l, e) refl

  -- a new key adds its pair to what passes a test
  pub any-with_value : (test : ℕ × V → Bool) (pairs : List (ℕ × V)) → has pairs key ≡ false → list_any test (with_value key value pairs) ≡ (test (key, value) || list_any test pairs)
  any-with_value test [] absent = refl
  any-with_value test (pair ∷ pairs) absent =
      let parts = or_parts (eqb pair.0 key) (has pairs key) absent in
      let other : key ≢ pair.0 = λ same. eqb-false pair.0 key parts.0 (sym same) in
      elim (cases_lt key pair.0) [
        | inl above ↦ ap (list_any test) (with_before pair pairs above)
        | inr not_above ↦ ap (list_any test) (with_after pair pairs other not_above) ∙ ap (λ b. test pair || b) (any-with_value test pairs parts.1) ∙ or_swap (test pair) (test (key, value)) (list_any test pairs)
      ]

-- fewer are below a lower bound
pub rises_from-lower : (low least : ℕ) (ks : List ℕ) → low ≤ least → rises_from least ks ≡ true → rises_from low ks ≡ true
rises_from-lower low least [] le rises = refl
rises_from-lower low least (k ∷ ks) le rises =
    let parts = and_parts (leb least k) (rises_from (k + 1) ks) rises in
    let above = leb-true least k parts.0 in
    and_from (leb low k) (rises_from (k + 1) ks) (le-leb low k (omega arith)) parts.1

-- a filter of numbers in a row rises
pub rises_from-filter : (test : ℕ → Bool) (least count : ℕ) → rises_from least (filter test (range_with_len least count)) ≡ true
rises_from-filter test least zero = refl
rises_from-filter test least (suc count) =
    let rest = rises_from-filter test (least + 1) count in
    elim (test least) as (λ b. rises_from least (cond b (least ∷ filter test (range_with_len (least + 1) count)) (filter test (range_with_len (least + 1) count))) ≡ true) [
      | true ↦ and_from (leb least least) (rises_from (least + 1) (filter test (range_with_len (least + 1) count))) (le-leb least least (omega arith)) rest
      | false ↦ rises_from-lower least (least + 1) _ (omega arith) rest
    ]

-- where nothing passes, each fails
pub each_fails : {X : Type 0} (test : X → Bool) (xs : List X) → filter test xs ≡ [] → AllByRecursion (λ x. test x ≡ false) xs
each_fails test [] e = tt
each_fails {X} test (x ∷ xs) e =
    (elim (test x) as (λ b. test x ≡ b → cond b (x ∷ filter test xs) (filter test xs) ≡ [] → (test x ≡ false) × AllByRecursion (λ y. test y ≡ false) xs) [
      | true ↦ λ is none. absurd (let bad : x ∷ filter test xs ≡ [] = none in cc)
      | false ↦ λ is none. (is, each_fails test xs none)
    ]) refl e
