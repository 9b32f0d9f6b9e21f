-- The value at a key, and a map that lacks it.
use Rattle.std.proofs.Common.{◌≡◌, ℕ, zero, suc, ◌+◌, ◌<◌, ◌≤◌, true, false, not, cond, eqb, ltb, leb, List, [], ◌∷◌, ◌++◌, length, get_or, refl, sym, ap, ◌∙◌, subst, arith, inl, inr, Some, None}
use Rattle.std.specs.List.{All, remove}
use Rattle.std.proofs.lemmas.Bool.{cases_lt, or_parts, ne_eqb, and_parts, and_from, leb-true, le-leb, eq-eqb, eqb-true, ltb-true}
use Rattle.std.proofs.lemmas.Bool.Decides.{nat_tests}
use Rattle.std.proofs.lemmas.List.Elements.{All-head, All-tail, All-cons, All-weaker}
use Rattle.rbc_maps.specs.Maps.{has, index_for, keys, rises_from, value_of, without}
use Rattle.rbc_maps.specs.Numbered.{Numbered, AreNumbered}
use Rattle.rbc_maps.proofs.MapFacts.{rises_from-lower}
use Rattle.rbc_maps.proofs.MapPlaces.{absent_below, has_is, rises_above}

module _ {V : Type 0} where
  place_after : (key : ℕ) (pair : ℕ × V) (pairs : List (ℕ × V)) → pair.0 < key → index_for key (pair ∷ pairs) ≡ suc (index_for key pairs)
  place_after key pair pairs below = grind (arith, nat_tests)

  place_here : (key : ℕ) (pair : ℕ × V) (pairs : List (ℕ × V)) → key ≤ pair.0 → index_for key (pair ∷ pairs) ≡ 0
  place_here key pair pairs not_below = grind (arith, nat_tests)

  -- an index at which the key stands is its place
  pub place_at : (least : ℕ) (pairs : List (ℕ × V)) → rises_from least (keys pairs) ≡ true → (i : ℕ) (d : ℕ × V) → i < length pairs → (key : ℕ) → (get_or pairs i d).0 ≡ key → i ≡ index_for key pairs
  place_at least [] rises i d within key same = absurd (omega arith)
  place_at least (pair ∷ pairs) rises zero d within key same = sym (place_here key pair pairs (omega (arith, same)))
  place_at least (pair ∷ pairs) rises (suc i) d within key same =
      let parts = and_parts (leb least pair.0) (rises_from (pair.0 + 1) (keys pairs)) rises in
      let above = rises_above (pair.0 + 1) pairs parts.1 i d (omega arith) in
      ap suc (place_at (pair.0 + 1) pairs parts.1 i d (omega arith) key same) ∙ sym (place_after key pair pairs (omega (arith, above, same)))

  -- the value at the key's place
  pub value_of-here : (key : ℕ) (pairs : List (ℕ × V)) (d : ℕ × V) → index_for key pairs < length pairs → (get_or pairs (index_for key pairs) d).0 ≡ key → value_of pairs key ≡ Some ((get_or pairs (index_for key pairs) d).1)
  value_of-here key [] d within same = absurd (omega arith)
  value_of-here key (pair ∷ pairs) d within same = elim (cases_lt pair.0 key) [
    | inl below ↦
        let here = place_after key pair pairs below in
        let other : eqb pair.0 key ≡ false = ne_eqb pair.0 key (λ equal. absurd (omega (arith, equal))) in
        let within' : suc (index_for key pairs) < suc (length pairs) = subst (λ n. n < suc (length pairs)) here within in
        let same' : (get_or (pair ∷ pairs) (suc (index_for key pairs)) d).0 ≡ key = subst (λ n. (get_or (pair ∷ pairs) n d).0 ≡ key) here same in
        ap (λ b. cond b (Some pair.1) (value_of pairs key)) other ∙ value_of-here key pairs d (omega arith) same' ∙ sym (ap (λ n. Some ((get_or (pair ∷ pairs) n d).1)) here)
    | inr not_below ↦
        let here = place_here key pair pairs not_below in
        let same' : pair.0 ≡ key = subst (λ n. (get_or (pair ∷ pairs) n d).0 ≡ key) here same in
        ap (λ b. cond b (Some pair.1) (value_of pairs key)) (eq-eqb pair.0 key same') ∙ sym (ap (λ n. Some ((get_or (pair ∷ pairs) n d).1)) here)
  ]

  pub value_of-absent : (key : ℕ) (pairs : List (ℕ × V)) → has pairs key ≡ false → value_of pairs key ≡ None
  value_of-absent key [] absent = refl
  value_of-absent key (pair ∷ pairs) absent =
      let parts = or_parts (eqb pair.0 key) (has pairs key) absent in
      ap (λ b. cond b (Some pair.1) (value_of pairs key)) parts.0 ∙ value_of-absent key pairs parts.1

  -- a map that lacks the key is the same without it
  pub without-absent : (key : ℕ) (pairs : List (ℕ × V)) → has pairs key ≡ false → without key pairs ≡ pairs
  without-absent key [] absent = refl
  without-absent key (pair ∷ pairs) absent =
      let parts = or_parts (eqb pair.0 key) (has pairs key) absent in
      ap (λ b. cond (not b) (pair ∷ without key pairs) (without key pairs)) parts.0 ∙ ap (λ (xs : List (ℕ × V)). pair ∷ xs) (without-absent key pairs parts.1)

  -- without a key that is there, the pair at its place is gone
  pub without-here : (key least : ℕ) (pairs : List (ℕ × V)) (d : ℕ × V) → rises_from least (keys pairs) ≡ true → index_for key pairs < length pairs → (get_or pairs (index_for key pairs) d).0 ≡ key → without key pairs ≡ remove pairs (index_for key pairs)
  without-here key least [] d rises within same = absurd (omega arith)
  without-here key least (pair ∷ pairs) d rises within same =
      let parts = and_parts (leb least pair.0) (rises_from (pair.0 + 1) (keys pairs)) rises in
      elim (cases_lt pair.0 key) [
        | inl below ↦
            let here = place_after key pair pairs below in
            let other : eqb pair.0 key ≡ false = ne_eqb pair.0 key (λ equal. absurd (omega (arith, equal))) in
            let within' : suc (index_for key pairs) < suc (length pairs) = subst (λ n. n < suc (length pairs)) here within in
            let same' : (get_or (pair ∷ pairs) (suc (index_for key pairs)) d).0 ≡ key = subst (λ n. (get_or (pair ∷ pairs) n d).0 ≡ key) here same in
            ap (λ b. cond (not b) (pair ∷ without key pairs) (without key pairs)) other
            ∙ ap (λ (xs : List (ℕ × V)). pair ∷ xs) (without-here key (pair.0 + 1) pairs d parts.1 (omega arith) same')
            ∙ sym (ap (λ n. remove (pair ∷ pairs) n) here)
        | inr not_below ↦
            let here = place_here key pair pairs not_below in
            let same' : pair.0 ≡ key = subst (λ n. (get_or (pair ∷ pairs) n d).0 ≡ key) here same in
            let gone : has pairs key ≡ false = absent_below key (pair.0 + 1) pairs (omega (arith, same')) parts.1 in
            ap (λ b. cond (not b) (pair ∷ without key pairs) (without key pairs)) (eq-eqb pair.0 key same')
            ∙ without-absent key pairs gone ∙ sym (ap (λ n. remove (pair ∷ pairs) n) here)
      ]

  -- what is left rises too
  pub rises-without : (key least : ℕ) (pairs : List (ℕ × V)) → rises_from least (keys pairs) ≡ true → rises_from least (keys (without key pairs)) ≡ true
  rises-without key least [] rises = refl
  rises-without key least (pair ∷ pairs) rises =
      let parts = and_parts (leb least pair.0) (rises_from (pair.0 + 1) (keys pairs)) rises in
      let rest = rises-without key (pair.0 + 1) pairs parts.1 in
      elim (eqb pair.0 key) as (λ b. rises_from least (keys (cond (not b) (pair ∷ without key pairs) (without key pairs))) ≡ true) [
        | true ↦ rises_from-lower least (pair.0 + 1) _ (let low = leb-true least pair.0 parts.0 in omega (arith, low)) rest
        | false ↦ and_from (leb least pair.0) _ parts.0 rest
      ]

  -- so does a map with one more key that is above all others
  pub rises-snoc : (key : ℕ) (value : V) (least : ℕ) (pairs : List (ℕ × V)) → least ≤ key → All (λ k. k < key) (keys pairs) → rises_from least (keys pairs) ≡ true → rises_from least (keys (pairs ++ (key, value) ∷ [])) ≡ true
  rises-snoc key value least [] le below rises = and_from (leb least key) true (le-leb least key le) refl
  rises-snoc key value least (pair ∷ pairs) le below rises =
      let parts = and_parts (leb least pair.0) (rises_from (pair.0 + 1) (keys pairs)) rises in
      let first : pair.0 < key = All-head (λ k. k < key) pair.0 (keys pairs) below in
      and_from (leb least pair.0) _ parts.0 (rises-snoc key value (pair.0 + 1) pairs (omega (arith, first)) (All-tail (λ k. k < key) pair.0 (keys pairs) below) parts.1)

  -- what holds of each key holds of each key that is left
  pub All-without : (P : ℕ → Type 0) (key : ℕ) (pairs : List (ℕ × V)) → All P (keys pairs) → All P (keys (without key pairs))
  All-without P key [] all = all
  All-without P key (pair ∷ pairs) all =
      let rest = All-without P key pairs (All-tail P pair.0 (keys pairs) all) in
      elim (eqb pair.0 key) as (λ b. All P (keys (cond (not b) (pair ∷ without key pairs) (without key pairs)))) [
        | true ↦ rest
        | false ↦ All-cons P pair.0 (keys (without key pairs)) (All-head P pair.0 (keys pairs) all) rest
      ]

  -- and of each key after one more is added, if it holds of that one
  pub All-snoc : (P : ℕ → Type 0) (key : ℕ) (value : V) (pairs : List (ℕ × V)) → All P (keys pairs) → P key → All P (keys (pairs ++ (key, value) ∷ []))
  All-snoc P key value [] all it = All-cons P key [] it all
  All-snoc P key value (pair ∷ pairs) all it = All-cons P pair.0 (keys (pairs ++ (key, value) ∷ [])) (All-head P pair.0 (keys pairs) all) (All-snoc P key value pairs (All-tail P pair.0 (keys pairs) all) it)

  -- numbers that rise from 1 make a map
  pub map_of_numbered : (n : Numbered V) → AreNumbered n → rises_from 0 (keys n.active) ≡ true
  map_of_numbered n h = rises_from-lower 0 1 (keys n.active) (omega arith) h.ascending

  -- numbers that rise are no more than the last one
  count_from : (least last : ℕ) (pairs : List (ℕ × V)) → rises_from least (keys pairs) ≡ true → All (λ k. k ≤ last) (keys pairs) → least ≤ last + 1 → least + length pairs ≤ last + 1
  count_from least last [] rises within le = omega (arith, le)
  count_from least last (pair ∷ pairs) rises within le =
      let parts = and_parts (leb least pair.0) (rises_from (pair.0 + 1) (keys pairs)) rises in
      let low = leb-true least pair.0 parts.0 in
      let high : pair.0 ≤ last = All-head (λ k. k ≤ last) pair.0 (keys pairs) within in
      let rest = count_from (pair.0 + 1) last pairs parts.1 (All-tail (λ k. k ≤ last) pair.0 (keys pairs) within) (omega (arith, high)) in
      omega (arith, low, rest)

  pub count_within : (n : Numbered V) → AreNumbered n → length n.active ≤ n.last
  count_within n h = let count = count_from 1 n.last n.active h.ascending h.within (omega arith) in omega (arith, count)

  pub numbered-snoc : (n : Numbered V) (number : ℕ) (value : V) → AreNumbered n → n.last < number → AreNumbered (record { last = number; active = n.active ++ (number, value) ∷ [] })
  numbered-snoc n number value h above = record {
    ascending = rises-snoc number value 1 n.active (omega arith) (All-weaker (λ k. k ≤ n.last) (λ k. k < number) (λ k le. omega (arith, le)) (keys n.active) h.within) h.ascending;
    within = All-snoc (λ k. k ≤ number) number value n.active (All-weaker (λ k. k ≤ n.last) (λ k. k ≤ number) (λ k le. omega (arith, le)) (keys n.active) h.within) (omega arith);
  }

  pub numbered-without : (n : Numbered V) (number : ℕ) → AreNumbered n → AreNumbered (record { last = n.last; active = without number n.active })
  numbered-without n number h = record {
    ascending = rises-without number 1 n.active h.ascending;
    within = All-without (λ k. k ≤ n.last) number n.active h.within;
  }

  within_by : (key : ℕ) (pairs : List (ℕ × V)) → has pairs key ≡ true → ((d : ℕ × V) → ltb (index_for key pairs) (length pairs) ≡ true) → index_for key pairs < length pairs
  within_by key [] there h = absurd (let bad : false ≡ true = there in cc)
  within_by key (pair ∷ pairs) there h = ltb-true _ _ (h pair)

  -- a key that is there stands at its place
  pub found_here : (key : ℕ) (pairs : List (ℕ × V)) → rises_from 0 (keys pairs) ≡ true → has pairs key ≡ true → (index_for key pairs < length pairs) × ((d : ℕ × V) → (get_or pairs (index_for key pairs) d).0 ≡ key)
  found_here key pairs rises there =
      let parts = λ (d : ℕ × V). and_parts (ltb (index_for key pairs) (length pairs)) (eqb (get_or pairs (index_for key pairs) d).0 key) (sym (has_is key 0 pairs d rises) ∙ there) in
      (within_by key pairs there (λ d. (parts d).0), λ d. eqb-true _ _ ((parts d).1))

  -- so without it the pair at its place is gone
  pub without-found : (key : ℕ) (pairs : List (ℕ × V)) → rises_from 0 (keys pairs) ≡ true → has pairs key ≡ true → remove pairs (index_for key pairs) ≡ without key pairs
  without-found key [] rises there = absurd (let bad : false ≡ true = there in cc)
  without-found key (pair ∷ pairs) rises there =
      let found = found_here key (pair ∷ pairs) rises there in
      sym (without-here key 0 (pair ∷ pairs) pair rises found.0 (found.1 pair))
