-- Ascending lists of the keys of those values of a map of which something holds.
use Rattle.std.proofs.Common.{◌≡◌, ℕ, ◌+◌, ◌<◌, ◌≤◌, Bool, true, false, not, cond, ◌||◌, eqb, ltb, leb, List, [], ◌∷◌, ◌++◌, map, length, flat_map, filter, Option, Some, None, refl, sym, ap, ◌∙◌, subst, arith, inl, inr}
use Rattle.std.specs.List.{insert, remove}
use Rattle.std.specs.Option.{option_map_or}
use Rattle.std.proofs.lemmas.Bool.{cases_lt, both_ways, or_from, or_left, and_parts, and_from, leb-true, eqb-true, eq-eqb, ne_eqb}
use Rattle.rbc_maps.specs.Maps.{IsMap, has, keys, rises_from, value_of, with_value, without}
use Rattle.rbc_maps.proofs.MapFacts.{rises_from-lower, or_swap}
use Rattle.rbc_maps.proofs.MapPlaces.{absent_below, rises-with_value}
use Rattle.rbc_maps.proofs.MapValues.{value_of-absent}
use Rattle.rbc_settle.specs.Numbers.{AreNumbers, has_number, with_number, without_number}
use Rattle.rbc_settle.proofs.NumberLists.{place, added, added_rises, taken_out, taken_out_rises, without-absent}
use Rattle.rbc_rule.proofs.AllGathered.{found_in, each_key}
use Rattle.rbc_rule.proofs.KeepsLists.{part-absent, part-filter, length-filter}
use Rattle.rbc_rule.proofs.WorldMaps.{has_keys, length_keys, value_of-with_value}

-- ---- ascending lists with the same members

-- a number below all of them is not there
none_below : (n least : ℕ) (xs : List ℕ) → n < least → rises_from least xs ≡ true → has_number xs n ≡ false
none_below n least [] below rises = refl
none_below n least (x ∷ xs) below rises =
    let parts = and_parts (leb least x) (rises_from (x + 1) xs) rises in
    let above = leb-true least x parts.0 in
    let other = ne_eqb x n (λ same. absurd (omega (arith, above, same))) in
    or_from (eqb x n) (has_number xs n) other (none_below n (x + 1) xs (omega (arith, above)) parts.1)

-- a list has its first number
has_first : (x : ℕ) (xs : List ℕ) → has_number (x ∷ xs) x ≡ true
has_first x xs = or_left (eqb x x) (has_number xs x) (eq-eqb x x refl)

-- an ascending list that has the first of another one begins no later
begins_by : (x y : ℕ) (xs ys : List ℕ) → rises_from (y + 1) ys ≡ true → ((n : ℕ) → has_number (x ∷ xs) n ≡ has_number (y ∷ ys) n) → y ≤ x
begins_by x y xs ys rises same = elim (cases_lt x y) [
  | inl below ↦
      let other = ne_eqb y x (λ e. absurd (omega (arith, e))) in
      let absent = or_from (eqb y x) (has_number ys x) other (none_below x (y + 1) ys (omega arith) rises) in
      absurd (both_ways (has_number (y ∷ ys) x) absent (sym (same x) ∙ has_first x xs))
  | inr not_below ↦ not_below
]

-- behind a common first number the members are the same too
same_rest : (x y : ℕ) (xs ys : List ℕ) → x ≡ y → rises_from (x + 1) xs ≡ true → rises_from (y + 1) ys ≡ true
    → ((n : ℕ) → has_number (x ∷ xs) n ≡ has_number (y ∷ ys) n) → (n : ℕ) → has_number xs n ≡ has_number ys n
same_rest x y xs ys e rises rises' same n = elim (cases_lt x n) [
  | inl above ↦
      let other = ne_eqb x n (λ is. absurd (omega (arith, is))) in
      let other' = ne_eqb y n (λ is. absurd (omega (arith, is, e))) in
      sym (ap (λ b. b || has_number xs n) other) ∙ same n ∙ ap (λ b. b || has_number ys n) other'
  | inr not_above ↦ none_below n (x + 1) xs (omega arith) rises ∙ sym (none_below n (y + 1) ys (omega (arith, e)) rises')
]

-- the lists may begin anywhere
same_from : (least other : ℕ) (xs ys : List ℕ) → rises_from least xs ≡ true → rises_from other ys ≡ true
    → ((n : ℕ) → has_number xs n ≡ has_number ys n) → xs ≡ ys
same_from least other [] [] rises rises' same = refl
same_from least other [] (y ∷ ys) rises rises' same = absurd (both_ways (has_number (y ∷ ys) y) (sym (same y)) (has_first y ys))
same_from least other (x ∷ xs) [] rises rises' same = absurd (both_ways (has_number (x ∷ xs) x) (same x) (has_first x xs))
same_from least other (x ∷ xs) (y ∷ ys) rises rises' same =
    let rest = (and_parts (leb least x) (rises_from (x + 1) xs) rises).1 in
    let rest' = (and_parts (leb other y) (rises_from (y + 1) ys) rises').1 in
    let low = begins_by x y xs ys rest' same in
    let high = begins_by y x ys xs rest (λ n. sym (same n)) in
    let first : x ≡ y = omega (arith, low, high) in
    let others = same_from (x + 1) (y + 1) xs ys rest rest' (same_rest x y xs ys first rest rest' same) in
    λ i. first i ∷ others i

-- two ascending lists with the same members are one
pub same_numbers : (xs ys : List ℕ) → AreNumbers xs → AreNumbers ys → ((n : ℕ) → has_number xs n ≡ has_number ys n) → xs ≡ ys
same_numbers xs ys rises rises' same = same_from 0 0 xs ys rises rises' same

-- ---- members of a list with a number more, and with one less

-- the new number is a member, and so are the others
pub has-with_number : (n : ℕ) (xs : List ℕ) (m : ℕ) → has_number (with_number n xs) m ≡ (eqb n m || has_number xs m)
has-with_number n [] m = refl
has-with_number n (x ∷ xs) m = by (ltb n x) (has-with_number n xs m)
  where
    by : (b : Bool) → has_number (with_number n xs) m ≡ (eqb n m || has_number xs m)
        → has_number (cond b (n ∷ x ∷ xs) (x ∷ with_number n xs)) m ≡ (eqb n m || (eqb x m || has_number xs m))
    by true rest = refl
    by false rest = ap (λ b. eqb x m || b) rest ∙ or_swap (eqb x m) (eqb n m) (has_number xs m)

-- a test that passes where another does is hidden by it
hidden : (b c d : Bool) → b ≡ c → cond b false d ≡ cond b false (c || d)
hidden true c d e = refl
hidden false false d e = refl
hidden false true d e = absurd (let bad : false ≡ true = e in cc)

-- of two tests only one passes
apart : (b c d : Bool) → (b ≡ true → c ≡ true → ⊥) → (c || cond b false d) ≡ cond b false (c || d)
apart true true d h = absurd (h refl refl)
apart true false d h = refl
apart false c d h = refl

-- no test makes false true
never : (b : Bool) → false ≡ cond b false false
never true = refl
never false = refl

-- the number is no member any more, and the others are
pub has-without_number : (n : ℕ) (xs : List ℕ) (m : ℕ) → has_number (without_number n xs) m ≡ cond (eqb n m) false (has_number xs m)
has-without_number n [] m = never (eqb n m)
has-without_number n (x ∷ xs) m = by (eqb x n) refl (has-without_number n xs m)
  where
    same : eqb x n ≡ true → eqb n m ≡ eqb x m
    same q = ap (λ k. eqb k m) (sym (eqb-true x n q))

    other : eqb x n ≡ false → eqb n m ≡ true → eqb x m ≡ true → ⊥
    other q r s = both_ways (eqb x n) q (eq-eqb x n (eqb-true x m s ∙ sym (eqb-true n m r)))

    by : (b : Bool) → eqb x n ≡ b → has_number (without_number n xs) m ≡ cond (eqb n m) false (has_number xs m)
        → has_number (cond (not b) (x ∷ without_number n xs) (without_number n xs)) m ≡ cond (eqb n m) false (eqb x m || has_number xs m)
    by true q rest = rest ∙ hidden (eqb n m) (eqb x m) (has_number xs m) (same q)
    by false q rest = ap (λ b. eqb x m || b) rest ∙ apart (eqb n m) (eqb x m) (has_number xs m) (other q)

-- a list with a number that it had not ascends
pub ascends-with : (n : ℕ) (xs : List ℕ) → AreNumbers xs → has_number xs n ≡ false → AreNumbers (with_number n xs)
ascends-with n xs rises absent =
    let at = place n xs in
    let is = added n at xs xs refl rises refl absent (insert xs at n) refl in
    subst (λ (ys : List ℕ). rises_from 0 ys ≡ true) is (added_rises n at xs xs refl rises refl absent (insert xs at n) refl)

-- so does a list without a number that it had
pub ascends-without : (n : ℕ) (xs : List ℕ) → AreNumbers xs → has_number xs n ≡ true → AreNumbers (without_number n xs)
ascends-without n xs rises there =
    let at = place n xs in
    let is = taken_out n at xs xs refl rises refl there (remove xs at) refl in
    subst (λ (ys : List ℕ). rises_from 0 ys ≡ true) is (taken_out_rises n at xs xs refl rises refl there (remove xs at) refl)

-- ---- the keys of the values of which something holds

module _ {V : Type 0} (p : V → Bool) where
  -- the pairs whose values are such
  abbrev chosen : List (ℕ × V) → List (ℕ × V)
  chosen pairs = filter (λ pair. p pair.1) pairs

  -- the keys of the values of which it holds
  abbrev pub listed : List (ℕ × V) → List ℕ
  listed pairs = keys (filter (λ pair. p pair.1) pairs)

  -- they begin no lower than the keys
  rises_listed : (least : ℕ) (pairs : List (ℕ × V)) → rises_from least (keys pairs) ≡ true → rises_from least (listed pairs) ≡ true
  rises_listed least [] rises = refl
  rises_listed least (pair ∷ pairs) rises =
      let parts = and_parts (leb least pair.0) (rises_from (pair.0 + 1) (keys pairs)) rises in
      let above = leb-true least pair.0 parts.0 in
      let rest = rises_listed (pair.0 + 1) pairs parts.1 in
      elim (p pair.1) as (λ b. rises_from least (keys (cond b (pair ∷ chosen pairs) (chosen pairs))) ≡ true) [
        | true ↦ and_from (leb least pair.0) (rises_from (pair.0 + 1) (listed pairs)) parts.0 rest
        | false ↦ rises_from-lower least (pair.0 + 1) (listed pairs) (omega (arith, above)) rest
      ]

  -- they ascend
  pub listed_rises : (pairs : List (ℕ × V)) → IsMap pairs → AreNumbers (listed pairs)
  listed_rises pairs is_map = rises_listed 0 pairs is_map

  -- they are at most as many as the pairs
  pub listed_few : (pairs : List (ℕ × V)) → length (listed pairs) ≤ length pairs
  listed_few pairs =
      let same : length (listed pairs) ≡ length (chosen pairs) = length_keys (chosen pairs) in
      let few : length (chosen pairs) ≤ length pairs = length-filter (λ (pair : ℕ × V). p pair.1) pairs in
      omega (arith, same, few)

  -- what is no key is not among them
  pub listed_absent : (pairs : List (ℕ × V)) (n : ℕ) → has pairs n ≡ false → has_number (listed pairs) n ≡ false
  listed_absent pairs n absent =
      let part = part-filter (λ (pair : ℕ × V). p pair.1) (λ (pair : ℕ × V). pair.0) pairs in
      part-absent n (listed pairs) (keys pairs) part (has_keys pairs n ∙ absent)

  -- a map may begin anywhere
  has_listed : (least : ℕ) (pairs : List (ℕ × V)) → rises_from least (keys pairs) ≡ true → (n : ℕ)
      → has_number (listed pairs) n ≡ option_map_or p (value_of pairs n) false
  has_listed least [] rises n = refl
  has_listed least (pair ∷ pairs) rises n =
      let parts = and_parts (leb least pair.0) (rises_from (pair.0 + 1) (keys pairs)) rises in
      by (p pair.1) (eqb pair.0 n) refl refl (has_listed (pair.0 + 1) pairs parts.1 n)
      (λ same. listed_absent pairs n (let e = eqb-true pair.0 n same in absent_below n (pair.0 + 1) pairs (omega (arith, e)) parts.1))
    where
      by : (b c : Bool) → p pair.1 ≡ b → eqb pair.0 n ≡ c → has_number (listed pairs) n ≡ option_map_or p (value_of pairs n) false
          → (eqb pair.0 n ≡ true → has_number (listed pairs) n ≡ false)
          → has_number (keys (cond b (pair ∷ chosen pairs) (chosen pairs))) n ≡ option_map_or p (cond c (Some pair.1) (value_of pairs n)) false
      by true true q r rest alone = or_left (eqb pair.0 n) (has_number (listed pairs) n) r ∙ sym q
      by true false q r rest alone = ap (λ b. b || has_number (listed pairs) n) r ∙ rest
      by false true q r rest alone = alone r ∙ sym q
      by false false q r rest alone = rest

  -- a key is among them where it has such a value
  pub listed_has : (pairs : List (ℕ × V)) → IsMap pairs → (n : ℕ) → has_number (listed pairs) n ≡ option_map_or p (value_of pairs n) false
  listed_has pairs is_map n = has_listed 0 pairs is_map n

  -- an ascending list that has a key where it has such a value is that list
  pub listed_is : (pairs : List (ℕ × V)) (numbers : List ℕ) → IsMap pairs → AreNumbers numbers
      → ((n : ℕ) → has_number numbers n ≡ option_map_or p (value_of pairs n) false) → numbers ≡ listed pairs
  listed_is pairs numbers is_map rises members =
      same_numbers numbers (listed pairs) rises (listed_rises pairs is_map) (λ n. members n ∙ sym (listed_has pairs is_map n))

  -- a key with a value is among them where it holds of the value
  pub listed_found : (n : ℕ) (old : V) (pairs : List (ℕ × V)) → IsMap pairs → value_of pairs n ≡ Some old → has_number (listed pairs) n ≡ p old
  listed_found n old pairs is_map found = listed_has pairs is_map n ∙ ap (λ (o : Option V). option_map_or p o false) found

  -- ---- one value more, or another one

  module _ (n : ℕ) (v : V) (pairs : List (ℕ × V)) (is_map : IsMap pairs) where
    -- they ascend
    rises_with : AreNumbers (listed (with_value n v pairs))
    rises_with = listed_rises (with_value n v pairs) (rises-with_value n v 0 pairs (omega arith) is_map)

    -- the others are as they were
    has_with : (m : ℕ) → has_number (listed (with_value n v pairs)) m ≡ cond (eqb n m) (p v) (has_number (listed pairs) m)
    has_with m =
        listed_has (with_value n v pairs) (rises-with_value n v 0 pairs (omega arith) is_map) m
        ∙ ap (λ (o : Option V). option_map_or p o false) (value_of-with_value n v pairs m)
        ∙ by (eqb n m)
      where
        by : (b : Bool) → option_map_or p (cond b (Some v) (value_of pairs m)) false ≡ cond b (p v) (has_number (listed pairs) m)
        by true = refl
        by false = sym (listed_has pairs is_map m)

    -- a value of which it holds where the key was among them
    kept : p v ≡ has_number (listed pairs) n → listed (with_value n v pairs) ≡ listed pairs
    kept same =
        same_numbers (listed (with_value n v pairs)) (listed pairs) rises_with (listed_rises pairs is_map) (λ m. has_with m ∙ by m (eqb n m) refl)
      where
        by : (m : ℕ) (b : Bool) → eqb n m ≡ b → cond b (p v) (has_number (listed pairs) m) ≡ has_number (listed pairs) m
        by m true q = same ∙ ap (has_number (listed pairs)) (eqb-true n m q)
        by m false q = refl

    -- a value of which it holds, where the key was not among them
    put_in : has_number (listed pairs) n ≡ false → p v ≡ true → listed (with_value n v pairs) ≡ with_number n (listed pairs)
    put_in absent holds =
        let rises = ascends-with n (listed pairs) (listed_rises pairs is_map) absent in
        same_numbers (listed (with_value n v pairs)) (with_number n (listed pairs)) rises_with rises
        (λ m. has_with m ∙ by m (eqb n m) ∙ sym (has-with_number n (listed pairs) m))
      where
        by : (m : ℕ) (b : Bool) → cond b (p v) (has_number (listed pairs) m) ≡ (b || has_number (listed pairs) m)
        by m true = holds
        by m false = refl

    -- a value of which it does not hold, where the key was among them
    taken : has_number (listed pairs) n ≡ true → p v ≡ false → listed (with_value n v pairs) ≡ without_number n (listed pairs)
    taken there fails =
        let rises = ascends-without n (listed pairs) (listed_rises pairs is_map) there in
        same_numbers (listed (with_value n v pairs)) (without_number n (listed pairs)) rises_with rises
        (λ m. has_with m ∙ ap (λ b. cond (eqb n m) b (has_number (listed pairs) m)) fails ∙ sym (has-without_number n (listed pairs) m))

  -- a value under a new key
  pub listed_new : (n : ℕ) (v : V) (pairs : List (ℕ × V)) → IsMap pairs → has pairs n ≡ false
      → listed (with_value n v pairs) ≡ cond (p v) (with_number n (listed pairs)) (listed pairs)
  listed_new n v pairs is_map absent = by (p v) refl
    where
      by : (b : Bool) → p v ≡ b → listed (with_value n v pairs) ≡ cond b (with_number n (listed pairs)) (listed pairs)
      by true q = put_in n v pairs is_map (listed_absent pairs n absent) q
      by false q = kept n v pairs is_map (q ∙ sym (listed_absent pairs n absent))

  -- a value in place of an old one, where it holds of both or of neither
  pub listed_stays : (n : ℕ) (v old : V) (pairs : List (ℕ × V)) → IsMap pairs → value_of pairs n ≡ Some old → p v ≡ p old
      → listed (with_value n v pairs) ≡ listed pairs
  listed_stays n v old pairs is_map found same = kept n v pairs is_map (same ∙ sym (listed_found n old pairs is_map found))

  -- a value of which it holds, in place of one of which it does not
  pub listed_comes : (n : ℕ) (v old : V) (pairs : List (ℕ × V)) → IsMap pairs → value_of pairs n ≡ Some old → p old ≡ false → p v ≡ true
      → listed (with_value n v pairs) ≡ with_number n (listed pairs)
  listed_comes n v old pairs is_map found was is = put_in n v pairs is_map (listed_found n old pairs is_map found ∙ was) is

  -- and the other way round
  pub listed_goes : (n : ℕ) (v old : V) (pairs : List (ℕ × V)) → IsMap pairs → value_of pairs n ≡ Some old → p old ≡ true → p v ≡ false
      → listed (with_value n v pairs) ≡ without_number n (listed pairs)
  listed_goes n v old pairs is_map found was is = taken n v pairs is_map (listed_found n old pairs is_map found ∙ was) is

  -- ---- one value less

  -- the key is taken out, if it was among them
  pub listed_without : (n : ℕ) (pairs : List (ℕ × V)) → listed (without n pairs) ≡ without_number n (listed pairs)
  listed_without n [] = refl
  listed_without n (pair ∷ pairs) = by (p pair.1) (eqb pair.0 n) refl refl (listed_without n pairs)
    where
      by : (b c : Bool) → p pair.1 ≡ b → eqb pair.0 n ≡ c → listed (without n pairs) ≡ without_number n (listed pairs)
          → listed (cond (not c) (pair ∷ without n pairs) (without n pairs)) ≡ without_number n (keys (cond b (pair ∷ chosen pairs) (chosen pairs)))
      by true true q r rest = rest ∙ sym (ap (λ c. cond (not c) (pair.0 ∷ without_number n (listed pairs)) (without_number n (listed pairs))) r)
      by true false q r rest =
          ap (λ b. keys (cond b (pair ∷ chosen (without n pairs)) (chosen (without n pairs)))) q ∙ ap (λ (xs : List ℕ). pair.0 ∷ xs) rest
          ∙ sym (ap (λ c. cond (not c) (pair.0 ∷ without_number n (listed pairs)) (without_number n (listed pairs))) r)
      by false true q r rest = rest
      by false false q r rest = ap (λ b. keys (cond b (pair ∷ chosen (without n pairs)) (chosen (without n pairs)))) q ∙ rest

  -- without a value of which it did not hold
  pub listed_without_other : (n : ℕ) (old : V) (pairs : List (ℕ × V)) → IsMap pairs → value_of pairs n ≡ Some old → p old ≡ false
      → listed (without n pairs) ≡ listed pairs
  listed_without_other n old pairs is_map found was =
      listed_without n pairs ∙ without-absent n (listed pairs) (listed_found n old pairs is_map found ∙ was)

  -- ---- all values changed

  -- a change of all values of which it holds as it did
  pub listed_map : (f : V → V) → ((v : V) → p (f v) ≡ p v) → (pairs : List (ℕ × V))
      → listed (map (λ (pair : ℕ × V). (pair.0, f pair.1)) pairs) ≡ listed pairs
  listed_map f same [] = refl
  listed_map f same (pair ∷ pairs) =
      let changed = chosen (map (λ (other : ℕ × V). (other.0, f other.1)) pairs) in
      ap (λ b. keys (cond b ((pair.0, f pair.1) ∷ changed) changed)) (same pair.1) ∙ by (p pair.1) changed (listed_map f same pairs)
    where
      by : (b : Bool) (changed : List (ℕ × V)) → keys changed ≡ listed pairs
          → keys (cond b ((pair.0, f pair.1) ∷ changed) changed) ≡ keys (cond b (pair ∷ chosen pairs) (chosen pairs))
      by true changed rest = ap (λ (xs : List ℕ). pair.0 ∷ xs) rest
      by false changed rest = rest

  -- ---- what is gathered

  module _ {A : Type 0} where
    -- keys that give nothing may be left out
    left_out : (h : ℕ → List A) (least : ℕ) (pairs : List (ℕ × V)) → rises_from least (keys pairs) ≡ true
        → ((n : ℕ) (v : V) → value_of pairs n ≡ Some v → p v ≡ false → h n ≡ []) → flat_map h (listed pairs) ≡ flat_map h (keys pairs)
    left_out h least [] rises nothing = refl
    left_out h least (pair ∷ pairs) rises nothing =
        by (p pair.1) refl (left_out h (pair.0 + 1) pairs rest (λ n v found. nothing n v (later n v found)))
      where
        rest : rises_from (pair.0 + 1) (keys pairs) ≡ true
        rest = (and_parts (leb least pair.0) (rises_from (pair.0 + 1) (keys pairs)) rises).1

        later : (n : ℕ) (v : V) → value_of pairs n ≡ Some v → value_of (pair ∷ pairs) n ≡ Some v
        later n v found = one (eqb pair.0 n) refl
          where
            one : (b : Bool) → eqb pair.0 n ≡ b → cond b (Some pair.1) (value_of pairs n) ≡ Some v
            one true q =
                let e = eqb-true pair.0 n q in
                let none = value_of-absent n pairs (absent_below n (pair.0 + 1) pairs (omega (arith, e)) rest) in
                absurd (let bad : None ≡ Some v = sym none ∙ found in cc)
            one false q = found

        by : (b : Bool) → p pair.1 ≡ b → flat_map h (listed pairs) ≡ flat_map h (keys pairs)
            → flat_map h (keys (cond b (pair ∷ chosen pairs) (chosen pairs))) ≡ h pair.0 ++ flat_map h (keys pairs)
        by true q others = ap (λ (xs : List A). h pair.0 ++ xs) others
        by false q others =
            let own = ap (λ b. cond b (Some pair.1) (value_of pairs pair.0)) (eq-eqb pair.0 pair.0 refl) in
            others ∙ sym (ap (λ (xs : List A). xs ++ flat_map h (keys pairs)) (nothing pair.0 pair.1 own q))

    -- what is gathered of the keys on such a list is what is gathered of all values, where the others give nothing
    pub gathered_listed : (g : V → List A) (pairs : List (ℕ × V)) (numbers : List ℕ) → IsMap pairs → AreNumbers numbers
        → ((n : ℕ) → has_number numbers n ≡ option_map_or p (value_of pairs n) false)
        → ((n : ℕ) (v : V) → value_of pairs n ≡ Some v → p v ≡ false → g v ≡ [])
        → flat_map (found_in g pairs) numbers ≡ flat_map (λ (pair : ℕ × V). g pair.1) pairs
    gathered_listed g pairs numbers is_map rises members nothing =
        ap (flat_map (found_in g pairs)) (listed_is pairs numbers is_map rises members)
        ∙ left_out (found_in g pairs) 0 pairs is_map
        (λ n v found fails. ap (λ (o : Option V). option_map_or g o []) found ∙ nothing n v found fails)
        ∙ each_key g pairs is_map
