-- Lists of which some elements are left out, and maps in which one value is replaced.
use Rattle.std.proofs.Common.{◌≡◌, ◌⊎◌, ℕ, suc, ◌+◌, ◌≤◌, Bool, true, false, cond, eqb, ltb, leb, List, [], ◌∷◌, ◌++◌, length, map, Option, Some, None, refl, sym, ap, ◌∙◌, subst, arith, inl, inr}
use Rattle.std.specs.List.{All, filter, filter_map, cons_option}
use Rattle.std.proofs.lemmas.Bool.{cases_lt, or_parts, or_from, and_parts, eqb-true, eq-eqb, ne_eqb}
use Rattle.std.proofs.lemmas.List.Elements.{All-cons, All-head, All-tail}
use Rattle.std.proofs.lemmas.Option.{same_Some}
use Rattle.rbc_maps.specs.Maps.{keys, rises_from, value_of, with_value}
use Rattle.rbc_ids.proofs.Lacking.{absent_below}
use Rattle.rbc_ids.proofs.Tables.{value_of-absent}
use Rattle.rbc_settle.specs.Numbers.{has_number}
use Rattle.rbc_settle.specs.WellFormed.{AreDistinct, AreApart}
use Rattle.rbc_settle.proofs.Revoking.{with_value-past, with_value-here}

-- a list is another one with some of its elements left out
abbrev pub IsPart : List ℕ → List ℕ → Type 0
IsPart xs [] = xs ≡ []
IsPart xs (y ∷ ys) = IsPart xs ys ⊎ ((rest : List ℕ) × (xs ≡ y ∷ rest) × IsPart rest ys)

pub part-kept : (y : ℕ) (xs ys : List ℕ) → IsPart xs ys → IsPart (y ∷ xs) (y ∷ ys)
part-kept y xs ys part = inr (xs, refl, part)

pub part-left : (y : ℕ) (xs ys : List ℕ) → IsPart xs ys → IsPart xs (y ∷ ys)
part-left y xs ys part = inl part

pub part-same : (xs : List ℕ) → IsPart xs xs
part-same [] = refl
part-same (x ∷ xs) = part-kept x xs xs (part-same xs)

pub part-equal : (xs ys : List ℕ) → xs ≡ ys → IsPart xs ys
part-equal xs ys e = subst (IsPart xs) e (part-same xs)

pub part-before : (xs ys zs : List ℕ) → IsPart xs ys → IsPart (xs ++ zs) (ys ++ zs)
part-before xs [] zs part = part-equal (xs ++ zs) zs (ap (λ (ws : List ℕ). ws ++ zs) part)
part-before xs (y ∷ ys) zs part = elim part [
  | inl left ↦ inl (part-before xs ys zs left)
  | inr kept ↦ inr (kept.0 ++ zs, ap (λ (ws : List ℕ). ws ++ zs) kept.1, part-before kept.0 ys zs kept.2)
]

pub part-behind : (zs xs ys : List ℕ) → IsPart xs ys → IsPart (zs ++ xs) (zs ++ ys)
part-behind [] xs ys part = part
part-behind (z ∷ zs) xs ys part = part-kept z (zs ++ xs) (zs ++ ys) (part-behind zs xs ys part)

-- what holds of each element holds of each that is left
pub part-all : (P : ℕ → Type 0) (xs ys : List ℕ) → IsPart xs ys → All P ys → All P xs
part-all P xs [] part all = subst (All P) (sym part) all
part-all P xs (y ∷ ys) part all = elim part [
  | inl left ↦ part-all P xs ys left (All-tail P y ys all)
  | inr kept ↦ subst (All P) (sym kept.1) (All-cons P y kept.0 (All-head P y ys all) (part-all P kept.0 ys kept.2 (All-tail P y ys all)))
]

pub part-absent : (n : ℕ) (xs ys : List ℕ) → IsPart xs ys → has_number ys n ≡ false → has_number xs n ≡ false
part-absent n xs [] part absent = ap (λ (ws : List ℕ). has_number ws n) part
part-absent n xs (y ∷ ys) part absent =
    let parts = or_parts (eqb y n) (has_number ys n) absent in
    elim part [
      | inl left ↦ part-absent n xs ys left parts.1
      | inr kept ↦ ap (λ (ws : List ℕ). has_number ws n) kept.1 ∙ or_from (eqb y n) (has_number kept.0 n) parts.0 (part-absent n kept.0 ys kept.2 parts.1)
    ]

pub part-distinct : (xs ys : List ℕ) → IsPart xs ys → AreDistinct ys → AreDistinct xs
part-distinct xs [] part distinct = subst AreDistinct (sym part) tt
part-distinct xs (y ∷ ys) part distinct = elim part [
  | inl left ↦ part-distinct xs ys left distinct.1
  | inr kept ↦ subst AreDistinct (sym kept.1) (part-absent y kept.0 ys kept.2 distinct.0, part-distinct kept.0 ys kept.2 distinct.1)
]

-- numbers that are apart from others stay so where some are left out
pub part-apart : (xs ys zs : List ℕ) → IsPart xs ys → AreApart ys zs → AreApart xs zs
part-apart xs [] zs part apart = subst (λ (ws : List ℕ). AreApart ws zs) (sym part) tt
part-apart xs (y ∷ ys) zs part apart = elim part [
  | inl left ↦ part-apart xs ys zs left apart.2
  | inr kept ↦ subst (λ (ws : List ℕ). AreApart ws zs) (sym kept.1) (part-absent y kept.0 ys kept.2 apart.0, apart.1, part-apart kept.0 ys zs kept.2 apart.2)
]

-- or where some of the others are
pub apart-part : (xs ys zs : List ℕ) → IsPart ys zs → AreApart xs zs → AreApart xs ys
apart-part [] ys zs part apart = tt
apart-part (x ∷ xs) ys zs part apart = (apart.0, part-absent x ys zs part apart.1, apart-part xs ys zs part apart.2)

-- an option beside each of both lists, or beside the longer one
pub part-more : (o : Option ℕ) (xs ys : List ℕ) → IsPart xs ys → IsPart (cons_option o xs) (cons_option o ys)
part-more None xs ys part = part
part-more (Some n) xs ys part = part-kept n xs ys part

pub part-fewer : (o : Option ℕ) (xs ys : List ℕ) → IsPart xs ys → IsPart xs (cons_option o ys)
part-fewer None xs ys part = part
part-fewer (Some n) xs ys part = part-left n xs ys part

module _ {X : Type 0} (test : X → Bool) where
  -- what a filter leaves is a part, seen through a function
  pub part-filter : (f : X → ℕ) (xs : List X) → IsPart (map f (filter test xs)) (map f xs)
  part-filter f [] = refl
  part-filter f (x ∷ xs) = elim (test x) as (λ b. IsPart (map f (cond b (x ∷ filter test xs) (filter test xs))) (f x ∷ map f xs)) [
    | true ↦ part-kept (f x) (map f (filter test xs)) (map f xs) (part-filter f xs)
    | false ↦ part-left (f x) (map f (filter test xs)) (map f xs) (part-filter f xs)
  ]

  pub part-filter_map : (f : X → Option ℕ) (xs : List X) → IsPart (filter_map f (filter test xs)) (filter_map f xs)
  part-filter_map f [] = refl
  part-filter_map f (x ∷ xs) = elim (test x) as (λ b. IsPart (filter_map f (cond b (x ∷ filter test xs) (filter test xs))) (cons_option (f x) (filter_map f xs))) [
    | true ↦ part-more (f x) (filter_map f (filter test xs)) (filter_map f xs) (part-filter_map f xs)
    | false ↦ part-fewer (f x) (filter_map f (filter test xs)) (filter_map f xs) (part-filter_map f xs)
  ]

  pub length-filter : (xs : List X) → length (filter test xs) ≤ length xs
  length-filter [] = omega arith
  length-filter (x ∷ xs) = elim (test x) as (λ b. length (cond b (x ∷ filter test xs) (filter test xs)) ≤ suc (length xs)) [
    | true ↦ omega (arith, length-filter xs)
    | false ↦ omega (arith, length-filter xs)
  ]

module _ {V : Type 0} where
  -- what holds of each pair holds of a pair that is put in, and the others
  pub All-with_value : (P : ℕ × V → Type 0) (key : ℕ) (value : V) (pairs : List (ℕ × V)) → P (key, value) → All P pairs → All P (with_value key value pairs)
  All-with_value P key value [] here all = All-cons P (key, value) [] here all
  All-with_value P key value (pair ∷ pairs) here all =
      let first = All-head P pair pairs all in
      let others = All-tail P pair pairs all in
      elim (ltb key pair.0) as (λ b. All P (cond b ((key, value) ∷ pair ∷ pairs) (cond (eqb pair.0 key) ((key, value) ∷ pairs) (pair ∷ with_value key value pairs)))) [
        | true ↦ All-cons P (key, value) (pair ∷ pairs) here all
        | false ↦ elim (eqb pair.0 key) as (λ b. All P (cond b ((key, value) ∷ pairs) (pair ∷ with_value key value pairs))) [
          | true ↦ All-cons P (key, value) pairs here others
          | false ↦ All-cons P pair (with_value key value pairs) first (All-with_value P key value pairs here others)
        ]
      ]

  -- at most one pair more
  pub length-with_value : (key : ℕ) (value : V) (pairs : List (ℕ × V)) → length (with_value key value pairs) ≤ suc (length pairs)
  length-with_value key value [] = omega arith
  length-with_value key value (pair ∷ pairs) =
      elim (ltb key pair.0) as (λ b. length (cond b ((key, value) ∷ pair ∷ pairs) (cond (eqb pair.0 key) ((key, value) ∷ pairs) (pair ∷ with_value key value pairs))) ≤ suc (suc (length pairs))) [
        | true ↦ omega arith
        | false ↦ elim (eqb pair.0 key) as (λ b. length (cond b ((key, value) ∷ pairs) (pair ∷ with_value key value pairs)) ≤ suc (suc (length pairs))) [
          | true ↦ omega arith
          | false ↦ omega (arith, length-with_value key value pairs)
        ]
      ]

  -- what holds of each pair holds of one that is looked up
  pub All-value_of : (P : ℕ × V → Type 0) (key : ℕ) (value : V) (pairs : List (ℕ × V)) → All P pairs → value_of pairs key ≡ Some value → P (key, value)
  All-value_of P key value [] all found = absurd (let bad : None ≡ Some value = found in cc)
  All-value_of P key value (pair ∷ pairs) all found =
      (elim (eqb pair.0 key) as (λ b. eqb pair.0 key ≡ b → cond b (Some pair.1) (value_of pairs key) ≡ Some value → P (key, value)) [
        | true ↦ λ is e. subst (λ (v : V). P (key, v)) (same_Some pair.1 value e) (subst (λ (k : ℕ). P (k, pair.1)) (eqb-true pair.0 key is) (All-head P pair pairs all))
        | false ↦ λ is e. All-value_of P key value pairs (All-tail P pair pairs all) e
      ]) refl found

  -- a value that is replaced by one that looks the same changes no look
  pub map-replaced : {X : Type 0} (f : ℕ × V → X) (key : ℕ) (new old : V) (least : ℕ) (pairs : List (ℕ × V)) → f (key, new) ≡ f (key, old) → rises_from least (keys pairs) ≡ true → value_of pairs key ≡ Some old
      → map f (with_value key new pairs) ≡ map f pairs
  map-replaced f key new old least [] same rises found = absurd (let bad : None ≡ Some old = found in cc)
  map-replaced {X} f key new old least (pair ∷ pairs) same rises found =
      let parts = and_parts (leb least pair.0) (rises_from (pair.0 + 1) (keys pairs)) rises in
      elim (cases_lt pair.0 key) [
        | inl below ↦
            let other : eqb pair.0 key ≡ false = ne_eqb pair.0 key (λ equal. absurd (omega (arith, equal))) in
            let found' : value_of pairs key ≡ Some old = sym (ap (λ b. cond b (Some pair.1) (value_of pairs key)) other) ∙ found in
            ap (map f) (with_value-past key new pair pairs below) ∙ ap (λ (xs : List X). f pair ∷ xs) (map-replaced f key new old (pair.0 + 1) pairs same parts.1 found')
        | inr not_below ↦ elim (cases_lt key pair.0) [
          | inl above ↦
              let other : eqb pair.0 key ≡ false = ne_eqb pair.0 key (λ equal. absurd (omega (arith, equal))) in
              let none : value_of (pair ∷ pairs) key ≡ None = ap (λ b. cond b (Some pair.1) (value_of pairs key)) other ∙ value_of-absent key pairs (absent_below key (pair.0 + 1) pairs (omega arith) parts.1) in
              absurd (let bad : None ≡ Some old = sym none ∙ found in cc)
          | inr not_above ↦
              let equal : pair.0 ≡ key = omega (arith, not_below, not_above) in
              let found' : Some pair.1 ≡ Some old = sym (ap (λ b. cond b (Some pair.1) (value_of pairs key)) (eq-eqb pair.0 key equal)) ∙ found in
              let was : f pair ≡ f (key, old) = ap (λ (k : ℕ). f (k, pair.1)) equal ∙ ap (λ (v : V). f (key, v)) (same_Some pair.1 old found') in
              ap (map f) (with_value-here key new pair pairs equal) ∙ ap (λ (x : X). x ∷ map f pairs) (same ∙ sym was)
        ]
      ]

  -- leaving out the options that are none goes by the options alone
  pub filter_map-by_map : {X : Type 0} (f : ℕ × V → Option X) (pairs : List (ℕ × V)) → filter_map f pairs ≡ filter_map (λ o. o) (map f pairs)
  filter_map-by_map f [] = refl
  filter_map-by_map {X} f (pair ∷ pairs) = ap (λ (xs : List X). cons_option (f pair) xs) (filter_map-by_map f pairs)
