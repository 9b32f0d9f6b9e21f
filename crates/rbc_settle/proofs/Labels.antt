-- The labels of the values in a map, as the numbers that a table tells or the stamps of its slots: what one more value makes of
-- them.
use Rattle.std.proofs.Common.{◌≡◌, ℕ, ◌⊎◌, true, false, cond, eqb, ltb, List, [], ◌∷◌, ◌++◌, Option, Some, None, refl, sym, ap, subst, inl, inr}
use Rattle.std.specs.List.{All, cons_option, filter_map}
use Rattle.std.proofs.lemmas.Bool.{both_ways, false_from_ne_true, or_cases, or_left, or_parts, or_right, eqb-true, eq-eqb}
use Rattle.std.proofs.lemmas.List.Elements.{All-nil, All-cons, All-head, All-tail}
use Rattle.rbc_maps.specs.Maps.{with_value}
use Rattle.rbc_settle.specs.Numbers.{has_number}
use Rattle.rbc_settle.specs.WellFormed.{AreDistinct}

-- what holds of each number of a list holds of one that it has
pub all_has : (P : ℕ → Type 0) (ns : List ℕ) → All P ns → (m : ℕ) → has_number ns m ≡ true → P m
all_has P [] all m h = absurd (let bad : false ≡ true = h in cc)
all_has P (n ∷ ns) all m h = elim (or_cases (eqb n m) (has_number ns m) h) [
  | inl here ↦ subst P (eqb-true n m here) (All-head P n ns all)
  | inr there ↦ all_has P ns (All-tail P n ns all) m there
]

-- and the other way round
pub all_from : (P : ℕ → Type 0) (ns : List ℕ) → ((m : ℕ) → has_number ns m ≡ true → P m) → All P ns
all_from P [] each = All-nil P
all_from P (n ∷ ns) each =
    All-cons P n ns (each n (or_left (eqb n n) (has_number ns n) (eq-eqb n n refl))) (all_from P ns (λ m h. each m (or_right (eqb n m) (has_number ns m) h)))

-- a number of one of two lists is one of both
pub in_first : (first second : List ℕ) (m : ℕ) → has_number first m ≡ true → has_number (first ++ second) m ≡ true
in_first [] second m h = absurd (let bad : false ≡ true = h in cc)
in_first (n ∷ first) second m h = elim (or_cases (eqb n m) (has_number first m) h) [
  | inl here ↦ or_left (eqb n m) (has_number (first ++ second) m) here
  | inr there ↦ or_right (eqb n m) (has_number (first ++ second) m) (in_first first second m there)
]

pub in_second : (first second : List ℕ) (m : ℕ) → has_number second m ≡ true → has_number (first ++ second) m ≡ true
in_second [] second m h = h
in_second (n ∷ first) second m h = or_right (eqb n m) (has_number (first ++ second) m) (in_second first second m h)

-- one number or none, before others
one_or_rest : (l : Option ℕ) (ns : List ℕ) (m : ℕ) → has_number (cons_option l ns) m ≡ true → (l ≡ Some m) ⊎ (has_number ns m ≡ true)
one_or_rest None ns m h = inr h
one_or_rest (Some n) ns m h = elim (or_cases (eqb n m) (has_number ns m) h) [
  | inl here ↦ inl (ap (λ (q : ℕ). Some q) (eqb-true n m here))
  | inr there ↦ inr there
]

is_one : (l : Option ℕ) (ns : List ℕ) (m : ℕ) → l ≡ Some m → has_number (cons_option l ns) m ≡ true
is_one l ns m is = subst (λ (o : Option ℕ). has_number (cons_option o ns) m ≡ true) (sym is) (or_left (eqb m m) (has_number ns m) (eq-eqb m m refl))

in_rest : (l : Option ℕ) (ns : List ℕ) (m : ℕ) → has_number ns m ≡ true → has_number (cons_option l ns) m ≡ true
in_rest None ns m h = h
in_rest (Some n) ns m h = or_right (eqb n m) (has_number ns m) h

not_in_rest : (l : Option ℕ) (ns : List ℕ) (m : ℕ) → has_number (cons_option l ns) m ≡ false → has_number ns m ≡ false
not_in_rest None ns m h = h
not_in_rest (Some n) ns m h = (or_parts (eqb n m) (has_number ns m) h).1

distinct_one : (l : Option ℕ) (ns : List ℕ) → ((n : ℕ) → l ≡ Some n → has_number ns n ≡ false) → AreDistinct ns → AreDistinct (cons_option l ns)
distinct_one None ns fresh d = d
distinct_one (Some n) ns fresh d = (fresh n refl, d)

distinct_rest : (l : Option ℕ) (ns : List ℕ) → AreDistinct (cons_option l ns) → AreDistinct ns
distinct_rest None ns d = d
distinct_rest (Some n) ns d = d.1

one_apart : (l : Option ℕ) (ns : List ℕ) → AreDistinct (cons_option l ns) → (n : ℕ) → l ≡ Some n → has_number ns n ≡ false
one_apart None ns d n is = absurd (let bad : None ≡ Some n = is in cc)
one_apart (Some k) ns d n is = let some : Some k ≡ Some n = is in let same : k ≡ n = cc in subst (λ q. has_number ns q ≡ false) same d.0

module _ {V : Type 0} (label : V → Option ℕ) where
  -- the labels of all values, ascending in the key
  abbrev pub labels : List (ℕ × V) → List ℕ
  labels pairs = filter_map (λ pair. label pair.1) pairs

  -- after a value was put at a key, a label is its own or was there
  pub from_with : (key : ℕ) (value : V) (pairs : List (ℕ × V)) (m : ℕ) → has_number (labels (with_value key value pairs)) m ≡ true → (label value ≡ Some m) ⊎ (has_number (labels pairs) m ≡ true)
  from_with key value [] m h = one_or_rest (label value) [] m h
  from_with key value (pair ∷ pairs) m h =
      (elim (ltb key pair.0) as (λ b. has_number (labels (cond b ((key, value) ∷ pair ∷ pairs) (cond (eqb pair.0 key) ((key, value) ∷ pairs) (pair ∷ with_value key value pairs)))) m ≡ true → (label value ≡ Some m) ⊎ (has_number (labels (pair ∷ pairs)) m ≡ true)) [
        | true ↦ λ e. one_or_rest (label value) (labels (pair ∷ pairs)) m e
        | false ↦ (elim (eqb pair.0 key) as (λ b. has_number (labels (cond b ((key, value) ∷ pairs) (pair ∷ with_value key value pairs))) m ≡ true → (label value ≡ Some m) ⊎ (has_number (labels (pair ∷ pairs)) m ≡ true)) [
          | true ↦ λ e. elim (one_or_rest (label value) (labels pairs) m e) [ inl is ↦ inl is | inr there ↦ inr (in_rest (label pair.1) (labels pairs) m there) ]
          | false ↦ λ e. elim (one_or_rest (label pair.1) (labels (with_value key value pairs)) m e) [
            | inl is ↦ inr (is_one (label pair.1) (labels pairs) m is)
            | inr there ↦ elim (from_with key value pairs m there) [ inl is ↦ inl is | inr old ↦ inr (in_rest (label pair.1) (labels pairs) m old) ]
          ]
        ])
      ]) h

  -- distinct labels stay distinct where the value's own is a new one, or it has none
  pub distinct_with : (key : ℕ) (value : V) (pairs : List (ℕ × V)) → AreDistinct (labels pairs) → ((n : ℕ) → label value ≡ Some n → has_number (labels pairs) n ≡ false) → AreDistinct (labels (with_value key value pairs))
  distinct_with key value [] d fresh = distinct_one (label value) [] fresh tt
  distinct_with key value (pair ∷ pairs) d fresh =
      let others = distinct_rest (label pair.1) (labels pairs) d in
      let fresh_there : (n : ℕ) → label value ≡ Some n → has_number (labels pairs) n ≡ false = λ n is. not_in_rest (label pair.1) (labels pairs) n (fresh n is) in
      let still_apart : (n : ℕ) → label pair.1 ≡ Some n → has_number (labels (with_value key value pairs)) n ≡ false = λ n is.
      false_from_ne_true (has_number (labels (with_value key value pairs)) n) (λ there. elim (from_with key value pairs n there) [
        | inl own ↦ both_ways (has_number (labels (pair ∷ pairs)) n) (fresh n own) (is_one (label pair.1) (labels pairs) n is)
        | inr old ↦ both_ways (has_number (labels pairs) n) (one_apart (label pair.1) (labels pairs) d n is) old
      ]) in
      elim (ltb key pair.0) as (λ b. AreDistinct (labels (cond b ((key, value) ∷ pair ∷ pairs) (cond (eqb pair.0 key) ((key, value) ∷ pairs) (pair ∷ with_value key value pairs))))) [
        | true ↦ distinct_one (label value) (labels (pair ∷ pairs)) fresh d
        | false ↦ elim (eqb pair.0 key) as (λ b. AreDistinct (labels (cond b ((key, value) ∷ pairs) (pair ∷ with_value key value pairs)))) [
          | true ↦ distinct_one (label value) (labels pairs) fresh_there others
          | false ↦ distinct_one (label pair.1) (labels (with_value key value pairs)) still_apart (distinct_with key value pairs others fresh_there)
        ]
      ]

-- what holds of each pair holds after a pair of which it holds was put in
pub All-with_value : {V : Type 0} (P : ℕ × V → Type 0) (key : ℕ) (value : V) (pairs : List (ℕ × V)) → P (key, value) → All P pairs → All P (with_value key value pairs)
All-with_value P key value [] here all = All-cons P (key, value) [] here all
All-with_value P key value (pair ∷ pairs) here all =
    let first = All-head P pair pairs all in
    let others = All-tail P pair pairs all in
    elim (ltb key pair.0) as (λ b. All P (cond b ((key, value) ∷ pair ∷ pairs) (cond (eqb pair.0 key) ((key, value) ∷ pairs) (pair ∷ with_value key value pairs)))) [
      | true ↦ All-cons P (key, value) (pair ∷ pairs) here all
      | false ↦ elim (eqb pair.0 key) as (λ b. All P (cond b ((key, value) ∷ pairs) (pair ∷ with_value key value pairs))) [
        | true ↦ All-cons P (key, value) pairs here others
        | false ↦ All-cons P pair (with_value key value pairs) first (All-with_value P key value pairs here others)
      ]
    ]
