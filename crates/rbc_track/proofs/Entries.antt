-- What holds of each entry of a list that entries are put into.
use Rattle.std.proofs.Common.{◌≡◌, ℕ, ◌+◌, ◌≤◌, Bool, true, false, ◌||◌, eqb, cond, List, [], ◌∷◌, length, Option, Some, is_some, Ordering, Less, Equal, Greater, nat_cmp, is_eq, refl, sym, ap, ◌∙◌, subst, inl, inr, arith}
use Rattle.std.specs.BTreeMap.{insert_entry, is_at}
use Rattle.std.specs.List.{list_any}
use Rattle.std.specs.Map.{lookup, keys_of}
use Rattle.std.specs.Ordering.{match_ordering}
use Rattle.std.proofs.lemmas.Bool.{cases_lt, cases_eq, cases_Bool, lt-ltb, le-ltb, eq-eqb, ne_eqb, eqb-true}
use Rattle.rbc_track.specs.declared.group.Group.{Group}
use Rattle.rbc_maps.proofs.MapFacts.{or_swap}

-- two numbers are in the order `Equal` exactly where they are equal
pub at_is : (q k : ℕ) → is_eq (nat_cmp q k) ≡ eqb q k
at_is q k = elim (cases_lt q k) [
  | inl below ↦ rw (lt-ltb q k below, ne_eqb q k (λ same. absurd (omega (arith, same))))
  | inr not_below ↦ elim (cases_eq q k) [
    | inl same ↦ rw (le-ltb q k not_below, eq-eqb q k same)
    | inr other ↦ rw (le-ltb q k not_below, ne_eqb q k other)
  ]
]

pub same_from_equal : (q k : ℕ) (o : Ordering) → o ≡ nat_cmp q k → o ≡ Equal → q ≡ k
same_from_equal q k o is equal = eqb-true q k (sym (at_is q k) ∙ ap is_eq (sym is ∙ equal))

or_same : (a b : Bool) → (a || b) ≡ (a || (a || b))
or_same true b = refl
or_same false b = refl

any_put : (p : ℕ → Bool) (o : Ordering) (e : ℕ × Group) (es : List (ℕ × Group)) (k : ℕ) (v : Group) → (o ≡ Equal → k ≡ e.0)
    → list_any p (keys_of (insert_entry nat_cmp es k v)) ≡ (p k || list_any p (keys_of es))
    → list_any p (keys_of (match_ordering o ((k, v) ∷ e ∷ es) ((e.0, v) ∷ es) (e ∷ insert_entry nat_cmp es k v))) ≡ (p k || (p e.0 || list_any p (keys_of es)))
any_put p Less e es k v same more = refl
any_put p Equal e es k v same more = rw (same refl) (or_same (p e.0) (list_any p (keys_of es)))
any_put p Greater e es k v same more = rw more (or_swap (p e.0) (p k) (list_any p (keys_of es)))

-- some number passes after an insert: the new one, or one that was there
pub any-insert : (p : ℕ → Bool) (es : List (ℕ × Group)) (k : ℕ) (v : Group) → list_any p (keys_of (insert_entry nat_cmp es k v)) ≡ (p k || list_any p (keys_of es))
any-insert p [] k v = refl
any-insert p (e ∷ es) k v = any_put p (nat_cmp k e.0) e es k v (same_from_equal k e.0 _ refl) (any-insert p es k v)

found_or : (b c : Bool) (v : Group) (rest : Option Group) (any : Bool) → b ≡ c → is_some rest ≡ any → is_some (cond b (Some v) rest) ≡ (c || any)
found_or true true v rest any same e = refl
found_or true false v rest any same e = absurd (cc)
found_or false true v rest any same e = absurd (cc)
found_or false false v rest any same e = e

pub eqb_turned : (a b : ℕ) → eqb a b ≡ eqb b a
eqb_turned a b = elim (cases_eq a b) [
  | inl same ↦ rw (eq-eqb a b same, eq-eqb b a (sym same))
  | inr other ↦ rw (ne_eqb a b other, ne_eqb b a (λ same. other (sym same)))
]

-- a look-up finds a number that is there
pub found_is : (q : ℕ) (es : List (ℕ × Group)) → is_some (lookup (is_at (nat_cmp q)) es) ≡ list_any (λ k. eqb k q) (keys_of es)
found_is q [] = refl
found_is q (e ∷ es) = found_or (is_eq (nat_cmp q e.0)) (eqb e.0 q) e.1 _ _ (at_is q e.0 ∙ eqb_turned q e.0) (found_is q es)

length_put : (o : Ordering) (e : ℕ × Group) (es : List (ℕ × Group)) (k : ℕ) (v : Group) → length (insert_entry nat_cmp es k v) ≤ length es + 1
    → length (match_ordering o ((k, v) ∷ e ∷ es) ((e.0, v) ∷ es) (e ∷ insert_entry nat_cmp es k v)) ≤ length (e ∷ es) + 1
length_put Less e es k v more = omega arith
length_put Equal e es k v more = omega arith
length_put Greater e es k v more = omega arith

-- an insert adds one entry at most
pub length-insert : (es : List (ℕ × Group)) (k : ℕ) (v : Group) → length (insert_entry nat_cmp es k v) ≤ length es + 1
length-insert [] k v = omega arith
length-insert (e ∷ es) k v = length_put (nat_cmp k e.0) e es k v (length-insert es k v)

module _ (P : ℕ → Group → Type 0) where
  -- the fact holds of each entry
  abbrev pub EachEntry : List (ℕ × Group) → Type 0
  EachEntry [] = Unit {0}
  EachEntry (e ∷ es) = P e.0 e.1 × EachEntry es

  each_put : (o : Ordering) (e : ℕ × Group) (es : List (ℕ × Group)) (k : ℕ) (v : Group) → (o ≡ Equal → k ≡ e.0) → P k v → P e.0 e.1 → EachEntry es
      → EachEntry (insert_entry nat_cmp es k v)
      → EachEntry (match_ordering o ((k, v) ∷ e ∷ es) ((e.0, v) ∷ es) (e ∷ insert_entry nat_cmp es k v))
  each_put Less e es k v same new here rest more = (new, (here, rest))
  each_put Equal e es k v same new here rest more = (subst (λ n. P n v) (same refl) new, rest)
  each_put Greater e es k v same new here rest more = (here, more)

  pub EachEntry-insert : (es : List (ℕ × Group)) (k : ℕ) (v : Group) → P k v → EachEntry es → EachEntry (insert_entry nat_cmp es k v)
  EachEntry-insert [] k v new old = (new, tt)
  EachEntry-insert (e ∷ es) k v new old = each_put (nat_cmp k e.0) e es k v (same_from_equal k e.0 _ refl) new old.0 old.1 (EachEntry-insert es k v new old.1)

  -- what a look-up finds is an entry
  pub EachEntry-lookup : (es : List (ℕ × Group)) (q : ℕ) (v : Group) → EachEntry es → lookup (λ k. eqb k q) es ≡ Some v → P q v
  EachEntry-lookup [] q v each found = absurd (cc)
  EachEntry-lookup (e ∷ es) q v each found = elim (cases_Bool (eqb e.0 q)) [
    | inl here ↦
        let same : Some e.1 ≡ Some v = sym (ap (λ b. cond b (Some e.1) (lookup (λ k. eqb k q) es)) here) ∙ found in
        let value : e.1 ≡ v = cc in
        subst (λ n. P n v) (eqb-true e.0 q here) (subst (P e.0) value each.0)
    | inr elsewhere ↦ EachEntry-lookup es q v each.1 (sym (ap (λ b. cond b (Some e.1) (lookup (λ k. eqb k q) es)) elsewhere) ∙ found)
  ]
