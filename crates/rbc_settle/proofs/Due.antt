-- The numbers that are due, and how many of them are escalated.
use Rattle.std.proofs.Common.{◌≡◌, ℕ, zero, suc, ◌+◌, ◌≤◌, Bool, true, false, cond, ◌||◌, ◌&&◌, eqb, List, [], ◌∷◌, length, take, Option, Some, None, refl, sym, ap, ◌∙◌, subst, arith, inl, inr}
use Rattle.std.specs.List.{filter, filter_map, cons_option, AllByRecursion}
use Rattle.std.proofs.lemmas.Bool.{cases_Bool, or_left, or_right, or_cases, and_parts, eqb-true, eq-eqb, ne_eqb, false_from_ne_true, both_ways}
use Rattle.rbc_maps.specs.Maps.{has}
use Rattle.rbc_ids.specs.declared.slot.Slot.{Slot}
use Rattle.rbc_ids.specs.declared.slot.Slot.TheVariants.{Used, Revoking}
use Rattle.rbc_ids.specs.Table.{Slots, TellsOnce, tells, is_told, is_ripe}
use Rattle.rbc_settle.specs.Numbers.{has_number}
use Rattle.rbc_settle.specs.Settling.{Stops, due_number}
use Rattle.rbc_settle.specs.WellFormed.{AreDistinct}

-- the numbers that are due, in order of their identifiers
abbrev pub dues : Stops → Slots → List ℕ
dues stops slots = filter_map (λ held. due_number stops held.1) slots

-- what is told by a slot
told_here : (stops : Stops) (slot : Slot) (n : ℕ) → due_number stops slot ≡ Some n → (tells n slot ≡ true) × (has stops.active n ≡ true)
told_here stops (Revoking stamp) n is = absurd (let bad : None ≡ Some n = is in cc)
told_here stops (Used used) n is =
    (elim (is_ripe (Used used) && has stops.active used.number) as (λ b. (is_ripe (Used used) && has stops.active used.number) ≡ b → cond b (Some used.number) None ≡ Some n → (eqb used.number n ≡ true) × (has stops.active n ≡ true)) [
      | true ↦ λ due some.
          let own : Some used.number ≡ Some n = some in
          let same : used.number ≡ n = cc in
          (eq-eqb used.number n same, subst (λ (k : ℕ). has stops.active k ≡ true) same (and_parts (is_ripe (Used used)) (has stops.active used.number) due).1)
      | false ↦ λ not_due none. absurd (let bad : None ≡ Some n = none in cc)
    ]) refl is

module _ (stops : Stops) where
  -- a number that is due is told, and active
  pub due_is_told : (slots : Slots) (n : ℕ) → has_number (dues stops slots) n ≡ true → (is_told slots n ≡ true) × (has stops.active n ≡ true)
  due_is_told [] n due = absurd (let bad : false ≡ true = due in cc)
  due_is_told (held ∷ slots) n due =
      (elim (due_number stops held.1) as (λ o. due_number stops held.1 ≡ o → has_number (cons_option o (dues stops slots)) n ≡ true → ((tells n held.1 || is_told slots n) ≡ true) × (has stops.active n ≡ true)) [
        | None ↦ λ is there. let rest = due_is_told slots n there in (or_right (tells n held.1) (is_told slots n) rest.0, rest.1)
        | Some m ↦ λ is there. elim (or_cases (eqb m n) (has_number (dues stops slots) n) there) [
          | inl same ↦
              let here = told_here stops held.1 n (is ∙ ap (λ (k : ℕ). Some k) (eqb-true m n same)) in
              (or_left (tells n held.1) (is_told slots n) here.0, here.1)
          | inr more ↦ let rest = due_is_told slots n more in (or_right (tells n held.1) (is_told slots n) rest.0, rest.1)
        ]
      ]) refl due

  -- each is due once
  pub distinct_dues : (slots : Slots) → TellsOnce slots → AreDistinct (dues stops slots)
  distinct_dues [] once = tt
  distinct_dues (held ∷ slots) once =
      (elim (due_number stops held.1) as (λ o. due_number stops held.1 ≡ o → AreDistinct (cons_option o (dues stops slots))) [
        | None ↦ λ is. distinct_dues slots once.1
        | Some m ↦ λ is. (
          false_from_ne_true (has_number (dues stops slots) m) (λ again. both_ways (is_told slots m) (once.0 m (told_here stops held.1 m is).0) (due_is_told slots m again).0),
          distinct_dues slots once.1,
        )
      ]) refl

-- the first numbers of a list are some of it
pub first_of : (count : ℕ) (ns : List ℕ) (n : ℕ) → has_number (take count ns) n ≡ true → has_number ns n ≡ true
first_of zero ns n there = absurd (let bad : false ≡ true = there in cc)
first_of (suc count) [] n there = there
first_of (suc count) (m ∷ ns) n there = elim (or_cases (eqb m n) (has_number (take count ns) n) there) [
  | inl here ↦ or_left (eqb m n) (has_number ns n) here
  | inr more ↦ or_right (eqb m n) (has_number ns n) (first_of count ns n more)
]

pub distinct-take : (count : ℕ) (ns : List ℕ) → AreDistinct ns → AreDistinct (take count ns)
distinct-take zero ns distinct = tt
distinct-take (suc count) [] distinct = tt
distinct-take (suc count) (n ∷ ns) distinct =
    (false_from_ne_true (has_number (take count ns) n) (λ again. both_ways (has_number ns n) distinct.0 (first_of count ns n again)), distinct-take count ns distinct.1)

-- ---- how many entries have one of some numbers

module _ {X : Type 0} where
  -- as many as have the one or one of the others
  split : (p q : ℕ → Bool) → ((n : ℕ) → p n ≡ true → q n ≡ false) → (entries : List (ℕ × X)) → length (filter (λ e. p e.0 || q e.0) entries) ≡ length (filter (λ e. p e.0) entries) + length (filter (λ e. q e.0) entries)
  split p q apart [] = refl
  split p q apart (entry ∷ entries) =
      let rest = split p q apart entries in
      (elim (p entry.0) as (λ b. p entry.0 ≡ b → length (cond (b || q entry.0) (entry ∷ filter (λ e. p e.0 || q e.0) entries) (filter (λ e. p e.0 || q e.0) entries)) ≡ length (cond b (entry ∷ filter (λ e. p e.0) entries) (filter (λ e. p e.0) entries)) + length (cond (q entry.0) (entry ∷ filter (λ e. q e.0) entries) (filter (λ e. q e.0) entries))) [
        | true ↦ λ is.
            let others : length (cond (q entry.0) (entry ∷ filter (λ e. q e.0) entries) (filter (λ e. q e.0) entries)) ≡ length (filter (λ e. q e.0) entries) =
            ap (λ (b : Bool). length (cond b (entry ∷ filter (λ e. q e.0) entries) (filter (λ e. q e.0) entries))) (apart entry.0 is) in
            omega (arith, rest, others)
        | false ↦ λ is. (elim (q entry.0) as (λ b. length (cond b (entry ∷ filter (λ e. p e.0 || q e.0) entries) (filter (λ e. p e.0 || q e.0) entries)) ≡ length (filter (λ e. p e.0) entries) + length (cond b (entry ∷ filter (λ e. q e.0) entries) (filter (λ e. q e.0) entries))) [
          | true ↦ omega (arith, rest)
          | false ↦ rest
        ])
      ]) refl

  -- at least one entry has a number that is there
  one_at_least : (n : ℕ) (entries : List (ℕ × X)) → has entries n ≡ true → 1 ≤ length (filter (λ e. eqb n e.0) entries)
  one_at_least n [] there = absurd (let bad : false ≡ true = there in cc)
  one_at_least n (entry ∷ entries) there = (elim (cases_Bool (eqb n entry.0)) [
    | inl here ↦ subst (λ (b : Bool). 1 ≤ length (cond b (entry ∷ filter (λ e. eqb n e.0) entries) (filter (λ e. eqb n e.0) entries))) (sym here) (omega arith)
    | inr other ↦
        let behind : has entries n ≡ true = sym (ap (λ (b : Bool). b || has entries n) (ne_eqb entry.0 n (λ same. both_ways (eqb n entry.0) other (eq-eqb n entry.0 (sym same))))) ∙ there in
        subst (λ (b : Bool). 1 ≤ length (cond b (entry ∷ filter (λ e. eqb n e.0) entries) (filter (λ e. eqb n e.0) entries))) (sym other) (one_at_least n entries behind)
  ])

  -- so as many at least as there are distinct numbers that are there
  pub as_many_as : (ns : List ℕ) (entries : List (ℕ × X)) → AreDistinct ns → ((n : ℕ) → has_number ns n ≡ true → has entries n ≡ true) → length ns ≤ length (filter (λ e. has_number ns e.0) entries)
  as_many_as [] entries distinct there = omega arith
  as_many_as (n ∷ ns) entries distinct there =
      let rest = as_many_as ns entries distinct.1 (λ m more. there m (or_right (eqb n m) (has_number ns m) more)) in
      let one = one_at_least n entries (there n (or_left (eqb n n) (has_number ns n) (eq-eqb n n refl))) in
      let both = split (eqb n) (has_number ns) (λ m same. subst (λ (k : ℕ). has_number ns k ≡ false) (eqb-true n m same) distinct.0) entries in
      omega (arith, rest, one, both)

-- what is taken for some numbers, and what is found for the others, are as many as both together
pub as_many_both : {X Y : Type 0} (ns : List ℕ) (value : ℕ × X → Y) (f : ℕ × X → Option Y) (entries : List (ℕ × X)) → AllByRecursion (λ e. has_number ns e.0 ≡ true → f e ≡ None) entries
    → length (filter_map (λ e. cond (has_number ns e.0) (Some (value e)) (f e)) entries) ≡ length (filter (λ e. has_number ns e.0) entries) + length (filter_map f entries)
as_many_both ns value f [] none = refl
as_many_both {X} {Y} ns value f (entry ∷ entries) none =
    let rest = as_many_both ns value f entries none.1 in
    let all = filter_map (λ e. cond (has_number ns e.0) (Some (value e)) (f e)) entries in
    let some = filter (λ e. has_number ns e.0) entries in
    (elim (has_number ns entry.0) as (λ b. has_number ns entry.0 ≡ b → length (cons_option (cond b (Some (value entry)) (f entry)) all) ≡ length (cond b (entry ∷ some) some) + length (cons_option (f entry) (filter_map f entries))) [
      | true ↦ λ is.
          let others : length (cons_option (f entry) (filter_map f entries)) ≡ length (filter_map f entries) = ap (λ (o : Option Y). length (cons_option o (filter_map f entries))) (none.0 is) in
          omega (arith, rest, others)
      | false ↦ λ is. (elim (f entry) as (λ o. length (cons_option o all) ≡ length some + length (cons_option o (filter_map f entries))) [
        | None ↦ rest
        | Some y ↦ omega (arith, rest)
      ])
    ]) refl
