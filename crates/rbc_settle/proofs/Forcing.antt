-- The numbers that a train is told at once, with one more that it may have.
use Rattle.std.proofs.Common.{◌≡◌, ℕ, Bool, true, false, cond, ◌||◌, ◌&&◌, eqb, ltb, List, [], ◌∷◌, Some, None, refl, sym, ap, ◌∙◌, subst, arith, inl, inr}
use Rattle.std.specs.List.{All, filter}
use Rattle.std.proofs.lemmas.Bool.{cases_Bool, or_left, or_right, eqb-true}
use Rattle.std.proofs.lemmas.List.Elements.{All-cons, All-head, All-tail}
use Rattle.rbc_maps.specs.Maps.{rises_from}
use Rattle.rbc_ids.specs.declared.slot.Slot.{Slot}
use Rattle.rbc_ids.specs.declared.slot.Slot.TheVariants.{Used, Revoking}
use Rattle.rbc_ids.specs.Table.{Slots, tells, is_told}
use Rattle.rbc_settle.specs.Numbers.{AreNumbers, has_number, with_number, and_number}
use Rattle.rbc_settle.specs.Settling.{is_used_by, number_forced, and_forced}
use Rattle.rbc_settle.proofs.NumberLists.{rises-with}

-- a number is in a list with one more if it is that one or was there
has-with : (m n : ℕ) (xs : List ℕ) → has_number (with_number m xs) n ≡ (eqb m n || has_number xs n)
has-with m n [] = refl
has-with m n (x ∷ xs) = elim (ltb m x) as (λ b. has_number (cond b (m ∷ x ∷ xs) (x ∷ with_number m xs)) n ≡ (eqb m n || (eqb x n || has_number xs n))) [
  | true ↦ refl
  | false ↦ ap (λ (b : Bool). eqb x n || b) (has-with m n xs) ∙ swapped (eqb x n) (eqb m n) (has_number xs n)
]
  where
    swapped : (a b c : Bool) → (a || (b || c)) ≡ (b || (a || c))
    swapped true true c = refl
    swapped true false c = refl
    swapped false b c = refl

pub has-and : (m n : ℕ) (xs : List ℕ) → has_number (and_number m xs) n ≡ (eqb m n || has_number xs n)
has-and m n xs = (elim (has_number xs m) as (λ b. has_number xs m ≡ b → has_number (cond b xs (with_number m xs)) n ≡ (eqb m n || has_number xs n)) [
  | true ↦ λ there. elim (cases_Bool (eqb m n)) [
    | inl same ↦ subst (λ (k : ℕ). has_number xs k ≡ true) (eqb-true m n same) there ∙ sym (or_left (eqb m n) (has_number xs n) same)
    | inr other ↦ sym (ap (λ (b : Bool). b || has_number xs n) other)
  ]
  | false ↦ λ absent. has-with m n xs
]) refl

-- the list ascends still
pub rises-and : (m : ℕ) (xs : List ℕ) → AreNumbers xs → AreNumbers (and_number m xs)
rises-and m xs rises = (elim (has_number xs m) as (λ b. has_number xs m ≡ b → rises_from 0 (cond b xs (with_number m xs)) ≡ true) [
  | true ↦ λ there. rises
  | false ↦ λ absent. rises-with m 0 xs (omega arith) absent rises
]) refl

All-with : (P : ℕ → Type 0) (m : ℕ) (xs : List ℕ) → P m → All P xs → All P (with_number m xs)
All-with P m [] here all = All-cons P m [] here all
All-with P m (x ∷ xs) here all = elim (ltb m x) as (λ b. All P (cond b (m ∷ x ∷ xs) (x ∷ with_number m xs))) [
  | true ↦ All-cons P m (x ∷ xs) here all
  | false ↦ All-cons P x (with_number m xs) (All-head P x xs all) (All-with P m xs here (All-tail P x xs all))
]

-- and what holds of the number and of all holds of all then
pub All-and : (P : ℕ → Type 0) (m : ℕ) (xs : List ℕ) → P m → All P xs → All P (and_number m xs)
All-and P m xs here all = elim (has_number xs m) as (λ b. All P (cond b xs (with_number m xs))) [
  | true ↦ all
  | false ↦ All-with P m xs here all
]

-- ---- the numbers of slots that are revoked

-- one after another they become forced, if they are escalated
abbrev pub forced_all : List ℕ → Slots → List ℕ → List ℕ
forced_all forced_now [] forced = forced
forced_all forced_now (held ∷ slots) forced = forced_all forced_now slots (and_forced (number_forced forced_now held.1) forced)

module _ (forced_now : List ℕ) (n : ℕ) where
  one_forced : (slot : Slot) (forced : List ℕ) → has_number (and_forced (number_forced forced_now slot) forced) n ≡ (has_number forced n || (has_number forced_now n && tells n slot))
  one_forced (Revoking stamp) forced = beside_none (has_number forced n) (has_number forced_now n)
    where
      beside_none : (a b : Bool) → a ≡ (a || (b && false))
      beside_none true b = refl
      beside_none false true = refl
      beside_none false false = refl
  one_forced (Used used) forced = (elim (has_number forced_now used.number) as (λ b. has_number forced_now used.number ≡ b → has_number (and_forced (cond b (Some used.number) None) forced) n ≡ (has_number forced n || (has_number forced_now n && eqb used.number n))) [
    | true ↦ λ there. has-and used.number n forced ∙ (elim (cases_Bool (eqb used.number n)) [
      | inl same ↦
          let now : has_number forced_now n ≡ true = subst (λ (k : ℕ). has_number forced_now k ≡ true) (eqb-true used.number n same) there in
          or_left (eqb used.number n) (has_number forced n) same
          ∙ sym (or_right (has_number forced n) (has_number forced_now n && eqb used.number n) (ap (λ (b : Bool). b && eqb used.number n) now ∙ same))
      | inr other ↦
          ap (λ (b : Bool). b || has_number forced n) other ∙ sym (ap (λ (b : Bool). has_number forced n || (has_number forced_now n && b)) other ∙ beside (has_number forced n) (has_number forced_now n))
    ])
    | false ↦ λ absent. sym (ap (λ (b : Bool). has_number forced n || b) (neither absent) ∙ beside_false (has_number forced n))
  ]) refl
    where
      beside : (a b : Bool) → (a || (b && false)) ≡ a
      beside true b = refl
      beside false true = refl
      beside false false = refl

      beside_false : (a : Bool) → (a || false) ≡ a
      beside_false true = refl
      beside_false false = refl

      false_both : (a : Bool) → (a && false) ≡ false
      false_both true = refl
      false_both false = refl

      neither : has_number forced_now used.number ≡ false → (has_number forced_now n && eqb used.number n) ≡ false
      neither absent = elim (cases_Bool (eqb used.number n)) [
        | inl same ↦ ap (λ (b : Bool). b && eqb used.number n) (subst (λ (k : ℕ). has_number forced_now k ≡ false) (eqb-true used.number n same) absent)
        | inr other ↦ ap (λ (b : Bool). has_number forced_now n && b) other ∙ false_both (has_number forced_now n)
      ]

  -- so those are forced that were, and those that are escalated and told by these slots
  pub has-forced_all : (slots : Slots) (forced : List ℕ) → has_number (forced_all forced_now slots forced) n ≡ (has_number forced n || (has_number forced_now n && is_told slots n))
  has-forced_all [] forced = sym (none (has_number forced n) (has_number forced_now n))
    where
      none : (a b : Bool) → (a || (b && false)) ≡ a
      none true b = refl
      none false true = refl
      none false false = refl
  has-forced_all (held ∷ slots) forced =
      has-forced_all slots (and_forced (number_forced forced_now held.1) forced)
      ∙ ap (λ (b : Bool). b || (has_number forced_now n && is_told slots n)) (one_forced held.1 forced)
      ∙ gathered (has_number forced n) (has_number forced_now n) (tells n held.1) (is_told slots n)
    where
      gathered : (a b c d : Bool) → ((a || (b && c)) || (b && d)) ≡ (a || (b && (c || d)))
      gathered true b c d = refl
      gathered false true c d = refl
      gathered false false c d = refl

-- a number that has to be revoked is told by the slots that are revoked, if it is told
pub told_by_revoked : (revoked : ℕ → Bool) (n : ℕ) (slots : Slots) → revoked n ≡ true → is_told slots n ≡ true → is_told (filter (λ held. is_used_by revoked held.1) slots) n ≡ true
told_by_revoked revoked n [] goes told = told
told_by_revoked revoked n (held ∷ slots) goes told =
    (elim (is_used_by revoked held.1) as (λ b. is_used_by revoked held.1 ≡ b → is_told (cond b (held ∷ filter (λ other. is_used_by revoked other.1) slots) (filter (λ other. is_used_by revoked other.1) slots)) n ≡ true) [
      | true ↦ λ is. elim (cases_Bool (tells n held.1)) [
        | inl here ↦ or_left (tells n held.1) (is_told (filter (λ other. is_used_by revoked other.1) slots) n) here
        | inr other ↦ or_right (tells n held.1) (is_told (filter (λ other. is_used_by revoked other.1) slots) n) (told_by_revoked revoked n slots goes (sym (ap (λ (b : Bool). b || is_told slots n) other) ∙ told))
      ]
      | false ↦ λ is. told_by_revoked revoked n slots goes (sym (ap (λ (b : Bool). b || is_told slots n) (stays held.1 is)) ∙ told)
    ]) refl
  where
    stays : (slot : Slot) → is_used_by revoked slot ≡ false → tells n slot ≡ false
    stays (Revoking stamp) is = refl
    stays (Used used) is = elim (cases_Bool (eqb used.number n)) [
      | inl same ↦ absurd (let bad : true ≡ false = sym goes ∙ sym (ap revoked (eqb-true used.number n same)) ∙ is in cc)
      | inr other ↦ other
    ]
