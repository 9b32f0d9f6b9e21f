-- When no slot is due.
use Rattle.std.proofs.Common.{◌≡◌, ℕ, ◌+◌, Bool, true, false, cond, ◌&&◌, eqb, ltb, List, [], ◌∷◌, Option, Some, None, refl, sym, ap, ◌∙◌}
use Rattle.std.specs.List.{cons_option, AllByRecursion}
use Rattle.std.proofs.lemmas.Bool.{or_left, or_right, eq-eqb}
use Rattle.rbc_maps.specs.Maps.{has, with_value}
use Rattle.rbc_ids.specs.declared.slot.Slot.{Slot}
use Rattle.rbc_ids.specs.declared.slot.Slot.TheVariants.{Used, Revoking}
use Rattle.rbc_ids.specs.declared.slot.Kind.{Kind}
use Rattle.rbc_ids.specs.declared.slot.Kind.TheVariants.{Conditional, Unconditional, Restriction}
use Rattle.rbc_ids.specs.Table.{Slots, is_ripe, told_now}
use Rattle.rbc_settle.specs.Numbers.{has_number}
use Rattle.rbc_settle.specs.Settling.{Stops, due_number, is_used_by}
use Rattle.rbc_settle.proofs.Revoking.{Clock, revoked_each}
use Rattle.rbc_settle.proofs.AfterTelling.{told_all}
use Rattle.rbc_settle.proofs.Due.{dues}

module _ (stops : Stops) where
  -- where none is due, each slot has no number that is
  pub each_not_due : (slots : Slots) → dues stops slots ≡ [] → AllByRecursion (λ held. due_number stops held.1 ≡ None) slots
  each_not_due [] none = tt
  each_not_due (held ∷ slots) none =
      (elim (due_number stops held.1) as (λ o. due_number stops held.1 ≡ o → cons_option o (dues stops slots) ≡ [] → (due_number stops held.1 ≡ None) × AllByRecursion (λ other. due_number stops other.1 ≡ None) slots) [
        | None ↦ λ is rest. (is, each_not_due slots rest)
        | Some n ↦ λ is some. absurd (let bad : n ∷ dues stops slots ≡ [] = some in cc)
      ]) refl none

  -- and the other way round
  pub none_due_from : (slots : Slots) → AllByRecursion (λ held. due_number stops held.1 ≡ None) slots → dues stops slots ≡ []
  none_due_from [] all = refl
  none_due_from (held ∷ slots) all = ap (λ (o : Option ℕ). cons_option o (dues stops slots)) all.0 ∙ none_due_from slots all.1

  -- the number of each slot that is due is one of the numbers that are
  more : (m : Option ℕ) (ns : List ℕ) (n : ℕ) → has_number ns n ≡ true → has_number (cons_option m ns) n ≡ true
  more None ns n there = there
  more (Some m) ns n there = or_right (eqb m n) (has_number ns n) there

  all_more : (m : Option ℕ) (ns : List ℕ) (some : Slots) → AllByRecursion (λ held. (n : ℕ) → due_number stops held.1 ≡ Some n → has_number ns n ≡ true) some
      → AllByRecursion (λ held. (n : ℕ) → due_number stops held.1 ≡ Some n → has_number (cons_option m ns) n ≡ true) some
  all_more m ns [] all = tt
  all_more m ns (held ∷ some) all = ((λ n is. more m ns n (all.0 n is)), all_more m ns some all.1)

  pub each_due : (slots : Slots) → AllByRecursion (λ held. (n : ℕ) → due_number stops held.1 ≡ Some n → has_number (dues stops slots) n ≡ true) slots
  each_due [] = tt
  each_due (held ∷ slots) = (
    (λ n is. ap (λ (o : Option ℕ). has_number (cons_option o (dues stops slots)) n) is ∙ or_left (eqb n n) (has_number (dues stops slots) n) (eq-eqb n n refl)),
    all_more (due_number stops held.1) (dues stops slots) slots (each_due slots),
  )

  -- a slot that is due tells its number
  used_by_due : (gone : ℕ → Bool) (slot : Slot) → is_used_by gone slot ≡ false → ((n : ℕ) → due_number stops slot ≡ Some n → gone n ≡ true) → due_number stops slot ≡ None
  used_by_due gone (Revoking stamp) stays goes = refl
  used_by_due gone (Used used) stays goes =
      (elim (is_ripe (Used used) && has stops.active used.number) as (λ b. (is_ripe (Used used) && has stops.active used.number) ≡ b → cond b (Some used.number) None ≡ None) [
        | true ↦ λ due. absurd (let bad : true ≡ false = sym (goes used.number (ap (λ (b : Bool). cond b (Some used.number) None) due)) ∙ stays in cc)
        | false ↦ λ not_due. refl
      ]) refl

  -- once each that is due is revoked, none is due
  pub none_due_revoked : (clock : Clock) (gone : ℕ → Bool) (at : ℕ) (slots : Slots) → AllByRecursion (λ held. (n : ℕ) → due_number stops held.1 ≡ Some n → gone n ≡ true) slots → dues stops (revoked_each clock gone at slots) ≡ []
  none_due_revoked clock gone at [] all = refl
  none_due_revoked clock gone at (held ∷ slots) all =
      (elim (is_used_by gone held.1) as (λ b. is_used_by gone held.1 ≡ b → dues stops (cond b ((held.0, Revoking (clock at)) ∷ revoked_each clock gone (at + 1) slots) (held ∷ revoked_each clock gone at slots)) ≡ []) [
        | true ↦ λ is. none_due_revoked clock gone (at + 1) slots all.1
        | false ↦ λ is. ap (λ (o : Option ℕ). cons_option o (dues stops (revoked_each clock gone at slots))) (used_by_due gone held.1 is all.0) ∙ none_due_revoked clock gone at slots all.1
      ]) refl

  -- nor is one that is told now
  told_now_not_due : (number stamp : ℕ) (kind : Kind) → due_number stops (told_now number stamp kind) ≡ None
  told_now_not_due number stamp Conditional = refl
  told_now_not_due number stamp Unconditional = refl
  told_now_not_due number stamp Restriction = refl

  none_due_with : (id : ℕ) (slot : Slot) (slots : Slots) → due_number stops slot ≡ None → AllByRecursion (λ held. due_number stops held.1 ≡ None) slots → AllByRecursion (λ held. due_number stops held.1 ≡ None) (with_value id slot slots)
  none_due_with id slot [] it all = (it, tt)
  none_due_with id slot (held ∷ slots) it all =
      elim (ltb id held.0) as (λ b. AllByRecursion (λ other. due_number stops other.1 ≡ None) (cond b ((id, slot) ∷ held ∷ slots) (cond (eqb held.0 id) ((id, slot) ∷ slots) (held ∷ with_value id slot slots)))) [
        | true ↦ (it, all)
        | false ↦ elim (eqb held.0 id) as (λ b. AllByRecursion (λ other. due_number stops other.1 ≡ None) (cond b ((id, slot) ∷ slots) (held ∷ with_value id slot slots))) [
          | true ↦ (it, all.1)
          | false ↦ (all.0, none_due_with id slot slots it all.1)
        ]
      ]

  pub none_due_told : {T : Type 0} (clock : Clock) (kind : T → Kind) (at : ℕ) (pairs : List ((ℕ × T) × ℕ)) (slots : Slots) → AllByRecursion (λ held. due_number stops held.1 ≡ None) slots
      → AllByRecursion (λ held. due_number stops held.1 ≡ None) (told_all clock kind at pairs slots)
  none_due_told clock kind at [] slots all = all
  none_due_told clock kind at (((number, told), id) ∷ pairs) slots all =
      none_due_told clock kind (at + 1) pairs (with_value id (told_now number (clock at) (kind told)) slots)
      (none_due_with id (told_now number (clock at) (kind told)) slots (told_now_not_due number (clock at) (kind told)) all)
