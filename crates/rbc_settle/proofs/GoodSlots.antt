-- A table of one kind stays good where a slot is put in.
use Rattle.std.proofs.Common.{◌≡◌, ℕ, true, false, ◌||◌, [], ◌∷◌, Bool, Some, None, refl, ap, ◌∙◌, subst, inl, inr}
use Rattle.rbc_maps.specs.Maps.{with_value}
use Rattle.rbc_ids.specs.declared.slot.Slot.{Slot}
use Rattle.rbc_ids.specs.declared.slot.Slot.TheVariants.{Used, Revoking}
use Rattle.rbc_ids.specs.declared.slot.Kind.{Kind}
use Rattle.rbc_ids.specs.declared.slot.Kind.TheVariants.{Conditional, Unconditional, Restriction}
use Rattle.rbc_ids.specs.Table.{Slots, tells, is_told, told_now}
use Rattle.rbc_settle.specs.Numbers.{has_number}
use Rattle.rbc_settle.specs.WellFormed.{AreGoodSlots, IsGiven, has_kind, has_count, number_in, told_numbers}
use Rattle.rbc_settle.proofs.Labels.{all_has, all_from, from_with, distinct_with, All-with_value}

-- the numbers that a table tells are those that are told
number_told : (slots : Slots) (n : ℕ) → has_number (told_numbers slots) n ≡ is_told slots n
number_told [] n = refl
number_told ((id, Used used) ∷ slots) n = ap (λ b. tells n (Used used) || b) (number_told slots n)
number_told ((id, Revoking stamp) ∷ slots) n = number_told slots n

-- a table stays good where a slot is put in that tells no number, or one that was given and is not told
slots_with : (is_kind : Kind → Bool) (last : ℕ) (slots : Slots) → AreGoodSlots is_kind last slots → (id : ℕ) (slot : Slot) → has_kind is_kind slot ≡ true → has_count slot ≡ true
    → ((n : ℕ) → number_in slot ≡ Some n → IsGiven last n × (is_told slots n ≡ false)) → AreGoodSlots is_kind last (with_value id slot slots)
slots_with is_kind last slots good id slot kind count told = record {
  kinds = All-with_value (λ held. has_kind is_kind held.1 ≡ true) id slot slots kind good.kinds;
  counts = All-with_value (λ held. has_count held.1 ≡ true) id slot slots count good.counts;
  given = all_from (IsGiven last) (told_numbers (with_value id slot slots)) (λ m h. elim (from_with number_in id slot slots m h) [
    | inl own ↦ (told m own).0
    | inr old ↦ all_has (IsGiven last) (told_numbers slots) good.given m old
  ]);
  once = distinct_with number_in id slot slots good.once (λ n own. number_told slots n ∙ (told n own).1);
}

-- one that is being revoked tells no number
pub slots_revoked : (is_kind : Kind → Bool) (last : ℕ) (slots : Slots) → AreGoodSlots is_kind last slots → (id stamp : ℕ) → AreGoodSlots is_kind last (with_value id (Revoking stamp) slots)
slots_revoked is_kind last slots good id stamp =
    slots_with is_kind last slots good id (Revoking stamp) refl refl (λ n own. absurd (let bad : None ≡ Some n = own in cc))

-- no report was counted yet of a slot that is told now
pub no_report : (number stamp : ℕ) (kind : Kind) → has_count (told_now number stamp kind) ≡ true
no_report number stamp Conditional = refl
no_report number stamp Unconditional = refl
no_report number stamp Restriction = refl

-- one that is told tells its own
pub slots_told : (is_kind : Kind → Bool) (last : ℕ) (slots : Slots) → AreGoodSlots is_kind last slots → (id number stamp : ℕ) (kind : Kind) → is_kind kind ≡ true → IsGiven last number → is_told slots number ≡ false
    → AreGoodSlots is_kind last (with_value id (told_now number stamp kind) slots)
slots_told is_kind last slots good id number stamp kind is given untold =
    slots_with is_kind last slots good id (told_now number stamp kind) is (no_report number stamp kind) (λ n own.
    let some : Some number ≡ Some n = own in
    let same : number ≡ n = cc in
    subst (λ k. IsGiven last k × (is_told slots k ≡ false)) same (given, untold))
