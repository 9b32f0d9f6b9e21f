-- What an acknowledgement leaves of a train's table: it stays a table, of the same kinds, and tells no other numbers under no other
-- stamps.
use Rattle.std.proofs.Common.{◌≡◌, ℕ, ◌+◌, min, Bool, true, false, not, ◌&&◌, cond, eqb, leb, List, [], ◌∷◌, Option, Some, None, refl, sym, ap, ◌∙◌, subst, arith}
use Rattle.std.specs.List.{All, filter_map, cons_option}
use Rattle.std.specs.Option.{IfSome, option_map}
use Rattle.std.proofs.lemmas.List.Elements.{All-cons, All-filter, All-head, All-tail}
use Rattle.std.proofs.lemmas.Bool.{le-leb}
use Rattle.std.proofs.lemmas.Option.{same_Some}
use Rattle.rbc_maps.specs.Maps.{value_of, with_value, without}
use Rattle.rbc_ids.specs.declared.slot.Slot.{Slot}
use Rattle.rbc_ids.specs.declared.slot.Slot.TheVariants.{Used, Revoking}
use Rattle.rbc_ids.specs.declared.slot.UsedSlot.{UsedSlot}
use Rattle.rbc_ids.specs.declared.slot.Kind.{Kind}
use Rattle.rbc_ids.specs.Table.{Slots, IsTable, TellsApart, stamp_of, marked, is_conditional, is_unanswered, reported_slot, after_report, acked_slot, acked_slots}
use Rattle.rbc_ids.proofs.Tables.{has-value, stays_without, stays_with, stays_reported, stays_acked, held_below}
use Rattle.rbc_ids.proofs.Once.{apart-marked, acked_keeps}
use Rattle.rbc_settle.specs.WellFormed.{number_in, told_numbers, stamps_in, IsGiven, has_kind, has_count, AreGoodSlots}
use Rattle.rbc_rule.proofs.KeepsLists.{IsPart, part-equal, part-kept, part-left, part-more, part-fewer, part-all, part-distinct, part-filter, part-filter_map, All-with_value, All-value_of, map-replaced, filter_map-by_map}

pub record SlotsStay (count : ℕ) (is_kind : Kind → Bool) (old new : Slots) : Type 0 where
  pub table : IsTable count new
  pub kinds : All (λ held. has_kind is_kind held.1 ≡ true) new
  pub counts : All (λ held. has_count held.1 ≡ true) new
  pub numbers : IsPart (told_numbers new) (told_numbers old)
  pub stamps : IsPart (stamps_in new) (stamps_in old)

module _ (count : ℕ) (is_kind : Kind → Bool) (slots : Slots) (table : IsTable count slots) (kinds : All (λ held. has_kind is_kind held.1 ≡ true) slots) (counts : All (λ held. has_count held.1 ≡ true) slots) where
  -- an identifier is free
  pub stay-without : (id : ℕ) → SlotsStay count is_kind slots (without id slots)
  stay-without id = record {
    table = stays_without count slots table id;
    kinds = All-filter (λ held. not (eqb held.0 id)) (λ held. has_kind is_kind held.1 ≡ true) slots kinds;
    counts = All-filter (λ held. not (eqb held.0 id)) (λ held. has_count held.1 ≡ true) slots counts;
    numbers = part-filter_map (λ held. not (eqb held.0 id)) (λ held. number_in held.1) slots;
    stamps = part-filter (λ held. not (eqb held.0 id)) (λ held. stamp_of held.1) slots;
  }

  -- a slot looks the same, but that it is acknowledged
  stay-put : (id : ℕ) (old new : Slot) → value_of slots id ≡ Some old → TellsApart id new slots → has_kind is_kind new ≡ has_kind is_kind old → has_count new ≡ has_count old → number_in new ≡ number_in old → stamp_of new ≡ stamp_of old
      → SlotsStay count is_kind slots (with_value id new slots)
  stay-put id old new found apart same_kind same_count same_number same_stamp =
      let numbers = map-replaced (λ (held : ℕ × Slot). number_in held.1) id new old 0 slots same_number table.ascending found in
      let stamps = map-replaced (λ (held : ℕ × Slot). stamp_of held.1) id new old 0 slots same_stamp table.ascending found in
      let was : has_kind is_kind old ≡ true = All-value_of (λ held. has_kind is_kind held.1 ≡ true) id old slots kinds found in
      let counted : has_count old ≡ true = All-value_of (λ held. has_count held.1 ≡ true) id old slots counts found in
      record {
        table = stays_with count slots table id new (held_below count slots table id (has-value id old slots found)) apart;
        kinds = All-with_value (λ held. has_kind is_kind held.1 ≡ true) id new slots (same_kind ∙ was) kinds;
        counts = All-with_value (λ held. has_count held.1 ≡ true) id new slots (same_count ∙ counted) counts;
        numbers = part-equal _ _ (filter_map-by_map (λ (held : ℕ × Slot). number_in held.1) (with_value id new slots)
            ∙ ap (filter_map (λ (o : Option ℕ). o)) numbers ∙ sym (filter_map-by_map (λ (held : ℕ × Slot). number_in held.1) slots));
        stamps = part-equal _ _ stamps;
      }

  -- a slot is marked
  pub stay-marked : (id : ℕ) (used : UsedSlot) → value_of slots id ≡ Some (Used used) → SlotsStay count is_kind slots (with_value id (marked used) slots)
  stay-marked id used found = stay-put id (Used used) (marked used) found (apart-marked id used slots table.ascending table.once found) refl refl refl refl

-- ---- after a report

-- a slot is used as before, but for the count
reported_kind : (is_kind : Kind → Bool) (slot : Slot) → has_kind is_kind (reported_slot slot) ≡ has_kind is_kind slot
reported_kind is_kind (Revoking stamp) = refl
reported_kind is_kind (Used used) = elim (is_unanswered used) as (λ b. has_kind is_kind (cond b (Used (record used { count = min (used.count + 1) 3 })) (Used used)) ≡ is_kind used.kind) [ true ↦ refl | false ↦ refl ]

pub reported_number : (slot : Slot) → number_in (reported_slot slot) ≡ number_in slot
reported_number (Revoking stamp) = refl
reported_number (Used used) = elim (is_unanswered used) as (λ b. number_in (cond b (Used (record used { count = min (used.count + 1) 3 })) (Used used)) ≡ Some used.number) [ true ↦ refl | false ↦ refl ]

reported_stamp : (slot : Slot) → stamp_of (reported_slot slot) ≡ stamp_of slot
reported_stamp (Revoking stamp) = refl
reported_stamp (Used used) = elim (is_unanswered used) as (λ b. stamp_of (cond b (Used (record used { count = min (used.count + 1) 3 })) (Used used)) ≡ used.stamp) [ true ↦ refl | false ↦ refl ]

reported_count : (slot : Slot) → has_count slot ≡ true → has_count (reported_slot slot) ≡ true
reported_count (Revoking stamp) count = refl
reported_count (Used used) count =
    let more = min (used.count + 1) 3 in
    (elim (is_conditional used.kind) as (λ b. is_conditional used.kind ≡ b → has_count (cond (b && not used.acked) (Used (record used { count = more })) (Used used)) ≡ true) [
      | true ↦ λ is. elim used.acked as (λ a. has_count (cond (not a) (Used (record used { count = more })) (Used used)) ≡ true) [
        | true ↦ count
        | false ↦ ap (λ (b : Bool). cond b (leb more 3) (eqb more 0)) is ∙ le-leb more 3 (omega arith)
      ]
      | false ↦ λ is. count
    ]) refl

-- what holds of each slot then holds of all
all_reported : (P : Slot → Type 0) (slots : Slots) → ((slot : Slot) → P slot → P (reported_slot slot)) → All (λ held. P held.1) slots → All (λ held. P held.1) (after_report slots)
all_reported P [] each all = all
all_reported P (held ∷ slots) each all =
    All-cons (λ (other : ℕ × Slot). P other.1) (held.0, reported_slot held.1) (after_report slots) (each held.1 (All-head (λ (other : ℕ × Slot). P other.1) held slots all))
    (all_reported P slots each (All-tail (λ (other : ℕ × Slot). P other.1) held slots all))

numbers_reported : (slots : Slots) → told_numbers (after_report slots) ≡ told_numbers slots
numbers_reported [] = refl
numbers_reported (held ∷ slots) = ap (λ (o : Option ℕ). cons_option o (told_numbers (after_report slots))) (reported_number held.1) ∙ ap (cons_option (number_in held.1)) (numbers_reported slots)

stamps_reported : (slots : Slots) → stamps_in (after_report slots) ≡ stamps_in slots
stamps_reported [] = refl
stamps_reported (held ∷ slots) = ap (λ (n : ℕ). n ∷ stamps_in (after_report slots)) (reported_stamp held.1) ∙ ap (λ (ns : List ℕ). stamp_of held.1 ∷ ns) (stamps_reported slots)

-- so a table looks the same, but for its counts
pub stay-reported : (count : ℕ) (is_kind : Kind → Bool) (slots : Slots) → IsTable count slots → All (λ held. has_kind is_kind held.1 ≡ true) slots → All (λ held. has_count held.1 ≡ true) slots → SlotsStay count is_kind slots (after_report slots)
stay-reported count is_kind slots table kinds counts = record {
  table = stays_reported count slots table;
  kinds = all_reported (λ slot. has_kind is_kind slot ≡ true) slots (λ slot is. reported_kind is_kind slot ∙ is) kinds;
  counts = all_reported (λ slot. has_count slot ≡ true) slots reported_count counts;
  numbers = part-equal (told_numbers (after_report slots)) (told_numbers slots) (numbers_reported slots);
  stamps = part-equal (stamps_in (after_report slots)) (stamps_in slots) (stamps_reported slots);
}

-- ---- after the acknowledgement of a message by its stamp

module _ (stamp : ℕ) where
  -- what holds of each slot then holds of each that is left
  all_acked : (P : Slot → Type 0) (slots : Slots) → ((used : UsedSlot) → P (Used used) → P (marked used)) → All (λ held. P held.1) slots → All (λ held. P held.1) (acked_slots stamp slots)
  all_acked P [] mark all = all
  all_acked P (held ∷ slots) mark all =
      let rest = all_acked P slots mark (All-tail (λ (other : ℕ × Slot). P other.1) held slots all) in
      (elim (acked_slot stamp held.1) as (λ o. IfSome o P → All (λ (other : ℕ × Slot). P other.1) (cons_option (option_map {U = ℕ × Slot} (λ slot. (held.0, slot)) o) (acked_slots stamp slots))) [
        | None ↦ λ kept. rest
        | Some slot ↦ λ kept. All-cons (λ (other : ℕ × Slot). P other.1) (held.0, slot) (acked_slots stamp slots) kept rest
      ]) (acked_keeps P stamp held.1 mark (All-head (λ (other : ℕ × Slot). P other.1) held slots all))

  numbers_acked : (slots : Slots) → IsPart (told_numbers (acked_slots stamp slots)) (told_numbers slots)
  numbers_acked [] = refl
  numbers_acked (held ∷ slots) =
      let others = told_numbers (acked_slots stamp slots) in
      let rest = numbers_acked slots in
      (elim (acked_slot stamp held.1) as (λ o. IfSome o (λ slot. number_in slot ≡ number_in held.1)
      → IsPart (told_numbers (cons_option (option_map {U = ℕ × Slot} (λ slot. (held.0, slot)) o) (acked_slots stamp slots))) (cons_option (number_in held.1) (told_numbers slots))) [
        | None ↦ λ kept. part-fewer (number_in held.1) others (told_numbers slots) rest
        | Some slot ↦ λ kept. subst (λ (o : Option ℕ). IsPart (cons_option o others) (cons_option (number_in held.1) (told_numbers slots))) (sym kept) (part-more (number_in held.1) others (told_numbers slots) rest)
      ]) (acked_keeps (λ slot. number_in slot ≡ number_in held.1) stamp held.1 (λ used is. is) refl)

  stamps_acked : (slots : Slots) → IsPart (stamps_in (acked_slots stamp slots)) (stamps_in slots)
  stamps_acked [] = refl
  stamps_acked (held ∷ slots) =
      let others = stamps_in (acked_slots stamp slots) in
      let rest = stamps_acked slots in
      (elim (acked_slot stamp held.1) as (λ o. IfSome o (λ slot. stamp_of slot ≡ stamp_of held.1)
      → IsPart (stamps_in (cons_option (option_map {U = ℕ × Slot} (λ slot. (held.0, slot)) o) (acked_slots stamp slots))) (stamp_of held.1 ∷ stamps_in slots)) [
        | None ↦ λ kept. part-left (stamp_of held.1) others (stamps_in slots) rest
        | Some slot ↦ λ kept. subst (λ (n : ℕ). IsPart (n ∷ others) (stamp_of held.1 ∷ stamps_in slots)) (sym kept) (part-kept (stamp_of held.1) others (stamps_in slots) rest)
      ]) (acked_keeps (λ slot. stamp_of slot ≡ stamp_of held.1) stamp held.1 (λ used is. is) refl)

-- so slots are free or marked, and the others look the same
pub stay-acked : (count : ℕ) (is_kind : Kind → Bool) (slots : Slots) → IsTable count slots → All (λ held. has_kind is_kind held.1 ≡ true) slots → All (λ held. has_count held.1 ≡ true) slots → (stamp : ℕ) → SlotsStay count is_kind slots (acked_slots stamp slots)
stay-acked count is_kind slots table kinds counts stamp = record {
  table = stays_acked count slots table stamp;
  kinds = all_acked stamp (λ slot. has_kind is_kind slot ≡ true) slots (λ used is. is) kinds;
  counts = all_acked stamp (λ slot. has_count slot ≡ true) slots (λ used is. is) counts;
  numbers = numbers_acked stamp slots;
  stamps = stamps_acked stamp slots;
}

-- numbers that were given stay so
pub good_slots : (count : ℕ) (is_kind : Kind → Bool) (last : ℕ) (old new : Slots) → SlotsStay count is_kind old new → AreGoodSlots is_kind last old → AreGoodSlots is_kind last new
good_slots count is_kind last old new stay good = record {
  kinds = stay.kinds;
  counts = stay.counts;
  given = part-all (IsGiven last) (told_numbers new) (told_numbers old) stay.numbers good.given;
  once = part-distinct (told_numbers new) (told_numbers old) stay.numbers good.once;
}

-- what holds of each number that is told
told-rest : (P : ℕ → Type 0) (o : Option ℕ) (xs : List ℕ) → All P (cons_option o xs) → All P xs
told-rest P None xs all = all
told-rest P (Some n) xs all = All-tail P n xs all

told-first : (P : ℕ → Type 0) (o : Option ℕ) (n : ℕ) (xs : List ℕ) → o ≡ Some n → All P (cons_option o xs) → P n
told-first P o n xs e all = All-head P n xs (subst (λ (p : Option ℕ). All P (cons_option p xs)) e all)

-- holds of one that is told under an identifier
pub told-given : (P : ℕ → Type 0) (slots : Slots) (id : ℕ) (used : UsedSlot) → All P (told_numbers slots) → value_of slots id ≡ Some (Used used) → P used.number
told-given P [] id used all found = absurd (let bad : None ≡ Some (Used used) = found in cc)
told-given P (held ∷ slots) id used all found =
    (elim (eqb held.0 id) as (λ b. cond b (Some held.1) (value_of slots id) ≡ Some (Used used) → P used.number) [
      | true ↦ λ e. told-first P (number_in held.1) used.number (told_numbers slots) (ap number_in (same_Some held.1 (Used used) e)) all
      | false ↦ λ e. told-given P slots id used (told-rest P (number_in held.1) (told_numbers slots) all) e
    ]) found
