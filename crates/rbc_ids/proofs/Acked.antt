-- The slots that are left of a table after the acknowledgement of a message by its stamp.
use Rattle.std.proofs.Common.{◌≡◌, ℕ, suc, ◌≤◌, ◌⊎◌, Bool, true, false, not, ◌&&◌, ◌||◌, cond, eqb, List, [], ◌∷◌, length, Option, Some, None, refl, ap, sym, ◌∙◌, arith, inl, inr}
use Rattle.std.specs.List.{cons_option, filter, filter_map, list_any}
use Rattle.std.specs.List.Retain.{RetainsInTurn}
use Rattle.std.proofs.lemmas.Bool.{and_left, and_right, ne_eqb}
use Rattle.std.proofs.lemmas.List.Sums.{length-filter, count_by-le-length}
use Rattle.rbc_ids.specs.declared.slot.Slot.{Slot}
use Rattle.rbc_ids.specs.declared.slot.Slot.TheVariants.{Used, Revoking}
use Rattle.rbc_ids.specs.declared.slot.StampAck.{StampAck}
use Rattle.rbc_ids.specs.declared.slot.StampAck.TheVariants.{Answered, Nothing}
use Rattle.rbc_ids.specs.Table.{Slots, IsTable, is_answered_by, is_freed_by, is_marked_by, freed_by, marked_by, stamp_answer, acked_slots, after_stamp_ack}
use Rattle.rbc_ids.proofs.Tables.{few}

-- what is left where each call keeps an element as it changes it, or leaves it out
pub retained : {S X : Type 0} (R : S → X → Bool → S → X → Type 0) (Is : S → Type 0) (change : X → Option X) → ((s : S) (x : X) (b : Bool) (t : S) (y : X) → Is s → R s x b t y → (change x ≡ cond b (Some y) None) × Is t)
    → (s : S) (xs ys : List X) → Is s → RetainsInTurn R s xs ys → ys ≡ filter_map change xs
retained R Is change says s [] ys is h = h
retained {S} {X} R Is change says s (x ∷ xs) ys is (b, t, y, called, zs, rest, left) =
    let others = filter_map change xs in
    let said = says s x b t y is called in
    left
    ∙ ap (λ (kept : List X). cond b (y ∷ kept) kept) (retained R Is change says t xs zs said.1 rest)
    ∙ (elim b as (λ b. cond b (y ∷ others) others ≡ cons_option (cond b (Some y) None) others) [ true ↦ refl | false ↦ refl ])
    ∙ sym (ap (λ (o : Option X). cons_option o others) said.0)

-- ---- the slots of a table

-- a count of slots is at most 255
pub counted : (count : ℕ) (slots : Slots) → IsTable count slots → (test : ℕ × Slot → Bool) (n : ℕ) → n ≡ length (filter test slots) → n ≤ 255
counted count slots table test n is =
    let all = length-filter test slots in
    let within = count_by-le-length test slots in
    let most = few count slots table in
    let small = table.small in
    omega (arith, is, all, within, most, small)

-- a slot is answered where one of both counts is above 0
any_counted : (stamp : ℕ) (slots : Slots) → list_any (λ held. is_answered_by stamp held.1) slots ≡ not (eqb (freed_by stamp slots) 0 && eqb (marked_by stamp slots) 0)
any_counted stamp [] = refl
any_counted stamp ((id, Used used) ∷ slots) =
    let others = filter (λ held. is_marked_by stamp held.1) slots in
    elim (is_answered_by stamp (Used used)) as (λ b. (b || list_any (λ held. is_answered_by stamp held.1) slots) ≡ not (eqb (freed_by stamp slots) 0 && eqb (length (cond b ((id, Used used) ∷ others) others)) 0)) [
      | true ↦ sym (ap not (and_right (eqb (freed_by stamp slots) 0) (eqb (suc (length others)) 0) (ne_eqb (suc (length others)) 0 (λ same. absurd (omega (arith, same))))))
      | false ↦ any_counted stamp slots
    ]
any_counted stamp ((id, Revoking own) ∷ slots) =
    let others = filter (λ held. is_freed_by stamp held.1) slots in
    elim (eqb own stamp) as (λ b. (b || list_any (λ held. is_answered_by stamp held.1) slots) ≡ not (eqb (length (cond b ((id, Revoking own) ∷ others) others)) 0 && eqb (marked_by stamp slots) 0)) [
      | true ↦ sym (ap not (and_left (eqb (suc (length others)) 0) (eqb (marked_by stamp slots) 0) (ne_eqb (suc (length others)) 0 (λ same. absurd (omega (arith, same))))))
      | false ↦ any_counted stamp slots
    ]

-- where both are 0, nothing is answered
pub none_answered : (stamp : ℕ) (slots : Slots) (freed marked : ℕ) → freed ≡ freed_by stamp slots → marked ≡ marked_by stamp slots → freed ≡ 0 → marked ≡ 0
    → (Nothing ≡ stamp_answer slots stamp) × (None ≡ after_stamp_ack slots stamp)
none_answered stamp slots freed marked f m no_freed no_marked =
    let none : (eqb (freed_by stamp slots) 0 && eqb (marked_by stamp slots) 0) ≡ true = rw (sym f ∙ no_freed, sym m ∙ no_marked) refl in (
      sym (ap (λ b. cond {A = StampAck} b Nothing (Answered (freed_by stamp slots) (marked_by stamp slots))) none),
      sym (ap (λ b. cond b (Some (acked_slots stamp slots)) None) (any_counted stamp slots ∙ ap not none)),
    )

-- where one is not, both counts are the answer, and what is left is the table after it
pub answered : (stamp : ℕ) (slots : Slots) (freed marked : ℕ) (left : Slots) → freed ≡ freed_by stamp slots → marked ≡ marked_by stamp slots → left ≡ acked_slots stamp slots
    → ((freed ≡ 0) × (marked ≡ 0 → ⊥)) ⊎ (freed ≡ 0 → ⊥) → (Answered freed marked ≡ stamp_answer slots stamp) × (Some left ≡ after_stamp_ack slots stamp)
answered stamp slots freed marked left f m l some =
    let none : (eqb freed 0 && eqb marked 0) ≡ false = elim some [
      | inl other ↦ and_right (eqb freed 0) (eqb marked 0) (ne_eqb marked 0 other.1)
      | inr other ↦ and_left (eqb freed 0) (eqb marked 0) (ne_eqb freed 0 other)
    ] in
    let counted : (eqb (freed_by stamp slots) 0 && eqb (marked_by stamp slots) 0) ≡ false = sym (λ i. eqb (f i) 0 && eqb (m i) 0) ∙ none in (
      (λ i. Answered (f i) (m i)) ∙ sym (ap (λ b. cond {A = StampAck} b Nothing (Answered (freed_by stamp slots) (marked_by stamp slots))) counted),
      ap (λ (xs : Slots). Some xs) l ∙ sym (ap (λ b. cond b (Some (acked_slots stamp slots)) None) (any_counted stamp slots ∙ ap not counted)),
    )
