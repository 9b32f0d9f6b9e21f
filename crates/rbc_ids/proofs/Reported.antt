-- The slots of a table, one after another, after a report of the train.
use Rattle.std.proofs.Common.{◌≡◌, ℕ, zero, suc, ◌+◌, ◌<◌, ◌≤◌, [], ◌∷◌, ◌++◌, length, take, drop, get_or, set, refl, sym, ap, ◌∙◌, subst, arith}
use Rattle.std.proofs.lemmas.List.{take_all, drop_all, append-nil, length-map}
use Rattle.rbc_ids.specs.declared.slot.Slot.{Slot}
use Rattle.rbc_ids.specs.Table.{Slots, IsTable, reported_slot, after_report}
use Rattle.rbc_ids.proofs.Tables.{stays_reported}

-- the first slots after the report, and the others before it
abbrev pub partly : Slots → ℕ → Slots
partly slots i = after_report (take i slots) ++ drop i slots

-- the next one is as it was
next_slot : (slots : Slots) (i : ℕ) (d : ℕ × Slot) → get_or (partly slots i) i d ≡ get_or slots i d
next_slot [] zero d = refl
next_slot [] (suc i) d = refl
next_slot (held ∷ slots) zero d = refl
next_slot (held ∷ slots) (suc i) d = next_slot slots i d

-- then it has counted the report too
next_reported : (slots : Slots) (i : ℕ) (d : ℕ × Slot) → i < length slots → set (partly slots i) i ((get_or slots i d).0, reported_slot (get_or slots i d).1) ≡ partly slots (suc i)
next_reported [] i d within = absurd (omega (arith, within))
next_reported (held ∷ slots) zero d within = refl
next_reported (held ∷ slots) (suc i) d within = ap (λ (rest : Slots). (held.0, reported_slot held.1) ∷ rest) (next_reported slots i d (omega (arith, within)))

pub reports_next : (slots now : Slots) (i : ℕ) → now ≡ partly slots i → i < length slots → (d : ℕ × Slot) (slot : Slot) → slot ≡ reported_slot (get_or now i d).1 → set now i ((get_or now i d).0, slot) ≡ partly slots (i + 1)
reports_next slots now i is within d slot reported =
    let here : get_or now i d ≡ get_or slots i d = ap (λ (xs : Slots). get_or xs i d) is ∙ next_slot slots i d in
    let next : suc i ≡ i + 1 = omega arith in
    ap (λ (xs : Slots). set xs i ((get_or now i d).0, slot)) is
    ∙ ap (λ (s : Slot). set (partly slots i) i ((get_or now i d).0, s)) (reported ∙ ap (λ (held : ℕ × Slot). reported_slot held.1) here)
    ∙ ap (λ (held : ℕ × Slot). set (partly slots i) i (held.0, reported_slot (get_or slots i d).1)) here
    ∙ next_reported slots i d within
    ∙ ap (partly slots) next

-- in the end all have
pub all_reported : (slots : Slots) (i : ℕ) → length slots ≤ i → partly slots i ≡ after_report slots
all_reported slots i past = ap (λ (rest : Slots). after_report (take i slots) ++ rest) (drop_all i slots past) ∙ append-nil (after_report (take i slots)) ∙ ap after_report (take_all i slots past)

module _ (n : ℕ) (old new : Slots) (is : new ≡ after_report old) (whole : n ≡ length old) where
  -- as the vector that holds them has them
  pub reported_whole : take n (new ++ drop (length new) old) ≡ after_report old
  reported_whole =
      let as_long : length new ≡ length old = ap length is ∙ length-map old (λ (held : ℕ × Slot). (held.0, reported_slot held.1)) in
      let none : drop (length new) old ≡ [] = drop_all (length new) old (omega (arith, as_long)) in
      ap (λ (rest : Slots). take n (new ++ rest)) none ∙ ap (take n) (append-nil new) ∙ take_all n new (omega (arith, whole, as_long)) ∙ is

-- and the table is one still
pub reported_stays : (count n : ℕ) (old new : Slots) → new ≡ after_report old → n ≡ length old → IsTable count old → IsTable count (take n (new ++ drop (length new) old))
reported_stays count n old new is whole table = subst (IsTable count) (sym (reported_whole n old new is whole)) (stays_reported count old table)
