-- Each number is told by one slot at most, before and after each change.
use Rattle.std.proofs.Common.{◌≡◌, ℕ, ◌+◌, ◌<◌, min, Bool, true, false, not, cond, ◌||◌, eqb, ltb, leb, List, [], ◌∷◌, Some, None, refl, sym, ap, ◌∙◌, subst, arith, inl, inr}
use Rattle.std.specs.List.{cons_option, filter}
use Rattle.std.specs.Option.{IfSome, option_map}
use Rattle.std.proofs.lemmas.Bool.{cases_lt, cases_Bool, or_parts, or_from, or_left, or_right, and_parts, le-leb, lt-ltb, le-ltb, eqb-true, eq-eqb, ne_eqb, both_ways}
use Rattle.std.proofs.lemmas.Option.{same_Some}
use Rattle.rbc_maps.specs.Maps.{keys, rises_from, value_of, with_value, without}
use Rattle.rbc_ids.specs.declared.slot.Slot.{Slot}
use Rattle.rbc_ids.specs.declared.slot.Slot.TheVariants.{Used, Revoking}
use Rattle.rbc_ids.specs.declared.slot.UsedSlot.{UsedSlot}
use Rattle.rbc_ids.specs.declared.slot.Kind.{Kind}
use Rattle.rbc_ids.specs.Table.{Slots, tells, is_told, TellsOnce, TellsApart, told_now, marked, reported_slot, after_report, is_unanswered, is_answered_by, acked_slot, acked_slots}
use Rattle.rbc_ids.proofs.Lacking.{absent_below, without_absent}

-- what is not told is not told by fewer slots
pub untold-filter : (test : ℕ × Slot → Bool) (n : ℕ) (slots : Slots) → is_told slots n ≡ false → is_told (filter test slots) n ≡ false
untold-filter test n [] untold = refl
untold-filter test n (held ∷ slots) untold =
    let parts = or_parts (tells n held.1) (is_told slots n) untold in
    let rest = untold-filter test n slots parts.1 in
    elim (test held) as (λ b. is_told (cond b (held ∷ filter test slots) (filter test slots)) n ≡ false) [
      | true ↦ or_from (tells n held.1) (is_told (filter test slots) n) parts.0 rest
      | false ↦ rest
    ]

-- fewer slots tell each number once too
pub once-filter : (test : ℕ × Slot → Bool) (slots : Slots) → TellsOnce slots → TellsOnce (filter test slots)
once-filter test [] once = tt
once-filter test (held ∷ slots) once =
    let rest = once-filter test slots once.1 in
    elim (test held) as (λ b. TellsOnce (cond b (held ∷ filter test slots) (filter test slots))) [
      | true ↦ ((λ n told. untold-filter test n slots (once.0 n told)), rest)
      | false ↦ rest
    ]

-- a slot that does not tell a number makes it no told one
untold-with : (id : ℕ) (slot : Slot) (n : ℕ) (slots : Slots) → tells n slot ≡ false → is_told slots n ≡ false → is_told (with_value id slot slots) n ≡ false
untold-with id slot n [] other untold = or_from (tells n slot) false other refl
untold-with id slot n (held ∷ slots) other untold =
    let parts = or_parts (tells n held.1) (is_told slots n) untold in
    elim (ltb id held.0) as (λ b. is_told (cond b ((id, slot) ∷ held ∷ slots) (cond (eqb held.0 id) ((id, slot) ∷ slots) (held ∷ with_value id slot slots))) n ≡ false) [
      | true ↦ or_from (tells n slot) (is_told (held ∷ slots) n) other untold
      | false ↦ elim (eqb held.0 id) as (λ b. is_told (cond b ((id, slot) ∷ slots) (held ∷ with_value id slot slots)) n ≡ false) [
        | true ↦ or_from (tells n slot) (is_told slots n) other parts.1
        | false ↦ or_from (tells n held.1) (is_told (with_value id slot slots) n) parts.0 (untold-with id slot n slots other parts.1)
      ]
    ]

-- the slots behind an identifier are all there without it
without-behind : (id least : ℕ) (slots : Slots) → id < least → rises_from least (keys slots) ≡ true → without id slots ≡ slots
without-behind id least slots below rises = without_absent id slots (absent_below id least slots below rises)

module _ (id : ℕ) (slot : Slot) where
  -- beside a slot whose number no other one tells, each number is told once
  pub once-with : (least : ℕ) (slots : Slots) → rises_from least (keys slots) ≡ true → TellsOnce slots → TellsApart id slot slots → TellsOnce (with_value id slot slots)
  once-with least [] rises once apart = ((λ n told. refl), tt)
  once-with least (held ∷ slots) rises once apart =
      let parts = and_parts (leb least held.0) (rises_from (held.0 + 1) (keys slots)) rises in
      elim (cases_lt id held.0) [
        | inl below ↦
            let all : without id (held ∷ slots) ≡ held ∷ slots = without-behind id held.0 (held ∷ slots) below (rises-here held slots parts.1) in
            subst TellsOnce (sym (with-before held slots below)) ((λ n told. ap (λ (xs : Slots). is_told xs n) (sym all) ∙ apart n told), once)
        | inr not_below ↦ elim (cases_lt held.0 id) [
          | inl above ↦
              let left : without id (held ∷ slots) ≡ held ∷ without id slots = ap (λ (b : Bool). cond (not b) (held ∷ without id slots) (without id slots)) (ne_eqb held.0 id (λ same. absurd (omega (arith, same, above)))) in
              let both = λ (n : ℕ) (told : tells n slot ≡ true). or_parts (tells n held.1) (is_told (without id slots) n) (ap (λ (xs : Slots). is_told xs n) (sym left) ∙ apart n told) in
              subst TellsOnce (sym (with-past held slots above)) (
                (λ n told. untold-with id slot n slots (not_here n held told (λ own. (both n own).0)) (once.0 n told)),
                once-with (held.0 + 1) slots parts.1 once.1 (λ n told. (both n told).1),
              )
          | inr not_above ↦
              let same : held.0 ≡ id = omega (arith, not_below, not_above) in
              let left : without id (held ∷ slots) ≡ slots =
              ap (λ (b : Bool). cond (not b) (held ∷ without id slots) (without id slots)) (eq-eqb held.0 id same) ∙ without-behind id (held.0 + 1) slots (omega (arith, same)) parts.1 in
              subst TellsOnce (sym (with-here held slots same)) ((λ n told. ap (λ (xs : Slots). is_told xs n) (sym left) ∙ apart n told), once.1)
        ]
      ]
    where
      rises-here : (held : ℕ × Slot) (slots : Slots) → rises_from (held.0 + 1) (keys slots) ≡ true → rises_from held.0 (keys (held ∷ slots)) ≡ true
      rises-here held slots rest = rw (le-leb held.0 held.0 (omega arith)) rest

      with-before : (held : ℕ × Slot) (slots : Slots) → id < held.0 → with_value id slot (held ∷ slots) ≡ (id, slot) ∷ held ∷ slots
      with-before held slots below = rw (lt-ltb id held.0 below) refl

      with-past : (held : ℕ × Slot) (slots : Slots) → held.0 < id → with_value id slot (held ∷ slots) ≡ held ∷ with_value id slot slots
      with-past held slots above = rw (le-ltb id held.0 (omega (arith, above)), ne_eqb held.0 id (λ same. absurd (omega (arith, above, same)))) refl

      with-here : (held : ℕ × Slot) (slots : Slots) → held.0 ≡ id → with_value id slot (held ∷ slots) ≡ (id, slot) ∷ slots
      with-here held slots same = rw (le-ltb id held.0 (omega (arith, same)), eq-eqb held.0 id same) refl

      not_here : (n : ℕ) (held : ℕ × Slot) → tells n held.1 ≡ true → (tells n slot ≡ true → tells n held.1 ≡ false) → tells n slot ≡ false
      not_here n held told apart_here = elim (cases_Bool (tells n slot)) [
        | inl own ↦ absurd (both_ways (tells n held.1) (apart_here own) told)
        | inr other ↦ other
      ]

-- a slot that is being revoked tells no number
pub apart-revoking : (id stamp : ℕ) (slots : Slots) → TellsApart id (Revoking stamp) slots
apart-revoking id stamp slots = λ n told. absurd (let bad : false ≡ true = told in cc)

-- a number that is not told at all is told under no other identifier
pub apart-untold : (id : ℕ) (slot : Slot) (number : ℕ) (slots : Slots) → ((n : ℕ) → tells n slot ≡ true → number ≡ n) → is_told slots number ≡ false → TellsApart id slot slots
apart-untold id slot number slots own untold = λ n told.
    untold-filter (λ held. not (eqb held.0 id)) n slots (subst (λ (m : ℕ). is_told slots m ≡ false) (own n told) untold)

pub apart-told : (id number stamp : ℕ) (kind : Kind) (slots : Slots) → is_told slots number ≡ false → TellsApart id (told_now number stamp kind) slots
apart-told id number stamp kind slots untold = apart-untold id (told_now number stamp kind) number slots (λ n told. eqb-true number n told) untold

-- nor is one that the identifier itself tells
pub apart-own : (id : ℕ) (old new : Slot) (least : ℕ) (slots : Slots) → rises_from least (keys slots) ≡ true → TellsOnce slots → value_of slots id ≡ Some old → ((n : ℕ) → tells n new ≡ tells n old) → TellsApart id new slots
apart-own id old new least [] rises once found same = λ n told. refl
apart-own id old new least (held ∷ slots) rises once found same =
    let parts = and_parts (leb least held.0) (rises_from (held.0 + 1) (keys slots)) rises in
    (elim (eqb held.0 id) as (λ b. eqb held.0 id ≡ b → cond b (Some held.1) (value_of slots id) ≡ Some old → (n : ℕ) → tells n new ≡ true → is_told (cond (not b) (held ∷ without id slots) (without id slots)) n ≡ false) [
      | true ↦ λ is here n told.
          let key : held.0 ≡ id = eqb-true held.0 id is in
          let own : tells n held.1 ≡ true = ap (tells n) (same_Some held.1 old here) ∙ sym (same n) ∙ told in
          ap (λ (xs : Slots). is_told xs n) (without-behind id (held.0 + 1) slots (omega (arith, key)) parts.1) ∙ once.0 n own
      | false ↦ λ is there n told.
          let rest = apart-own id old new (held.0 + 1) slots parts.1 once.1 there same in
          let below : tells n held.1 ≡ false = elim (cases_Bool (tells n held.1)) [
            | inl own ↦ absurd (both_ways (is_told slots n) (once.0 n own) (told_there slots n (sym (same n) ∙ told) there))
            | inr other ↦ other
          ] in
          or_from (tells n held.1) (is_told (without id slots) n) below (rest n told)
    ]) refl found
  where
    told_there : (some : Slots) (n : ℕ) → tells n old ≡ true → value_of some id ≡ Some old → is_told some n ≡ true
    told_there [] n told there = absurd (let bad : None ≡ Some old = there in cc)
    told_there (other ∷ some) n told there =
        (elim (eqb other.0 id) as (λ b. cond b (Some other.1) (value_of some id) ≡ Some old → is_told (other ∷ some) n ≡ true) [
          | true ↦ λ e. or_left (tells n other.1) (is_told some n) (ap (tells n) (same_Some other.1 old e) ∙ told)
          | false ↦ λ e. or_right (tells n other.1) (is_told some n) (told_there some n told e)
        ]) there

-- nor that of a slot that is marked
pub apart-marked : (id : ℕ) (used : UsedSlot) (slots : Slots) → rises_from 0 (keys slots) ≡ true → TellsOnce slots → value_of slots id ≡ Some (Used used) → TellsApart id (marked used) slots
apart-marked id used slots rises once found = apart-own id (Used used) (marked used) 0 slots rises once found (λ n. refl)

-- ---- after a report

-- a slot tells the same number after a report
pub tells-reported : (n : ℕ) (slot : Slot) → tells n (reported_slot slot) ≡ tells n slot
tells-reported n (Used used) = elim (is_unanswered used) as (λ b. tells n (cond b (Used (record used { count = min (used.count + 1) 3 })) (Used used)) ≡ tells n (Used used)) [
  | true ↦ refl
  | false ↦ refl
]
tells-reported n (Revoking stamp) = refl

-- so the same numbers are told
pub told-reported : (n : ℕ) (slots : Slots) → is_told (after_report slots) n ≡ is_told slots n
told-reported n [] = refl
told-reported n (held ∷ slots) = ap (λ (b : Bool). b || is_told (after_report slots) n) (tells-reported n held.1) ∙ ap (λ (b : Bool). tells n held.1 || b) (told-reported n slots)

-- each once
pub once-reported : (slots : Slots) → TellsOnce slots → TellsOnce (after_report slots)
once-reported [] once = tt
once-reported (held ∷ slots) once = ((λ n told. told-reported n slots ∙ once.0 n (sym (tells-reported n held.1) ∙ told)), once-reported slots once.1)

-- under the same identifiers
pub keys-reported : (slots : Slots) → keys (after_report slots) ≡ keys slots
keys-reported [] = refl
keys-reported (held ∷ slots) = ap (λ (ks : List ℕ). held.0 ∷ ks) (keys-reported slots)

-- ---- after the acknowledgement of a message by its stamp

-- what holds of a slot, and of a marked one as of the one before, holds of what is left of it
pub acked_keeps : (P : Slot → Type 0) (stamp : ℕ) (slot : Slot) → ((used : UsedSlot) → P (Used used) → P (marked used)) → P slot → IfSome (acked_slot stamp slot) P
acked_keeps P stamp (Used used) mark here = elim (is_answered_by stamp (Used used)) as (λ b. P (cond b (marked used) (Used used))) [ true ↦ mark used here | false ↦ here ]
acked_keeps P stamp (Revoking own) mark here = elim (eqb own stamp) as (λ b. IfSome (cond b None (Some (Revoking own))) P) [ true ↦ tt | false ↦ here ]

-- what is not told is not told then
untold-acked : (stamp n : ℕ) (slots : Slots) → is_told slots n ≡ false → is_told (acked_slots stamp slots) n ≡ false
untold-acked stamp n [] untold = refl
untold-acked stamp n (held ∷ slots) untold =
    let parts = or_parts (tells n held.1) (is_told slots n) untold in
    let rest = untold-acked stamp n slots parts.1 in
    (elim (acked_slot stamp held.1) as (λ o. IfSome o (λ slot. tells n slot ≡ false) → is_told (cons_option (option_map {U = ℕ × Slot} (λ slot. (held.0, slot)) o) (acked_slots stamp slots)) n ≡ false) [
      | None ↦ λ kept. rest
      | Some slot ↦ λ kept. or_from (tells n slot) (is_told (acked_slots stamp slots) n) kept rest
    ]) (acked_keeps (λ slot. tells n slot ≡ false) stamp held.1 (λ used is. is) parts.0)

-- and each number is told once
pub once-acked : (stamp : ℕ) (slots : Slots) → TellsOnce slots → TellsOnce (acked_slots stamp slots)
once-acked stamp [] once = tt
once-acked stamp (held ∷ slots) once =
    let rest = once-acked stamp slots once.1 in
    (elim (acked_slot stamp held.1) as (λ o. IfSome o (λ slot. (n : ℕ) → tells n slot ≡ tells n held.1) → TellsOnce (cons_option (option_map {U = ℕ × Slot} (λ slot. (held.0, slot)) o) (acked_slots stamp slots))) [
      | None ↦ λ kept. rest
      | Some slot ↦ λ kept. ((λ n told. untold-acked stamp n slots (once.0 n (sym (kept n) ∙ told))), rest)
    ]) (acked_keeps (λ slot. (n : ℕ) → tells n slot ≡ tells n held.1) stamp held.1 (λ used is. is) (λ n. refl))
