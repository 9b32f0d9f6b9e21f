-- What is held at the place of an identifier, and that each change keeps a table.
use Rattle.std.proofs.Common.{◌≡◌, ℕ, suc, ◌+◌, ◌<◌, ◌≤◌, Bool, true, false, not, cond, ◌||◌, ◌&&◌, eqb, ltb, leb, List, [], ◌∷◌, length, get_or, set, Option, Some, None, refl, sym, ap, ◌∙◌, subst, arith, inl, inr}
use Rattle.std.specs.List.{All, cons_option, filter, filter_map, find, insert, list_any, remove}
use Rattle.std.specs.Option.{option_map}
use Rattle.std.proofs.lemmas.Bool.{cases_lt, or_parts, or_left, or_right, or_cases, and_parts, and_from, leb-true, ltb-true, ltb-false, eqb-true, eq-eqb, ne_eqb, false≢true}
use Rattle.std.proofs.lemmas.Bool.Decides.{nat_tests}
use Rattle.std.proofs.lemmas.List.Elements.{All-cons, All-head, All-tail}
use Rattle.rbc_maps.specs.Maps.{has, index_for, keys, rises_from, value_of, with_value, without}
use Rattle.rbc_maps.proofs.MapPlaces.{has_is, has_here, has_past, rises-with_value}
use Rattle.rbc_maps.proofs.MapEdits.{inserted, position_or_len_le, written}
use Rattle.rbc_maps.proofs.MapFacts.{rises_from-lower}
use Rattle.rbc_ids.specs.declared.slot.Slot.{Slot}
use Rattle.rbc_ids.specs.Table.{Slots, IsTable, TellsApart, tells, is_told, identifier_of, after_report, acked_slot, acked_slots}
use Rattle.rbc_ids.proofs.Lacking.{absent_below, without_absent}
use Rattle.rbc_ids.proofs.Once.{once-filter, once-with, once-reported, keys-reported, once-acked}

module _ {V : Type 0} where
  -- as many stand between a lower and an upper bound as the bounds leave room for
  pub length_within : (least bound : ℕ) (pairs : List (ℕ × V)) → least ≤ bound → rises_from least (keys pairs) ≡ true → All (λ id. id < bound) (keys pairs) → least + length pairs ≤ bound
  length_within least bound [] le rises below = omega arith
  length_within least bound (pair ∷ pairs) le rises below =
      let parts = and_parts (leb least pair.0) (rises_from (pair.0 + 1) (keys pairs)) rises in
      let above : least ≤ pair.0 = leb-true least pair.0 parts.0 in
      let here : pair.0 < bound = All-head (λ id. id < bound) pair.0 (keys pairs) below in
      let rest : (pair.0 + 1) + length pairs ≤ bound = length_within (pair.0 + 1) bound pairs (omega arith) parts.1 (All-tail (λ id. id < bound) pair.0 (keys pairs) below) in
      omega arith

  -- a key that is there stands at its place
  pub held_at : (key : ℕ) (pairs : List (ℕ × V)) (d : ℕ × V) → rises_from 0 (keys pairs) ≡ true → has pairs key ≡ true → (index_for key pairs < length pairs) × ((get_or pairs (index_for key pairs) d).0 ≡ key)
  held_at key pairs d rises held =
      let parts = and_parts (ltb (index_for key pairs) (length pairs)) (eqb (get_or pairs (index_for key pairs) d).0 key) (sym (has_is key 0 pairs d rises) ∙ held) in
      (ltb-true (index_for key pairs) (length pairs) parts.0, eqb-true (get_or pairs (index_for key pairs) d).0 key parts.1)

  pub has-value : (key : ℕ) (value : V) (pairs : List (ℕ × V)) → value_of pairs key ≡ Some value → has pairs key ≡ true
  has-value key value [] found = absurd (let bad : None ≡ Some value = found in cc)
  has-value key value (pair ∷ pairs) found =
      (elim (eqb pair.0 key) as (λ b. cond b (Some pair.1) (value_of pairs key) ≡ Some value → (b || has pairs key) ≡ true) [ true ↦ λ e. refl | false ↦ λ e. has-value key value pairs e ]) found

  pub value_of-absent : (key : ℕ) (pairs : List (ℕ × V)) → has pairs key ≡ false → value_of pairs key ≡ None
  value_of-absent key [] absent = refl
  value_of-absent key (pair ∷ pairs) absent =
      let parts = or_parts (eqb pair.0 key) (has pairs key) absent in
      ap (λ b. cond b (Some pair.1) (value_of pairs key)) parts.0 ∙ value_of-absent key pairs parts.1

  -- a key that is there and passes a test is there
  pub has-any : (key : ℕ) (test : ℕ × V → Bool) (pairs : List (ℕ × V)) → list_any (λ pair. eqb pair.0 key && test pair) pairs ≡ true → has pairs key ≡ true
  has-any key test [] any = any
  has-any key test (pair ∷ pairs) any = elim (or_cases (eqb pair.0 key && test pair) (list_any (λ other. eqb other.0 key && test other) pairs) any) [
    | inl here ↦ or_left (eqb pair.0 key) (has pairs key) (and_parts (eqb pair.0 key) (test pair) here).0
    | inr there ↦ or_right (eqb pair.0 key) (has pairs key) (has-any key test pairs there)
  ]

  pub place_after : (key : ℕ) (pair : ℕ × V) (pairs : List (ℕ × V)) → pair.0 < key → index_for key (pair ∷ pairs) ≡ suc (index_for key pairs)
  place_after key pair pairs below = grind (arith, nat_tests)

  pub place_here : (key : ℕ) (pair : ℕ × V) (pairs : List (ℕ × V)) → key ≤ pair.0 → index_for key (pair ∷ pairs) ≡ 0
  place_here key pair pairs not_below = grind (arith, nat_tests)

  -- a key that is there has a place
  pub held_place : (key : ℕ) (pairs : List (ℕ × V)) → rises_from 0 (keys pairs) ≡ true → has pairs key ≡ true → index_for key pairs < length pairs
  held_place key [] rises held = absurd (let bad : false ≡ true = held in cc)
  held_place key (pair ∷ pairs) rises held = (held_at key (pair ∷ pairs) pair rises held).0

  -- the value at the key's place
  pub value_of-here : (key : ℕ) (pairs : List (ℕ × V)) (d : ℕ × V) → index_for key pairs < length pairs → (get_or pairs (index_for key pairs) d).0 ≡ key → value_of pairs key ≡ Some (get_or pairs (index_for key pairs) d).1
  value_of-here key [] d within same = absurd (omega arith)
  value_of-here key (pair ∷ pairs) d within same = elim (cases_lt pair.0 key) [
    | inl below ↦
        let here = place_after key pair pairs below in
        let other : eqb pair.0 key ≡ false = ne_eqb pair.0 key (λ equal. absurd (omega (arith, equal))) in
        let within' : suc (index_for key pairs) < suc (length pairs) = subst (λ n. n < suc (length pairs)) here within in
        let same' : (get_or (pair ∷ pairs) (suc (index_for key pairs)) d).0 ≡ key = subst (λ n. (get_or (pair ∷ pairs) n d).0 ≡ key) here same in
        ap (λ b. cond b (Some pair.1) (value_of pairs key)) other ∙ value_of-here key pairs d (omega arith) same' ∙ sym (ap (λ n. Some (get_or (pair ∷ pairs) n d).1) here)
    | inr not_below ↦
        let here = place_here key pair pairs not_below in
        let same' : pair.0 ≡ key = subst (λ n. (get_or (pair ∷ pairs) n d).0 ≡ key) here same in
        ap (λ b. cond b (Some pair.1) (value_of pairs key)) (eq-eqb pair.0 key same') ∙ sym (ap (λ n. Some (get_or (pair ∷ pairs) n d).1) here)
  ]

  -- a key is taken out at its place
  pub remove-without : (key least : ℕ) (pairs : List (ℕ × V)) (d : ℕ × V) → rises_from least (keys pairs) ≡ true → index_for key pairs < length pairs → (get_or pairs (index_for key pairs) d).0 ≡ key → remove pairs (index_for key pairs) ≡ without key pairs
  remove-without key least [] d rises within same = absurd (omega arith)
  remove-without key least (pair ∷ pairs) d rises within same =
      let parts = and_parts (leb least pair.0) (rises_from (pair.0 + 1) (keys pairs)) rises in
      elim (cases_lt pair.0 key) [
        | inl below ↦
            let here = place_after key pair pairs below in
            let other : eqb pair.0 key ≡ false = ne_eqb pair.0 key (λ equal. absurd (omega (arith, equal))) in
            let within' : suc (index_for key pairs) < suc (length pairs) = subst (λ n. n < suc (length pairs)) here within in
            let same' : (get_or (pair ∷ pairs) (suc (index_for key pairs)) d).0 ≡ key = subst (λ n. (get_or (pair ∷ pairs) n d).0 ≡ key) here same in
            ap (remove (pair ∷ pairs)) here ∙ ap (λ (xs : List (ℕ × V)). pair ∷ xs) (remove-without key (pair.0 + 1) pairs d parts.1 (omega arith) same') ∙ sym (ap (λ b. cond (not b) (pair ∷ without key pairs) (without key pairs)) other)
        | inr not_below ↦
            let here = place_here key pair pairs not_below in
            let same' : pair.0 ≡ key = subst (λ n. (get_or (pair ∷ pairs) n d).0 ≡ key) here same in
            let absent = absent_below key (pair.0 + 1) pairs (omega arith) parts.1 in
            ap (remove (pair ∷ pairs)) here ∙ sym (without_absent key pairs absent) ∙ sym (ap (λ b. cond (not b) (pair ∷ without key pairs) (without key pairs)) (eq-eqb pair.0 key same'))
      ]

  -- fewer pairs ascend too
  rises-filter : (test : ℕ × V → Bool) (least : ℕ) (pairs : List (ℕ × V)) → rises_from least (keys pairs) ≡ true → rises_from least (keys (filter test pairs)) ≡ true
  rises-filter test least [] rises = refl
  rises-filter test least (pair ∷ pairs) rises =
      let parts = and_parts (leb least pair.0) (rises_from (pair.0 + 1) (keys pairs)) rises in
      let above : least ≤ pair.0 = leb-true least pair.0 parts.0 in
      let rest = rises-filter test (pair.0 + 1) pairs parts.1 in
      elim (test pair) as (λ b. rises_from least (keys (cond b (pair ∷ filter test pairs) (filter test pairs))) ≡ true) [
        | true ↦ and_from (leb least pair.0) (rises_from (pair.0 + 1) (keys (filter test pairs))) parts.0 rest
        | false ↦ rises_from-lower least (pair.0 + 1) (keys (filter test pairs)) (omega arith) rest
      ]

  All-keys-filter : (P : ℕ → Type 0) (test : ℕ × V → Bool) (pairs : List (ℕ × V)) → All P (keys pairs) → All P (keys (filter test pairs))
  All-keys-filter P test [] all = all
  All-keys-filter P test (pair ∷ pairs) all =
      let rest = All-keys-filter P test pairs (All-tail P pair.0 (keys pairs) all) in
      elim (test pair) as (λ b. All P (keys (cond b (pair ∷ filter test pairs) (filter test pairs)))) [
        | true ↦ All-cons P pair.0 (keys (filter test pairs)) (All-head P pair.0 (keys pairs) all) rest
        | false ↦ rest
      ]

  -- so do those whose value is changed, or left out
  abbrev changed_or_left_out : (V → Option V) → List (ℕ × V) → List (ℕ × V)
  changed_or_left_out change pairs = filter_map (λ pair. option_map (λ value. (pair.0, value)) (change pair.1)) pairs

  rises-changed : (change : V → Option V) (least : ℕ) (pairs : List (ℕ × V)) → rises_from least (keys pairs) ≡ true → rises_from least (keys (changed_or_left_out change pairs)) ≡ true
  rises-changed change least [] rises = refl
  rises-changed change least (pair ∷ pairs) rises =
      let parts = and_parts (leb least pair.0) (rises_from (pair.0 + 1) (keys pairs)) rises in
      let above : least ≤ pair.0 = leb-true least pair.0 parts.0 in
      let others = changed_or_left_out change pairs in
      let rest = rises-changed change (pair.0 + 1) pairs parts.1 in
      elim (change pair.1) as (λ o. rises_from least (keys (cons_option (option_map {U = ℕ × V} (λ value. (pair.0, value)) o) others)) ≡ true) [
        | None ↦ rises_from-lower least (pair.0 + 1) (keys others) (omega arith) rest
        | Some value ↦ and_from (leb least pair.0) (rises_from (pair.0 + 1) (keys others)) parts.0 rest
      ]

  All-keys-changed : (P : ℕ → Type 0) (change : V → Option V) (pairs : List (ℕ × V)) → All P (keys pairs) → All P (keys (changed_or_left_out change pairs))
  All-keys-changed P change [] all = all
  All-keys-changed P change (pair ∷ pairs) all =
      let others = changed_or_left_out change pairs in
      let rest = All-keys-changed P change pairs (All-tail P pair.0 (keys pairs) all) in
      elim (change pair.1) as (λ o. All P (keys (cons_option (option_map {U = ℕ × V} (λ value. (pair.0, value)) o) others))) [
        | None ↦ rest
        | Some value ↦ All-cons P pair.0 (keys others) (All-head P pair.0 (keys pairs) all) rest
      ]

  All-keys-with_value : (P : ℕ → Type 0) (key : ℕ) (value : V) (pairs : List (ℕ × V)) → P key → All P (keys pairs) → All P (keys (with_value key value pairs))
  All-keys-with_value P key value [] here all = All-cons P key [] here all
  All-keys-with_value P key value (pair ∷ pairs) here all =
      let first = All-head P pair.0 (keys pairs) all in
      let others = All-tail P pair.0 (keys pairs) all in
      let rest = All-keys-with_value P key value pairs here others in
      elim (ltb key pair.0) as (λ b. All P (keys (cond b ((key, value) ∷ pair ∷ pairs) (cond (eqb pair.0 key) ((key, value) ∷ pairs) (pair ∷ with_value key value pairs))))) [
        | true ↦ All-cons P key (pair.0 ∷ keys pairs) here all
        | false ↦ elim (eqb pair.0 key) as (λ b. All P (keys (cond b ((key, value) ∷ pairs) (pair ∷ with_value key value pairs)))) [
          | true ↦ All-cons P key (keys pairs) here others
          | false ↦ All-cons P pair.0 (keys (with_value key value pairs)) first rest
        ]
      ]

  -- what holds of each key holds of one that is there
  All-keys-has : (P : ℕ → Type 0) (key : ℕ) (pairs : List (ℕ × V)) → All P (keys pairs) → has pairs key ≡ true → P key
  All-keys-has P key [] all held = absurd (let bad : false ≡ true = held in cc)
  All-keys-has P key (pair ∷ pairs) all held = elim (or_cases (eqb pair.0 key) (has pairs key) held) [
    | inl here ↦ subst P (eqb-true pair.0 key here) (All-head P pair.0 (keys pairs) all)
    | inr there ↦ All-keys-has P key pairs (All-tail P pair.0 (keys pairs) all) there
  ]

module _ (count : ℕ) (slots : Slots) (table : IsTable count slots) where
  pub few : length slots ≤ count
  few = let within = length_within 0 count slots (omega arith) table.ascending table.below in omega arith

  pub stays_without : (id : ℕ) → IsTable count (without id slots)
  stays_without id = record {
    small = table.small;
    ascending = rises-filter (λ held. not (eqb held.0 id)) 0 slots table.ascending;
    below = All-keys-filter (λ other. other < count) (λ held. not (eqb held.0 id)) slots table.below;
    once = once-filter (λ held. not (eqb held.0 id)) slots table.once;
  }

  pub stays_with : (id : ℕ) (slot : Slot) → id < count → TellsApart id slot slots → IsTable count (with_value id slot slots)
  stays_with id slot below apart = record {
    small = table.small;
    ascending = rises-with_value id slot 0 slots (omega arith) table.ascending;
    below = All-keys-with_value (λ other. other < count) id slot slots below table.below;
    once = once-with id slot 0 slots table.ascending table.once apart;
  }

  pub stays_reported : IsTable count (after_report slots)
  stays_reported = record {
    small = table.small;
    ascending = subst (λ (ks : List ℕ). rises_from 0 ks ≡ true) (sym (keys-reported slots)) table.ascending;
    below = subst (λ (ks : List ℕ). All (λ id. id < count) ks) (sym (keys-reported slots)) table.below;
    once = once-reported slots table.once;
  }

  pub stays_acked : (stamp : ℕ) → IsTable count (acked_slots stamp slots)
  stays_acked stamp = record {
    small = table.small;
    ascending = rises-changed (acked_slot stamp) 0 slots table.ascending;
    below = All-keys-changed (λ id. id < count) (acked_slot stamp) slots table.below;
    once = once-acked stamp slots table.once;
  }

  pub held_below : (id : ℕ) → has slots id ≡ true → id < count
  held_below id held = All-keys-has (λ other. other < count) id slots table.below held

-- what stands in a vector at the place of an identifier: `items` is what the vector has, `slots` how the table is seen
module _ (count : ℕ) (items slots : Slots) (same : items ≡ slots) (table : IsTable count slots) (id at : ℕ) (is_place : at ≡ index_for id slots) where
  at_place : at ≡ index_for id items
  at_place = is_place ∙ ap (index_for id) (sym same)

  ascends : rises_from 0 (keys items) ≡ true
  ascends = subst (λ (xs : Slots). rises_from 0 (keys xs) ≡ true) (sym same) table.ascending

  is_held : has slots id ≡ true → has items id ≡ true
  is_held held = subst (λ (xs : Slots). has xs id ≡ true) (sym same) held

  pub there : has slots id ≡ true → at < length items
  there held = subst (λ n. n < length items) (sym at_place) (held_place id items ascends (is_held held))

  has_key : has slots id ≡ true → (m : ℕ × Slot) → m ≡ get_or items at m → m.0 ≡ id
  has_key held m read = ap (λ (p : ℕ × Slot). p.0) (read ∙ ap (λ n. get_or items n m) at_place) ∙ (held_at id items m ascends (is_held held)).1

  pub put_there : has slots id ≡ true → (slot : Slot) (m : ℕ × Slot) → m ≡ get_or items at m → set items at (m.0, slot) ≡ with_value id slot slots
  put_there held slot m read = written id slot items at m m at_place (there held) read (has_key held m read) read ∙ ap (with_value id slot) same

  pub put_stays : has slots id ≡ true → (slot : Slot) → TellsApart id slot slots → (m : ℕ × Slot) → m ≡ get_or items at m → IsTable count (set items at (m.0, slot))
  put_stays held slot apart m read = subst (IsTable count) (sym (put_there held slot m read)) (stays_with count slots table id slot (held_below count slots table id held) apart)

  -- a pair can be put in at its place
  pub place_within : at ≤ length items
  place_within = subst (λ n. n ≤ length items) (sym at_place) (position_or_len_le (λ pair. leb id pair.0) items)

  -- a slot that is put in there is the identifier's, where it is free
  pub told_there : has slots id ≡ false → (slot : Slot) (new : Slots) → new ≡ insert items at (id, slot) → new ≡ with_value id slot slots
  told_there free slot new is =
      let absent : has items id ≡ false = subst (λ (xs : Slots). has xs id ≡ false) (sym same) free in
      is
      ∙ inserted id slot items at at_place (λ d within key. false≢true (sym absent ∙ sym (has_here id items at d ascends at_place within) ∙ eq-eqb (get_or items at d).0 id key))
      ∙ ap (with_value id slot) same

  pub told_stays : has slots id ≡ false → id < count → (slot : Slot) → TellsApart id slot slots → (new : Slots) → new ≡ insert items at (id, slot) → IsTable count new
  told_stays free below slot apart new is = subst (IsTable count) (sym (told_there free slot new is)) (stays_with count slots table id slot below apart)

  pub removed_there : has slots id ≡ true → (m : ℕ × Slot) (new : Slots) → new ≡ remove items at → new ≡ without id slots
  removed_there held m new is =
      let here = held_at id items m ascends (is_held held) in
      is ∙ ap (remove items) at_place ∙ remove-without id 0 items m ascends here.0 here.1 ∙ ap (without id) same

  pub removed_stays : has slots id ≡ true → (m : ℕ × Slot) (new : Slots) → new ≡ remove items at → IsTable count new
  removed_stays held m new is = subst (IsTable count) (sym (removed_there held m new is)) (stays_without count slots table id)

  pub value_there : (m : ℕ × Slot) → true ≡ ltb at (length items) → m ≡ get_or items at m → m.0 ≡ id → Some m.1 ≡ value_of slots id
  value_there m inside read key =
      let within : at < length items = ltb-true at (length items) (sym inside) in
      let read' : m ≡ get_or items (index_for id items) m = read ∙ ap (λ n. get_or items n m) at_place in
      let key' : (get_or items (index_for id items) m).0 ≡ id = ap (λ (p : ℕ × Slot). p.0) (sym read') ∙ key in
      ap (λ (p : ℕ × Slot). Some p.1) read' ∙ sym (value_of-here id items m (subst (λ n. n < length items) at_place within) key') ∙ ap (λ (xs : Slots). value_of xs id) same

  pub value_other : (m : ℕ × Slot) → true ≡ ltb at (length items) → m ≡ get_or items at m → (m.0 ≡ id → ⊥) → None ≡ value_of slots id
  value_other m inside read other =
      let within : at < length items = ltb-true at (length items) (sym inside) in
      let absent : has items id ≡ false = sym (has_here id items at m ascends at_place within) ∙ ne_eqb (get_or items at m).0 id (λ key. other (ap (λ (p : ℕ × Slot). p.0) read ∙ key)) in
      sym (value_of-absent id items absent) ∙ ap (λ (xs : Slots). value_of xs id) same

  pub value_past : false ≡ ltb at (length items) → None ≡ value_of slots id
  value_past past =
      let absent : has items id ≡ false = has_past id items at ascends at_place (ltb-false at (length items) (sym past)) in
      sym (value_of-absent id items absent) ∙ ap (λ (xs : Slots). value_of xs id) same

-- a number under which no identifier is found is not told
pub not_told : (slots : Slots) (number : ℕ) → identifier_of slots number ≡ None → is_told slots number ≡ false
not_told [] number none = refl
not_told (held ∷ slots) number none =
    (elim (tells number held.1) as (λ b. option_map (λ (pair : ℕ × Slot). pair.0) (cond b (Some held) (find (λ other. tells number other.1) slots)) ≡ None → (b || is_told slots number) ≡ false) [
      | true ↦ λ e. absurd (let bad : Some held.0 ≡ None = e in cc)
      | false ↦ λ e. not_told slots number e
    ]) none
