-- The first gap among the identifiers that are held.
use Rattle.std.proofs.Common.{◌≡◌, ◌≢◌, ℕ, zero, suc, ◌+◌, ◌<◌, ◌≤◌, Bool, true, false, not, cond, ◌||◌, ◌↔◌, Result, Ok, Err, eqb, ltb, leb, List, [], ◌∷◌, length, get_or, Some, None, refl, sym, ap, ◌∙◌, subst, arith, inl, inr}
use Rattle.std.specs.List.{All, filter, range_with_len, slice_get, position_or_len, enumerate_from, insert}
use Rattle.std.specs.Result.{IsErrAnd, IfErr}
use Rattle.std.proofs.lemmas.Bool.{cases_lt, cases_eq, or_from, or_left, and_parts, leb-true, lt-ltb, le-ltb, eq-eqb, ne_eqb, false≢true}
use Rattle.std.proofs.lemmas.List.Elements.{All-head, All-tail}
use Rattle.rbc_maps.specs.Maps.{has, index_for, keys, rises_from, with_value}
use Rattle.rbc_maps.proofs.MapPlaces.{has_here}
use Rattle.rbc_maps.proofs.MapEdits.{inserted}
use Rattle.rbc_ids.specs.declared.slot.Slot.{Slot}
use Rattle.rbc_ids.specs.declared.slot.IssueError.{IssueError}
use Rattle.rbc_ids.specs.declared.slot.IssueError.TheVariants.{Full, OutOfMemory}
use Rattle.rbc_ids.specs.Table.{Slots, IsTable, TellsApart, least_free}
use Rattle.rbc_ids.proofs.Lacking.{absent_below}
use Rattle.rbc_ids.proofs.Tables.{length_within, place_after, place_here, few, stays_with}

chosen : (n count least at : ℕ) → n < count → at ≡ least + n → Some at ≡ cond (ltb n count) (Some (least + n)) None
chosen n count least at within is = rw (lt-ltb n count within) (ap Some is)

shifted : (n count least : ℕ) → cond (ltb n count) (Some ((least + 1) + n)) None ≡ cond (ltb (suc n) (suc count)) (Some (least + suc n)) None
shifted n count least =
    let is : (least + 1) + n ≡ least + suc n = omega arith in
    elim (cases_lt n count) [
      | inl below ↦ rw (lt-ltb n count below, lt-ltb (suc n) (suc count) (omega arith)) (ap Some is)
      | inr above ↦ rw (le-ltb n count above, le-ltb (suc n) (suc count) (omega arith)) refl
    ]

module _ {V : Type 0} where
  -- how many keys from the least one on are there without a gap
  abbrev pub run : ℕ → List (ℕ × V) → ℕ
  run least pairs = position_or_len (λ entry. not (eqb entry.1.0 entry.0)) (enumerate_from least pairs)

  run_on : (least : ℕ) (pair : ℕ × V) (pairs : List (ℕ × V)) → pair.0 ≡ least → run least (pair ∷ pairs) ≡ suc (run (least + 1) pairs)
  run_on least pair pairs same = rw (eq-eqb pair.0 least same) (omega arith)

  run_ends : (least : ℕ) (pair : ℕ × V) (pairs : List (ℕ × V)) → (pair.0 ≡ least → ⊥) → run least (pair ∷ pairs) ≡ 0
  run_ends least pair pairs other = rw (ne_eqb pair.0 least other) refl

  pub run_within : (least : ℕ) (pairs : List (ℕ × V)) → run least pairs ≤ length pairs
  run_within least [] = omega arith
  run_within least (pair ∷ pairs) = elim (cases_eq pair.0 least) [
    | inl same ↦ let rest = run_within (least + 1) pairs in let on = run_on least pair pairs same in omega arith
    | inr other ↦ let ends = run_ends least pair pairs other in omega arith
  ]

  -- the key at the gap would stand there
  pub run_place : (least : ℕ) (pairs : List (ℕ × V)) → rises_from least (keys pairs) ≡ true → (key : ℕ) → key ≡ least + run least pairs → index_for key pairs ≡ run least pairs
  run_place least [] rises key is = refl
  run_place least (pair ∷ pairs) rises key is =
      let parts = and_parts (leb least pair.0) (rises_from (pair.0 + 1) (keys pairs)) rises in
      let above : least ≤ pair.0 = leb-true least pair.0 parts.0 in
      elim (cases_eq pair.0 least) [
        | inl same ↦
            let on = run_on least pair pairs same in
            let rises' : rises_from (least + 1) (keys pairs) ≡ true = subst (λ n. rises_from (n + 1) (keys pairs) ≡ true) same parts.1 in
            place_after key pair pairs (omega arith) ∙ ap suc (run_place (least + 1) pairs rises' key (omega arith)) ∙ sym on
        | inr other ↦
            let ends = run_ends least pair pairs other in
            place_here key pair pairs (omega arith) ∙ sym ends
      ]

  -- it is not there
  pub run_absent : (least : ℕ) (pairs : List (ℕ × V)) → rises_from least (keys pairs) ≡ true → (key : ℕ) → key ≡ least + run least pairs → has pairs key ≡ false
  run_absent least [] rises key is = refl
  run_absent least (pair ∷ pairs) rises key is =
      let parts = and_parts (leb least pair.0) (rises_from (pair.0 + 1) (keys pairs)) rises in
      let above : least ≤ pair.0 = leb-true least pair.0 parts.0 in
      elim (cases_eq pair.0 least) [
        | inl same ↦
            let on = run_on least pair pairs same in
            let rises' : rises_from (least + 1) (keys pairs) ≡ true = subst (λ n. rises_from (n + 1) (keys pairs) ≡ true) same parts.1 in
            or_from (eqb pair.0 key) (has pairs key) (ne_eqb pair.0 key (λ equal. absurd (omega arith))) (run_absent (least + 1) pairs rises' key (omega arith))
        | inr other ↦
            let ends = run_ends least pair pairs other in
            or_from (eqb pair.0 key) (has pairs key) (ne_eqb pair.0 key (λ equal. absurd (omega arith))) (absent_below key (pair.0 + 1) pairs (omega arith) parts.1)
      ]

  -- as many keys as there is room for leave no gap
  pub run_full : (least bound : ℕ) (pairs : List (ℕ × V)) → rises_from least (keys pairs) ≡ true → All (λ id. id < bound) (keys pairs) → least + length pairs ≡ bound → run least pairs ≡ length pairs
  run_full least bound [] rises below full = refl
  run_full least bound (pair ∷ pairs) rises below full =
      let parts = and_parts (leb least pair.0) (rises_from (pair.0 + 1) (keys pairs)) rises in
      let above : least ≤ pair.0 = leb-true least pair.0 parts.0 in
      let here : pair.0 < bound = All-head (λ id. id < bound) pair.0 (keys pairs) below in
      let below' = All-tail (λ id. id < bound) pair.0 (keys pairs) below in
      let rest : (pair.0 + 1) + length pairs ≤ bound = length_within (pair.0 + 1) bound pairs (omega arith) parts.1 below' in
      let same : pair.0 ≡ least = omega arith in
      let rises' : rises_from (least + 1) (keys pairs) ≡ true = subst (λ n. rises_from (n + 1) (keys pairs) ≡ true) same parts.1 in
      run_on least pair pairs same ∙ ap suc (run_full (least + 1) bound pairs rises' below' (omega arith))

  -- the first number that a test does not hold, where it holds those that are keys
  pub first_not_held : (held : ℕ → Bool) (count least : ℕ) (pairs : List (ℕ × V)) → rises_from least (keys pairs) ≡ true → ((id : ℕ) → least ≤ id → held id ≡ has pairs id) → slice_get (filter (λ id. not (held id)) (range_with_len least count)) 0 ≡ cond (ltb (run least pairs) count) (Some (least + run least pairs)) None
  first_not_held held zero least pairs rises agree = sym (ap (λ b. cond b (Some (least + run least pairs)) None) (le-ltb (run least pairs) 0 (omega arith)))
  first_not_held held (suc count) least [] rises agree =
      let others = filter (λ id. not (held id)) (range_with_len (least + 1) count) in
      ap (λ b. slice_get (cond (not b) (least ∷ others) others) 0) (agree least (omega arith)) ∙ chosen 0 (suc count) least least (omega arith) (omega arith)
  first_not_held held (suc count) least (pair ∷ pairs) rises agree =
      let parts = and_parts (leb least pair.0) (rises_from (pair.0 + 1) (keys pairs)) rises in
      let above : least ≤ pair.0 = leb-true least pair.0 parts.0 in
      let others = filter (λ id. not (held id)) (range_with_len (least + 1) count) in
      elim (cases_eq pair.0 least) [
        | inl same ↦
            let on = run_on least pair pairs same in
            let rises' : rises_from (least + 1) (keys pairs) ≡ true = subst (λ n. rises_from (n + 1) (keys pairs) ≡ true) same parts.1 in
            let agree' : (id : ℕ) → least + 1 ≤ id → held id ≡ has pairs id = λ id le. agree id (omega (arith, le)) ∙ ap (λ b. b || has pairs id) (ne_eqb pair.0 id (λ equal. absurd (omega (arith, le, equal)))) in
            let is_held : held least ≡ true = agree least (omega arith) ∙ or_left (eqb pair.0 least) (has pairs least) (eq-eqb pair.0 least same) in
            ap (λ b. slice_get (cond (not b) (least ∷ others) others) 0) is_held
            ∙ first_not_held held count (least + 1) pairs rises' agree'
            ∙ shifted (run (least + 1) pairs) count least
            ∙ sym (ap (λ n. cond (ltb n (suc count)) (Some (least + n)) None) on)
        | inr other ↦
            let ends = run_ends least pair pairs other in
            let absent : held least ≡ false = agree least (omega arith) ∙ or_from (eqb pair.0 least) (has pairs least) (ne_eqb pair.0 least other) (absent_below least (pair.0 + 1) pairs (omega arith) parts.1) in
            ap (λ b. slice_get (cond (not b) (least ∷ others) others) 0) absent
            ∙ chosen 0 (suc count) least least (omega arith) (omega arith)
            ∙ sym (ap (λ n. cond (ltb n (suc count)) (Some (least + n)) None) ends)
      ]

module _ (count : ℕ) (slots : Slots) (table : IsTable count slots) where
  -- the least free identifier is the one at the gap
  pub least_free-run : least_free count slots ≡ cond (ltb (run 0 slots) count) (Some (run 0 slots)) None
  least_free-run = first_not_held (has slots) count 0 slots table.ascending (λ id le. refl) ∙ ap (λ n. cond (ltb (run 0 slots) count) (Some n) None) (let e : 0 + run 0 slots ≡ run 0 slots = omega arith in e)

  pub run_below : run 0 slots ≤ count
  run_below = let within = run_within 0 slots in let most = few count slots table in omega arith

  -- there is no gap where each identifier is held
  pub run_is_all : length slots ≡ count → run 0 slots ≡ count
  run_is_all full = run_full 0 count slots table.ascending table.below (omega arith) ∙ full

  pub all_from_run : run 0 slots ≡ count → length slots ≡ count
  all_from_run full = let within = run_within 0 slots in let most = few count slots table in omega arith

  -- the identifier at the gap is issued there
  pub insert_at_run : (slot : Slot) → insert slots (run 0 slots) (run 0 slots, slot) ≡ with_value (run 0 slots) slot slots
  insert_at_run slot =
      let gap = run 0 slots in
      let is : gap ≡ index_for gap slots = sym (run_place 0 slots table.ascending gap (omega arith)) in
      let absent : has slots gap ≡ false = run_absent 0 slots table.ascending gap (omega arith) in
      inserted gap slot slots gap is (λ d within same. false≢true (sym absent ∙ sym (has_here gap slots gap d table.ascending is within) ∙ eq-eqb (get_or slots gap d).0 gap same))

  -- an insertion at the gap, into the vector `items` that holds the table
  module _ (items : Slots) (same : items ≡ slots) (gap : ℕ) (is_gap : gap ≡ run 0 slots) (room : gap ≢ count) where
    gap_below : gap < count
    gap_below = let below = run_below in omega arith

    pub least_at : least_free count slots ≡ Some gap
    least_at = least_free-run ∙ sym (ap (λ n. cond (ltb n count) (Some n) None) is_gap) ∙ ap (λ b. cond b (Some gap) None) (lt-ltb gap count gap_below)

    pub inserted_there : (slot : Slot) (new : Slots) → new ≡ insert items gap (gap, slot) → new ≡ with_value gap slot slots
    inserted_there slot new is =
        is ∙ ap (λ (xs : Slots). insert xs gap (gap, slot)) same ∙ ap (λ n. insert slots n (n, slot)) is_gap ∙ insert_at_run slot ∙ sym (ap (λ n. with_value n slot slots) is_gap)

    pub inserted_stays : (slot : Slot) → TellsApart gap slot slots → (new : Slots) → new ≡ insert items gap (gap, slot) → IsTable count new
    inserted_stays slot apart new is = subst (IsTable count) (sym (inserted_there slot new is)) (stays_with count slots table gap slot gap_below apart)

-- an error that is not `Full`, where there is room
pub full_only_where : (full : Type 0) → (full → ⊥) → (r : Result ℕ IssueError) → IsErrAnd r (λ error. error ≡ OutOfMemory) → IfErr r (λ error. (error ≡ Full) ↔ full)
full_only_where full room (Ok id) memory = tt
full_only_where full room (Err error) memory = (λ is_full. absurd (let bad : OutOfMemory ≡ Full = sym memory ∙ is_full in cc), λ is. absurd (room is))
