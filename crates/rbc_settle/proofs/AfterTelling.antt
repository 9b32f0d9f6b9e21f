-- A table after some numbers are told, each under the least identifier that is free.
use Rattle.std.proofs.Common.{◌≡◌, ℕ, zero, suc, ◌+◌, ◌<◌, ◌≤◌, ◌⊎◌, Bool, true, false, not, cond, ◌||◌, eqb, leb, List, [], ◌∷◌, length, Some, None, refl, sym, ap, ◌∙◌, subst, arith, inl, inr}
use Rattle.std.specs.List.{filter, list_any, range_with_len, slice_get, zip, AllByRecursion}
use Rattle.std.proofs.lemmas.Bool.{cases_lt, or_from, or_left, or_right, and_parts, leb-true, lt-ltb, eq-eqb, ne_eqb}
use Rattle.rbc_maps.specs.Maps.{has, with_value, keys, rises_from}
use Rattle.rbc_maps.proofs.MapFacts.{any-with_value}
use Rattle.rbc_ids.specs.declared.slot.Slot.{Slot}
use Rattle.rbc_ids.specs.declared.slot.Kind.{Kind}
use Rattle.rbc_ids.specs.Table.{Slots, IsTable, TellsApart, tells, is_told, free_identifiers, told_now}
use Rattle.rbc_ids.proofs.Tables.{stays_with}
use Rattle.rbc_ids.proofs.Once.{apart-told}
use Rattle.rbc_ids.proofs.Gaps.{run, least_free-run, run_below, all_from_run}
use Rattle.rbc_settle.specs.Settling.{is_used_by}
use Rattle.rbc_settle.specs.Following.{CanTell}
use Rattle.rbc_settle.proofs.Revoking.{Clock}

-- the table after that
abbrev pub told_all : {T : Type 0} → Clock → (T → Kind) → ℕ → List ((ℕ × T) × ℕ) → Slots → Slots
told_all clock kind at [] slots = slots
told_all clock kind at (((number, told), id) ∷ pairs) slots = told_all clock kind (at + 1) pairs (with_value id (told_now number (clock at) (kind told)) slots)

-- the first that is not held is not held
first_free : (held : ℕ → Bool) (xs : List ℕ) (id : ℕ) (ids : List ℕ) → filter (λ q. not (held q)) xs ≡ id ∷ ids → held id ≡ false
first_free held [] id ids e = absurd (let bad : [] ≡ id ∷ ids = e in cc)
first_free held (x ∷ xs) id ids e =
    (elim (held x) as (λ b. held x ≡ b → cond (not b) (x ∷ filter (λ q. not (held q)) xs) (filter (λ q. not (held q)) xs) ≡ id ∷ ids → held id ≡ false) [
      | true ↦ λ is f. first_free held xs id ids f
      | false ↦ λ is f.
          let both : x ∷ filter (λ q. not (held q)) xs ≡ id ∷ ids = f in
          let same : x ≡ id = cc in
          subst (λ q. held q ≡ false) same is
    ]) refl e

-- the first of some numbers in a row that passes a test is one of them
first_below : (test : ℕ → Bool) (least count : ℕ) (id : ℕ) (ids : List ℕ) → filter test (range_with_len least count) ≡ id ∷ ids → id < least + count
first_below test least zero id ids e = absurd (let bad : [] ≡ id ∷ ids = e in cc)
first_below test least (suc count) id ids e =
    (elim (test least) as (λ b. cond b (least ∷ filter test (range_with_len (least + 1) count)) (filter test (range_with_len (least + 1) count)) ≡ id ∷ ids → id < least + suc count) [
      | true ↦ λ f.
          let both : least ∷ filter test (range_with_len (least + 1) count) ≡ id ∷ ids = f in
          let same : least ≡ id = cc in
          omega (arith, same)
      | false ↦ λ f. let rest = first_below test (least + 1) count id ids f in omega (arith, rest)
    ]) e

module _ (held after : ℕ → Bool) where
  -- where the same are held from a number on, the same are free
  free_above : (least count : ℕ) → ((q : ℕ) → least ≤ q → after q ≡ held q) → filter (λ q. not (after q)) (range_with_len least count) ≡ filter (λ q. not (held q)) (range_with_len least count)
  free_above least zero agree = refl
  free_above least (suc count) agree =
      ap (λ (b : Bool). cond (not b) (least ∷ filter (λ q. not (after q)) (range_with_len (least + 1) count)) (filter (λ q. not (after q)) (range_with_len (least + 1) count))) (agree least (omega arith))
      ∙ ap (λ (xs : List ℕ). cond (not (held least)) (least ∷ xs) xs) (free_above (least + 1) count (λ q le. agree q (omega (arith, le))))

  -- once the first free one is held, the others are free
  free_next : (id : ℕ) (ids : List ℕ) → ((q : ℕ) → after q ≡ (eqb id q || held q)) → (least count : ℕ) → filter (λ q. not (held q)) (range_with_len least count) ≡ id ∷ ids → filter (λ q. not (after q)) (range_with_len least count) ≡ ids
  free_next id ids adds least zero e = absurd (let bad : [] ≡ id ∷ ids = e in cc)
  free_next id ids adds least (suc count) e =
      let before = filter (λ q. not (held q)) (range_with_len (least + 1) count) in
      let behind = filter (λ q. not (after q)) (range_with_len (least + 1) count) in
      (elim (held least) as (λ b. held least ≡ b → cond (not b) (least ∷ before) before ≡ id ∷ ids → cond (not (after least)) (least ∷ behind) behind ≡ ids) [
        | true ↦ λ is f.
            ap (λ (b : Bool). cond (not b) (least ∷ behind) behind) (adds least ∙ or_right (eqb id least) (held least) is)
            ∙ free_next id ids adds (least + 1) count f
        | false ↦ λ is f.
            let both : least ∷ filter (λ q. not (held q)) (range_with_len (least + 1) count) ≡ id ∷ ids = f in
            let same : least ≡ id = cc in
            let tail : filter (λ q. not (held q)) (range_with_len (least + 1) count) ≡ ids = cc in
            ap (λ (b : Bool). cond (not b) (least ∷ behind) behind) (adds least ∙ or_left (eqb id least) (held least) (eq-eqb id least (sym same)))
            ∙ free_above (least + 1) count (λ q le. adds q ∙ ap (λ (b : Bool). b || held q) (ne_eqb id q (λ equal. absurd (omega (arith, le, equal, same)))))
            ∙ tail
      ]) refl e

module _ (count : ℕ) (slots : Slots) (id : ℕ) (ids : List ℕ) (free : free_identifiers count slots ≡ id ∷ ids) where
  -- the first free identifier is not held
  pub absent : has slots id ≡ false
  absent = first_free (has slots) (range_with_len 0 count) id ids free

  -- it is one of the table's
  below : id < count
  below = let within = first_below (λ q. not (has slots q)) 0 count id ids free in omega (arith, within)

  -- a number that is not told may be told under it
  pub can_tell : (number : ℕ) → is_told slots number ≡ false → CanTell count slots id number
  can_tell number untold = record { below = below; free = absent; untold = untold }

  -- once it is held, the others are free
  pub free_after : (slot : Slot) → free_identifiers count (with_value id slot slots) ≡ ids
  free_after slot = free_next (has slots) (has (with_value id slot slots)) id ids (λ q. any-with_value id slot (λ pair. eqb pair.0 q) slots absent) 0 count free

  -- and the table is still one
  pub table_after : (slot : Slot) → TellsApart id slot slots → IsTable count slots → IsTable count (with_value id slot slots)
  table_after slot apart table = stays_with count slots table id slot below apart

  -- a number told under it is told, and the others are as before
  pub told_after : (number stamp : ℕ) (kind : Kind) (n : ℕ) → is_told (with_value id (told_now number stamp kind) slots) n ≡ (eqb number n || is_told slots n)
  told_after number stamp kind n = any-with_value id (told_now number stamp kind) (λ held. tells n held.1) slots absent

  -- higher numbers are still not told
  pub untold_above : {T : Type 0} (number stamp least : ℕ) (kind : Kind) (wanted : List (ℕ × T)) → number < least → rises_from least (keys wanted) ≡ true
      → AllByRecursion (λ w. is_told slots w.0 ≡ false) wanted → AllByRecursion (λ w. is_told (with_value id (told_now number stamp kind) slots) w.0 ≡ false) wanted
  untold_above number stamp least kind [] below rises all = tt
  untold_above number stamp least kind (w ∷ wanted) below rises all =
      let parts = and_parts (leb least w.0) (rises_from (w.0 + 1) (keys wanted)) rises in
      let above : least ≤ w.0 = leb-true least w.0 parts.0 in (
        told_after number stamp kind w.0 ∙ or_from (eqb number w.0) (is_told slots w.0) (ne_eqb number w.0 (λ same. absurd (omega (arith, same, above, below)))) all.0,
        untold_above number stamp (w.0 + 1) kind wanted (omega (arith, above, below)) parts.1 all.1,
      )

-- what telling leaves: all that was told, no slot of a gone number, and each wanted number told unless the identifiers ran out
pub record IsTelling {T : Type 0} (count : ℕ) (gone : ℕ → Bool) (wanted : List (ℕ × T)) (old new : Slots) : Type 0 where
  pub table : IsTable count new
  pub told : (n : ℕ) → is_told old n ≡ true → is_told new n ≡ true
  pub none_gone : list_any (λ held. is_used_by gone held.1) new ≡ false
  pub ends : (free_identifiers count new ≡ []) ⊎ AllByRecursion (λ w. is_told new w.0 ≡ true) wanted

module _ {T : Type 0} (clock : Clock) (kind : T → Kind) (count : ℕ) (gone : ℕ → Bool) where
  -- telling in the order of the free identifiers leaves that
  pub is_telling : (wanted : List (ℕ × T)) (ids : List ℕ) (least at : ℕ) (slots : Slots) → IsTable count slots → free_identifiers count slots ≡ ids
      → rises_from least (keys wanted) ≡ true → AllByRecursion (λ w. is_told slots w.0 ≡ false) wanted
      → AllByRecursion (λ w. gone w.0 ≡ false) wanted → list_any (λ held. is_used_by gone held.1) slots ≡ false
      → IsTelling count gone wanted slots (told_all clock kind at (zip wanted ids) slots)
  is_telling [] ids least at slots table free rises untold stay none = record { table = table; told = λ n h. h; none_gone = none; ends = inr tt }
  is_telling (w ∷ wanted) [] least at slots table free rises untold stay none = record { table = table; told = λ n h. h; none_gone = none; ends = inl free }
  is_telling ((number, told) ∷ wanted) (id ∷ ids) least at slots table free rises untold stay none =
      let slot = told_now number (clock at) (kind told) in
      let parts = and_parts (leb least number) (rises_from (number + 1) (keys wanted)) rises in
      let apart = apart-told id number (clock at) (kind told) slots untold.0 in
      let rest = is_telling wanted ids (number + 1) (at + 1) (with_value id slot slots) (table_after count slots id ids free slot apart table) (free_after count slots id ids free slot) parts.1
      (untold_above count slots id ids free number (clock at) (number + 1) (kind told) wanted (omega arith) parts.1 untold.1) stay.1
      (any-with_value id slot (λ held. is_used_by gone held.1) slots (absent count slots id ids free) ∙ or_from (gone number) (list_any (λ held. is_used_by gone held.1) slots) stay.0 none) in
      let adds = told_after count slots id ids free number (clock at) (kind told) in
      record {
        table = rest.table;
        told = λ n h. rest.told n (adds n ∙ or_right (eqb number n) (is_told slots n) h);
        none_gone = rest.none_gone;
        ends = elim rest.ends [
          | inl none_free ↦ inl none_free
          | inr all_told ↦ inr (rest.told number (adds number ∙ or_left (eqb number number) (is_told slots number) (eq-eqb number number refl)), all_told)
        ];
      }

-- where as many numbers are told as identifiers are free, none is free then
pub none_free_then : {T : Type 0} (clock : Clock) (kind : T → Kind) (count : ℕ) (wanted : List (ℕ × T)) (ids : List ℕ) (at : ℕ) (slots : Slots) → length ids ≤ length wanted → free_identifiers count slots ≡ ids
    → free_identifiers count (told_all clock kind at (zip wanted ids) slots) ≡ []
none_free_then clock kind count [] [] at slots many free = free
none_free_then clock kind count [] (id ∷ ids) at slots many free = absurd (omega (arith, many))
none_free_then clock kind count (w ∷ wanted) [] at slots many free = free
none_free_then clock kind count ((number, told) ∷ wanted) (id ∷ ids) at slots many free =
    none_free_then clock kind count wanted ids (at + 1) (with_value id (told_now number (clock at) (kind told)) slots) (omega (arith, many)) (free_after count slots id ids free (told_now number (clock at) (kind told)))

-- where no identifier is free all are held
pub all_held : (count : ℕ) (slots : Slots) → IsTable count slots → free_identifiers count slots ≡ [] → length slots ≡ count
all_held count slots table none_free = elim (cases_lt (run 0 slots) count) [
  | inl below ↦ absurd (let bad : Some (run 0 slots) ≡ None = sym (ap (λ (b : Bool). cond b (Some (run 0 slots)) None) (lt-ltb (run 0 slots) count below)) ∙ sym (least_free-run count slots table) ∙ ap (λ (xs : List ℕ). slice_get xs 0) none_free in cc)
  | inr above ↦ all_from_run count slots table (let most = run_below count slots table in omega (arith, most, above))
]
