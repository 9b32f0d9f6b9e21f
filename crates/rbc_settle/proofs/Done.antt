-- A table for which nothing is left to do: what revoking and telling leave.
use Rattle.std.proofs.Common.{◌≡◌, ℕ, ◌⊎◌, Bool, true, false, List, [], ◌∷◌, length, Option, Some, None, refl, sym, ap, ◌∙◌, subst, inl, inr}
use Rattle.std.specs.List.{list_any, zip, AllByRecursion}
use Rattle.std.proofs.lemmas.Bool.{cases_Bool}
use Rattle.rbc_maps.specs.Maps.{keys, rises_from}
use Rattle.rbc_ids.specs.declared.slot.Kind.{Kind}
use Rattle.rbc_ids.specs.Table.{Slots, IsTable, is_told, free_identifiers}
use Rattle.rbc_settle.specs.Settling.{is_used_by, to_revoke}
use Rattle.rbc_settle.proofs.Revoking.{Clock, revoked_all, revoked_each, revoked_is, free-revoked, table-revoked, none-revoked, told-revoked, none_to_revoke, untold_each}
use Rattle.rbc_settle.proofs.AfterTelling.{told_all, IsTelling, is_telling, all_held}
use Rattle.rbc_settle.proofs.Wanted.{wanted_of, wanted-rises, wanted-untold, all_wanted, each_wanted, none_wanted}

-- no slot is used by a gone number, and each active entry is nothing to the train or told, unless no identifier is free
pub record IsDone {X T : Type 0} (count : ℕ) (gone : ℕ → Bool) (active : List (ℕ × X)) (what : ℕ × X → Option T) (slots : Slots) : Type 0 where
  pub table : IsTable count slots
  pub none_gone : list_any (λ held. is_used_by gone held.1) slots ≡ false
  pub none_left : (free_identifiers count slots ≡ []) ⊎ AllByRecursion (λ entry. (what entry ≡ None) ⊎ (is_told slots entry.0 ≡ true)) active

module _ {X T : Type 0} (gone : ℕ → Bool) (what : ℕ × X → Option T) (slots new : Slots) where
  -- what is wanted is not gone
  stay_wanted : (active : List (ℕ × X)) → AllByRecursion (λ entry. (what entry ≡ None) ⊎ (gone entry.0 ≡ false)) active
      → AllByRecursion (λ entry. is_told slots entry.0 ≡ false → (told : T) → what entry ≡ Some told → gone entry.0 ≡ false) active
  stay_wanted [] all = tt
  stay_wanted (entry ∷ active) all = (
    λ untold told some. elim all.0 [
      | inl none ↦ absurd (let bad : Some told ≡ None = sym some ∙ none in cc)
      | inr stays ↦ stays
    ],
    stay_wanted active all.1,
  )

  -- what was told stays told, and what was wanted is told
  each_done : (active : List (ℕ × X)) → ((n : ℕ) → gone n ≡ false → is_told slots n ≡ true → is_told new n ≡ true)
      → AllByRecursion (λ entry. (what entry ≡ None) ⊎ (gone entry.0 ≡ false)) active
      → AllByRecursion (λ entry. is_told slots entry.0 ≡ false → (told : T) → what entry ≡ Some told → is_told new entry.0 ≡ true) active
      → AllByRecursion (λ entry. (what entry ≡ None) ⊎ (is_told new entry.0 ≡ true)) active
  each_done [] kept stay now = tt
  each_done (entry ∷ active) kept stay now = (
    elim stay.0 [
      | inl none ↦ inl none
      | inr stays ↦ elim (cases_Bool (is_told slots entry.0)) [
        | inl told ↦ inr (kept entry.0 stays told)
        | inr untold ↦ (elim (what entry) as (λ o. what entry ≡ o → (what entry ≡ None) ⊎ (is_told new entry.0 ≡ true)) [
          | None ↦ λ is. inl is
          | Some told ↦ λ is. inr (now.0 untold told is)
        ]) refl
      ]
    ],
    each_done active kept stay.1 now.1,
  )

module _ {X T : Type 0} (clock : Clock) (kind : T → Kind) (count : ℕ) (gone : ℕ → Bool) (what : ℕ × X → Option T) (active : List (ℕ × X)) (slots : Slots) (table : IsTable count slots)
    (rises : rises_from 0 (keys active) ≡ true) (stay : AllByRecursion (λ entry. (what entry ≡ None) ⊎ (gone entry.0 ≡ false)) active) (first second : ℕ) where
  -- the table between revoking and telling, and after both
  abbrev between : Slots
  between = revoked_each clock gone first slots

  abbrev after : Slots → Slots
  after mid = told_all clock kind second (zip (wanted_of slots what active) (free_identifiers count slots)) mid

  -- what telling does
  telling : IsTelling count gone (wanted_of slots what active) between (after between)
  telling = is_telling clock kind count gone (wanted_of slots what active) (free_identifiers count slots) 0 second between (table-revoked gone clock count first slots table) (free-revoked gone clock count first slots)
      (wanted-rises slots what 0 active rises) (untold_each gone clock first slots (wanted_of slots what active) (wanted-untold slots what active))
      (all_wanted slots what (λ n. gone n ≡ false) active (stay_wanted gone what slots slots active stay)) (none-revoked gone clock first slots)

  -- it leaves nothing to do
  done_between : IsDone count gone active what (after between)
  done_between = record {
    table = telling.table;
    none_gone = telling.none_gone;
    none_left = elim telling.ends [
      | inl none_free ↦ inl none_free
      | inr all_told ↦ inr (each_done gone what slots (after between) active (λ n stays told. telling.told n (told-revoked gone clock n first slots stays ∙ told)) stay
          (each_wanted slots what (λ n. is_told (after between) n ≡ true) active all_told))
    ];
  }

  -- revoking what is gone and telling what is wanted leaves nothing to do
  pub is_done : IsDone count gone active what (after (revoked_all clock first (to_revoke gone slots) slots))
  is_done = subst (λ (mid : Slots). IsDone count gone active what (after mid)) (sym (revoked_is gone clock first 0 slots table.ascending)) done_between

module _ {X T : Type 0} (count : ℕ) (gone : ℕ → Bool) (active : List (ℕ × X)) (what : ℕ × X → Option T) (slots : Slots) (done : IsDone count gone active what slots) where
  -- nothing beside no identifiers
  no_partner : {K Y : Type 0} (ks : List K) → zip {K = K} {X = Y} ks [] ≡ []
  no_partner [] = refl
  no_partner (k ∷ ks) = refl

  -- then nothing is told
  pub none_told : zip (wanted_of slots what active) (free_identifiers count slots) ≡ []
  none_told = elim done.none_left [
    | inl none_free ↦ ap (λ (ids : List ℕ). zip (wanted_of slots what active) ids) none_free ∙ no_partner (wanted_of slots what active)
    | inr all ↦ ap (λ (ws : List (ℕ × T)). zip ws (free_identifiers count slots)) (none_wanted slots what active all)
  ]

  -- and nothing revoked
  pub none_revoked : to_revoke gone slots ≡ []
  none_revoked = none_to_revoke gone slots done.none_gone

  -- an entry is nothing to the train, or told, or each identifier is held
  abbrev pub IsToldOrFull : ℕ × X → Type 0
  IsToldOrFull entry = (what entry ≡ None) ⊎ ((is_told slots entry.0 ≡ true) ⊎ (length slots ≡ count))

  -- each one, where all are held
  each_full : length slots ≡ count → (some : List (ℕ × X)) → AllByRecursion IsToldOrFull some
  each_full full [] = tt
  each_full full (entry ∷ some) = (inr (inr full), each_full full some)

  -- and where each that concerns the train is told
  each_told : (some : List (ℕ × X)) → AllByRecursion (λ entry. (what entry ≡ None) ⊎ (is_told slots entry.0 ≡ true)) some → AllByRecursion IsToldOrFull some
  each_told [] all = tt
  each_told (entry ∷ some) all = (elim all.0 [ inl nothing ↦ inl nothing | inr told ↦ inr (inl told) ], each_told some all.1)

  -- so each active entry
  pub told_or_full : AllByRecursion IsToldOrFull active
  told_or_full = elim done.none_left [
    | inl none_free ↦ each_full (all_held count slots done.table none_free) active
    | inr all ↦ each_told active all
  ]
