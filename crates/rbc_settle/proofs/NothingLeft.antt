-- Nothing is to be done to a train that is up to date.
use Rattle.std.proofs.Common.{◌≡◌, ℕ, ◌⊎◌, Bool, true, false, cond, List, [], ◌∷◌, length, Option, Some, None, refl, ap, sym, map, ◌∙◌, arith, inl, inr}
use Rattle.std.specs.List.{AllByRecursion, list_any, slice_get, zip}
use Rattle.std.proofs.lemmas.Bool.{cases_eq, or_from, le-ltb}
use Rattle.std.proofs.lemmas.List.Elements.{recursion_from_All}
use Rattle.rbc_zones.specs.Placing.{Place}
use Rattle.rbc_ids.specs.Table.{Slots, IsTable, is_told, free_identifiers}
use Rattle.rbc_ids.proofs.Gaps.{run, least_free-run, run_is_all}
use Rattle.rbc_zones.specs.declared.segment.Segment.{Segment}
use Rattle.rbc_zones.specs.declared.stop_meaning.Concern.TheVariants as concern
use Rattle.rbc_settle.specs.declared.train.TrainRec.{TrainRec}
use Rattle.rbc_settle.specs.Settling.{told_stop, is_used_by, is_stop_gone, is_limit_gone, due_number}
use Rattle.rbc_settle.specs.UpToDate.{IsToldIfItCan, IsLimitToldIfItCan, NothingIsLeftToDo}
use Rattle.rbc_settle.proofs.Done.{IsDone}
use Rattle.rbc_settle.proofs.Judging.{none_paired}
use Rattle.rbc_settle.proofs.NoneDue.{none_due_from}
use Rattle.rbc_settle.proofs.Achieves.{no_actions}
use Rattle.rbc_settle.proofs.Concerned.{told_as, limit_as}

-- a list without a first one is empty
pub empty : (xs : List ℕ) → slice_get xs 0 ≡ None → xs ≡ []
empty [] e = refl
empty (x ∷ xs) e = absurd (let bad : Some x ≡ None = e in cc)

-- no identifier is free where all are held
none_free : (count : ℕ) (slots : Slots) → IsTable count slots → length slots ≡ count → free_identifiers count slots ≡ []
none_free count slots table full =
    let all : run 0 slots ≡ count = run_is_all count slots table full in
    empty (free_identifiers count slots) (least_free-run count slots table ∙ ap (λ (b : Bool). cond b (Some (run 0 slots)) None) (le-ltb (run 0 slots) count (omega (arith, all))))

-- nothing is paired with a free identifier where all are held
pub nothing_free : {A K : Type 0} (make : K × ℕ → A) (wanted : List K) (count : ℕ) (slots : Slots) → IsTable count slots → length slots ≡ count
    → [] ≡ map make (zip wanted (free_identifiers count slots))
nothing_free make wanted count slots table full =
    none_paired make wanted (free_identifiers count slots) None true refl refl (sym (ap (λ (xs : List ℕ). slice_get xs 0) (none_free count slots table full)))

-- where each slot fails a test none passes it
pub none_passes : (gone : ℕ → Bool) (slots : Slots) → AllByRecursion (λ held. is_used_by gone held.1 ≡ false) slots → list_any (λ held. is_used_by gone held.1) slots ≡ false
none_passes gone [] all = refl
none_passes gone (held ∷ slots) all = or_from (is_used_by gone held.1) (list_any (λ other. is_used_by gone other.1) slots) all.0 (none_passes gone slots all.1)

module _ {X T : Type 0} (count : ℕ) (gone : ℕ → Bool) (active : List (ℕ × X)) (what : ℕ × X → Option T) (slots : Slots) where
  -- each entry is nothing to the train or told where an identifier is free
  told_with_room : (length slots ≡ count → ⊥) → (some : List (ℕ × X)) → AllByRecursion (λ entry. (what entry ≡ None) ⊎ ((is_told slots entry.0 ≡ true) ⊎ (length slots ≡ count))) some
      → AllByRecursion (λ entry. (what entry ≡ None) ⊎ (is_told slots entry.0 ≡ true)) some
  told_with_room room [] all = tt
  told_with_room room (entry ∷ some) all = (
    elim all.0 [
      | inl nothing ↦ inl nothing
      | inr more ↦ elim more [ inl told ↦ inr told | inr full ↦ absurd (room full) ]
    ],
    told_with_room room some all.1,
  )

  -- so nothing is left to do for its table
  done_from : IsTable count slots → AllByRecursion (λ held. is_used_by gone held.1 ≡ false) slots → AllByRecursion (λ entry. (what entry ≡ None) ⊎ ((is_told slots entry.0 ≡ true) ⊎ (length slots ≡ count))) active
      → IsDone count gone active what slots
  done_from table none told = record {
    table = table;
    none_gone = none_passes gone slots none;
    none_left = elim (cases_eq (length slots) count) [
      | inl full ↦ inl (none_free count slots table full)
      | inr room ↦ inr (told_with_room room active told)
    ];
  }

-- a stop that is nothing to the train is not told
pub told_as_nothing : (place : Option Place) → told_stop place concern.None ≡ None
told_as_nothing None = refl
told_as_nothing (Some p) = refl

stops_told_or_full : (train : TrainRec) (some : List (ℕ × List Segment)) → AllByRecursion (IsToldIfItCan train) some
    → AllByRecursion (λ stop. (told_as train.place train.forced stop ≡ None) ⊎ ((is_told train.stops stop.0 ≡ true) ⊎ (length train.stops ≡ 15))) some
stops_told_or_full train [] all = tt
stops_told_or_full train (stop ∷ some) all = (
  elim all.0 [
    | inl nothing ↦ inl (ap (told_stop train.place) nothing ∙ told_as_nothing train.place)
    | inr more ↦ inr more
  ],
  stops_told_or_full train some all.1,
)

-- so there is no action
pub nothing_left : NothingIsLeftToDo
nothing_left plan stops limits train up tables = no_actions plan stops limits train (record {
  stops = done_from 15 (is_stop_gone stops) stops.active (told_as train.place train.forced) train.stops tables.stops
      (recursion_from_All (λ held. is_used_by (is_stop_gone stops) held.1 ≡ false) train.stops up.no_stop_gone)
      (stops_told_or_full train stops.active (recursion_from_All (IsToldIfItCan train) stops.active up.told));
  limits = done_from 255 (is_limit_gone limits train.place) limits.active (limit_as plan.horizon train.place) train.limits tables.limits
      (recursion_from_All (λ held. is_used_by (is_limit_gone limits train.place) held.1 ≡ false) train.limits up.no_limit_gone)
      (recursion_from_All (IsLimitToldIfItCan plan.horizon train) limits.active up.limits_told);
  due = elim up.none_due [
    | inl none ↦ inr (none_due_from stops train.stops (recursion_from_All (λ held. due_number stops held.1 ≡ None) train.stops none))
    | inr full ↦ inl (none_free 15 train.stops tables.stops full)
  ];
})
