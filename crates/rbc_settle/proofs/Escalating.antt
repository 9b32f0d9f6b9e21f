-- The stops of a train, once those that are escalated were revoked: what is told then, and that nothing is left to do.
use Rattle.std.proofs.Common.{◌≡◌, ℕ, ◌+◌, ◌<◌, ◌≤◌, ◌⊎◌, Bool, true, false, not, cond, ◌||◌, ◌&&◌, eqb, List, [], ◌∷◌, length, Option, Some, None, option_map, refl, sym, ap, ◌∙◌, subst, arith, inl, inr}
use Rattle.std.specs.List.{filter, filter_map, cons_option, fold, list_any, zip, AllByRecursion}
use Rattle.std.proofs.lemmas.Bool.{cases_Bool, cases_lt, or_right, or_from, or_parts}
use Rattle.std.proofs.lemmas.List.{take_all, length-take-le}
use Rattle.rbc_zones.specs.Placing.{Place}
use Rattle.rbc_maps.specs.Maps.{has}
use Rattle.rbc_maps.specs.Numbered.{AreNumbered}
use Rattle.rbc_maps.proofs.MapValues.{map_of_numbered}
use Rattle.rbc_ids.specs.Table.{Slots, IsTable, is_told, free_identifiers}
use Rattle.rbc_zones.specs.declared.segment.Segment.{Segment}
use Rattle.rbc_zones.specs.Concerns.{concern_of}
use Rattle.rbc_settle.specs.declared.train.TrainRec.{TrainRec}
use Rattle.rbc_settle.specs.declared.change.ToldStop.{ToldStop}
use Rattle.rbc_settle.specs.declared.change.ToldStop.TheVariants.{AtOnce}
use Rattle.rbc_settle.specs.Numbers.{has_number, and_number}
use Rattle.rbc_settle.specs.Settling.{Stops, kind_of, told_stop, stop_to_tell, is_used_by, to_revoke, is_stop_gone, spare_identifiers, escalated, is_stop_revoked, next_to_tell, due_number}
use Rattle.rbc_settle.proofs.ToTell.{stop_told_already}
use Rattle.rbc_settle.proofs.Due.{dues, due_is_told, distinct_dues, first_of, distinct-take, as_many_as, as_many_both}
use Rattle.rbc_settle.proofs.NoneDue.{each_not_due, none_due_from, each_due, none_due_revoked, none_due_told}
use Rattle.rbc_settle.proofs.Forcing.{has-and, forced_all, has-forced_all, told_by_revoked}
use Rattle.rbc_settle.proofs.Revoking.{by_one, revoked_all, revoked_each, free-revoked, table-revoked, none-revoked, none_of_fewer, told-revoked, untold-gone, none_to_revoke}
use Rattle.rbc_settle.proofs.AfterTelling.{told_all, none_free_then}
use Rattle.rbc_settle.proofs.Wanted.{to_tell, wanted_of}
use Rattle.rbc_settle.proofs.Done.{IsDone, is_done}
use Rattle.rbc_settle.proofs.Concerned.{told_as, each_has, stops_stay}

-- a stop that is forced is told at once
forced_at_once : (place : Option Place) (area : List Segment) → told_stop place (concern_of area true place) ≡ Some AtOnce
forced_at_once None area = refl
forced_at_once (Some p) area = refl

beside_false : (a : Bool) → (a || false) ≡ a
beside_false true = refl
beside_false false = refl

-- with some numbers more, one after another, a list has those that it had, and these
has-fold : (n : ℕ) (more forced : List ℕ) → has_number (fold (λ forced number. and_number number forced) forced more) n ≡ (has_number forced n || has_number more n)
has-fold n [] forced = sym (beside_false (has_number forced n))
has-fold n (m ∷ more) forced =
    has-fold n more (and_number m forced)
    ∙ ap (λ (b : Bool). b || has_number more n) (has-and m n forced)
    ∙ turned (eqb m n) (has_number forced n) (has_number more n)
  where
    turned : (a b c : Bool) → ((a || b) || c) ≡ (b || (a || c))
    turned true true c = refl
    turned true false c = refl
    turned false b c = refl

-- no slot is due, or no identifier is free
abbrev pub IsNoneDueOrFull : Stops → Slots → Type 0
IsNoneDueOrFull stops slots = (free_identifiers 15 slots ≡ []) ⊎ (dues stops slots ≡ [])

module _ (stops : Stops) (train : TrainRec) (table : IsTable 15 train.stops) (numbered : AreNumbered stops) where
  -- what is escalated, what is revoked, the table between revoking and telling, and what the train is told at once from then on
  abbrev forced_now : List ℕ
  forced_now = escalated stops train

  abbrev revoked : ℕ → Bool
  revoked = is_stop_revoked stops forced_now

  abbrev pub between : Slots
  between = revoked_each by_one revoked train.stamp train.stops

  abbrev pub forced_then : List ℕ
  forced_then = forced_all forced_now (filter (λ held. is_used_by revoked held.1) train.stops) train.forced

  abbrev what : ℕ × List Segment → Option ToldStop
  what = told_as train.place forced_then

  -- what is escalated is told, and active
  escalated_is_told : (n : ℕ) → has_number forced_now n ≡ true → (is_told train.stops n ≡ true) × (has stops.active n ≡ true)
  escalated_is_told n there = due_is_told stops train.stops n (first_of (spare_identifiers stops train) (dues stops train.stops) n there)

  goes : (n : ℕ) → has_number forced_now n ≡ true → revoked n ≡ true
  goes n there = or_right (is_stop_gone stops n) (has_number forced_now n) there

  -- by a slot that is revoked
  pub escalated_by_revoked : (n : ℕ) → has_number forced_now n ≡ true → is_told (filter (λ held. is_used_by revoked held.1) train.stops) n ≡ true
  escalated_by_revoked n there = told_by_revoked revoked n train.stops (goes n there) (escalated_is_told n there).0

  -- and is told at once from then on
  is_forced : (n : ℕ) → has_number forced_now n ≡ true → has_number forced_then n ≡ true
  is_forced n there =
      let told = escalated_by_revoked n there in
      has-forced_all forced_now n (filter (λ held. is_used_by revoked held.1) train.stops) train.forced
      ∙ or_right (has_number train.forced n) (has_number forced_now n && is_told (filter (λ held. is_used_by revoked held.1) train.stops) n)
      (ap (λ (b : Bool). b && is_told (filter (λ held. is_used_by revoked held.1) train.stops) n) there ∙ told)

  -- no other one is that was not before
  as_before : (n : ℕ) → has_number forced_now n ≡ false → has_number forced_then n ≡ has_number train.forced n
  as_before n absent =
      has-forced_all forced_now n (filter (λ held. is_used_by revoked held.1) train.stops) train.forced
      ∙ ap (λ (b : Bool). has_number train.forced n || (b && is_told (filter (λ held. is_used_by revoked held.1) train.stops) n)) absent
      ∙ beside_false (has_number train.forced n)

  -- so these are told at once that were, and those that are escalated
  pub forced_as_fold : (n : ℕ) → has_number forced_then n ≡ has_number (fold (λ forced number. and_number number forced) train.forced forced_now) n
  forced_as_fold n = (elim (cases_Bool (has_number forced_now n)) [
    | inl there ↦ is_forced n there ∙ sym (has-fold n forced_now train.forced ∙ or_right (has_number train.forced n) (has_number forced_now n) there)
    | inr absent ↦ as_before n absent ∙ sym (has-fold n forced_now train.forced ∙ ap (λ (b : Bool). has_number train.forced n || b) absent ∙ beside_false (has_number train.forced n))
  ])

  -- so what is told next is what has to be told between
  next_is : (stop : ℕ × List Segment) → has stops.active stop.0 ≡ true → to_tell between what stop ≡ next_to_tell forced_now train stop
  next_is stop active = elim (cases_Bool (has_number forced_now stop.0)) [
    | inl there ↦
        let untold : is_told between stop.0 ≡ false = untold-gone revoked by_one stop.0 train.stamp train.stops (goes stop.0 there) in
        let at_once : what stop ≡ Some AtOnce = ap (λ (b : Bool). told_stop train.place (concern_of stop.1 b train.place)) (is_forced stop.0 there) ∙ forced_at_once train.place stop.1 in
        ap (λ (b : Bool). cond b None (option_map (λ (told : ToldStop). (stop.0, told)) (what stop))) untold
        ∙ ap (option_map (λ (told : ToldStop). (stop.0, told))) at_once
        ∙ sym (ap (λ (b : Bool). cond b (Some (stop.0, AtOnce)) (stop_to_tell train stop)) there)
    | inr absent ↦
        let stays : revoked stop.0 ≡ false = or_from (is_stop_gone stops stop.0) (has_number forced_now stop.0) (ap not active) absent in
        ap (λ (b : Bool). cond b None (option_map (λ (told : ToldStop). (stop.0, told)) (what stop))) (told-revoked revoked by_one stop.0 train.stamp train.stops stays)
        ∙ ap (λ (b : Bool). cond (is_told train.stops stop.0) None (option_map (λ (told : ToldStop). (stop.0, told)) (told_stop train.place (concern_of stop.1 b train.place)))) (as_before stop.0 absent)
        ∙ sym (ap (λ (b : Bool). cond b (Some (stop.0, AtOnce)) (stop_to_tell train stop)) absent)
  ]

  all_next : (some : List (ℕ × List Segment)) → AllByRecursion (λ stop. has stops.active stop.0 ≡ true) some → filter_map (to_tell between what) some ≡ filter_map (next_to_tell forced_now train) some
  all_next [] there = refl
  all_next (stop ∷ some) there =
      ap (λ (o : Option (ℕ × ToldStop)). cons_option o (filter_map (to_tell between what) some)) (next_is stop there.0)
      ∙ ap (cons_option (next_to_tell forced_now train stop)) (all_next some there.1)

  pub wanted_next : wanted_of between what stops.active ≡ filter_map (next_to_tell forced_now train) stops.active
  wanted_next = all_next stops.active (each_has stops.active)

  -- the table between is one, and no slot of it is used by a stop that is not active
  table_between : IsTable 15 between
  table_between = table-revoked revoked by_one 15 train.stamp train.stops table

  none_gone_between : list_any (λ held. is_used_by (is_stop_gone stops) held.1) between ≡ false
  none_gone_between = none_of_fewer revoked (is_stop_gone stops) (λ n stays. (or_parts (is_stop_gone stops n) (has_number forced_now n) stays).0) between (none-revoked revoked by_one train.stamp train.stops)

  abbrev pub told_table : ℕ → Slots
  told_table stamp = told_all by_one kind_of stamp (zip (filter_map (next_to_tell forced_now train) stops.active) (free_identifiers 15 train.stops)) between

  -- nothing is left to do after telling
  pub stops_done : (stamp : ℕ) → IsDone 15 (is_stop_gone stops) stops.active what (told_table stamp)
  stops_done stamp =
      let gone = is_stop_gone stops in
      let ids = free-revoked revoked by_one 15 train.stamp train.stops in
      let unchanged : revoked_all by_one train.stamp (to_revoke gone between) between ≡ between = ap (λ (some : List ℕ). revoked_all by_one train.stamp some between) (none_to_revoke gone between none_gone_between) in
      let all = is_done by_one kind_of 15 gone what stops.active between table_between (map_of_numbered stops numbered) (stops_stay stops what) train.stamp stamp in
      subst (λ (wanted : List (ℕ × ToldStop)). IsDone 15 gone stops.active what (told_all by_one kind_of stamp (zip wanted (free_identifiers 15 train.stops)) between)) wanted_next
      (subst (λ (free : List ℕ). IsDone 15 gone stops.active what (told_all by_one kind_of stamp (zip (wanted_of between what stops.active) free) between)) ids
      (subst (λ (slots : Slots). IsDone 15 gone stops.active what (told_all by_one kind_of stamp (zip (wanted_of between what stops.active) (free_identifiers 15 between)) slots)) unchanged all))

  -- where some that are due are not escalated, each free identifier is needed
  all_needed : spare_identifiers stops train < length (dues stops train.stops) → length (free_identifiers 15 train.stops) ≤ length (filter_map (next_to_tell forced_now train) stops.active)
  all_needed fewer =
      let spare = spare_identifiers stops train in
      let many : length forced_now ≡ spare = length-take-le spare (dues stops train.stops) (omega (arith, fewer)) in
      let distinct = distinct-take spare (dues stops train.stops) (distinct_dues stops train.stops table.once) in
      let each = as_many_as forced_now stops.active distinct (λ n there. (escalated_is_told n there).1) in
      let both = as_many_both forced_now (λ stop. (stop.0, AtOnce)) (stop_to_tell train) stops.active (told_already stops.active) in
      let room : length (free_identifiers 15 train.stops) ≤ spare + length (filter_map (stop_to_tell train) stops.active) = omega arith in
      omega (arith, many, each, both, room)
    where
      told_already : (some : List (ℕ × List Segment)) → AllByRecursion (λ stop. has_number forced_now stop.0 ≡ true → stop_to_tell train stop ≡ None) some
      told_already [] = tt
      told_already (stop ∷ some) = ((λ there. stop_told_already train stop (escalated_is_told stop.0 there).0), told_already some)

  -- where all are, none is due between
  none_between : length (dues stops train.stops) ≤ spare_identifiers stops train → dues stops between ≡ []
  none_between enough =
      let all : forced_now ≡ dues stops train.stops = take_all (spare_identifiers stops train) (dues stops train.stops) enough in
      none_due_revoked stops by_one revoked train.stamp train.stops (each_goes all train.stops (each_due stops train.stops))
    where
      each_goes : forced_now ≡ dues stops train.stops → (some : Slots) → AllByRecursion (λ held. (n : ℕ) → due_number stops held.1 ≡ Some n → has_number (dues stops train.stops) n ≡ true) some
          → AllByRecursion (λ held. (n : ℕ) → due_number stops held.1 ≡ Some n → revoked n ≡ true) some
      each_goes all [] each = tt
      each_goes all (held ∷ some) each = ((λ n is. goes n (ap (λ (ns : List ℕ). has_number ns n) all ∙ each.0 n is)), each_goes all some each.1)

  -- so none is due after telling, or no identifier is free
  pub none_due_after : (stamp : ℕ) → IsNoneDueOrFull stops (told_table stamp)
  none_due_after stamp = elim (cases_lt (spare_identifiers stops train) (length (dues stops train.stops))) [
    | inl fewer ↦ inl (none_free_then by_one kind_of 15 (filter_map (next_to_tell forced_now train) stops.active) (free_identifiers 15 train.stops) stamp between (all_needed fewer) (free-revoked revoked by_one 15 train.stamp train.stops))
    | inr enough ↦ inr (none_due_from stops (told_table stamp) (none_due_told stops by_one kind_of stamp (zip (filter_map (next_to_tell forced_now train) stops.active) (free_identifiers 15 train.stops)) between
        (each_not_due stops between (none_between enough))))
  ]
