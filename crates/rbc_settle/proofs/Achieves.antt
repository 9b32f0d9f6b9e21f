-- What settling achieves.
use Rattle.std.proofs.Common.{◌≡◌, ℕ, ◌+◌, ◌-◌, ◌≤◌, ◌⊎◌, Bool, true, false, ◌||◌, List, [], ◌∷◌, ◌++◌, length, map, take, Option, None, refl, sym, ap, ◌∙◌, subst, arith, inl, inr}
use Rattle.std.specs.List.{filter, fold, scan, AllByRecursion}
use Rattle.std.proofs.lemmas.Bool.{cases_lt}
use Rattle.std.proofs.lemmas.List.{take_all, length-take-le}
use Rattle.std.proofs.lemmas.List.Elements.{All-from_recursion}
use Rattle.rbc_track.specs.Plan.{Plan}
use Rattle.rbc_zones.specs.Placing.{Place}
use Rattle.rbc_maps.specs.Numbered.{AreNumbered}
use Rattle.rbc_ids.specs.declared.slot.Kind.TheVariants.{Restriction}
use Rattle.rbc_maps.proofs.MapValues.{map_of_numbered}
use Rattle.rbc_ids.specs.Table.{Slots, free_identifiers}
use Rattle.rbc_zones.specs.declared.segment.Segment.{Segment}
use Rattle.rbc_settle.specs.declared.train.TrainRec.{TrainRec}
use Rattle.rbc_settle.specs.declared.change.StopChange.{StopChange}
use Rattle.rbc_settle.specs.declared.change.LimitChange.{LimitChange}
use Rattle.rbc_settle.specs.declared.change.LimitChange.TheVariants as limit_change
use Rattle.rbc_settle.specs.Actions.{Action}
use Rattle.rbc_settle.specs.Settling.{Stops, Limits, last_stamp, carried_out, message_of, kind_of, revoke_stop, tell_stop, tell_limit, concern_to, is_used_by, is_stop_gone, is_limit_gone, due_number, spare_identifiers, escalated, is_stop_revoked, stops_revoked, stops_told, limits_revoked, limits_told, in_messages, actions, actions_with_stamp, settled}
use Rattle.rbc_settle.specs.UpToDate.{HasTables, IsToldIfItCan, IsLimitToldIfItCan, IsUpToDate, IsUpToDateOrAtTheEnd, StaysAsItIs, SettlingTwiceIsOnce}
use Rattle.rbc_settle.proofs.Revoking.{by_one, each_not_gone, none_passes, revoked_is}
use Rattle.rbc_settle.proofs.AfterTelling.{told_all, all_held}
use Rattle.rbc_settle.proofs.Due.{dues}
use Rattle.rbc_settle.proofs.NoneDue.{each_not_due}
use Rattle.rbc_settle.proofs.Escalating.{IsNoneDueOrFull, told_table, stops_done, none_due_after}
use Rattle.rbc_settle.proofs.Done.{IsDone, IsToldOrFull, is_done, none_told, none_revoked, told_or_full}
use Rattle.rbc_settle.proofs.Carried.{stamp_after}
use Rattle.rbc_settle.proofs.Parts.{forced_then, stop_pairs, after_first, after_all, clock, revoked_before, stops_at_last, limits_at_last, place_at_last, forced_at_last}
use Rattle.rbc_settle.proofs.Concerned.{told_as, limit_as, limits_stay, nothing_told}

-- nothing is left to do to a train
pub record AreDone (horizon : ℕ) (active : Stops) (lifted : Limits) (train : TrainRec) : Type 0 where
  pub stops : IsDone 15 (is_stop_gone active) active.active (told_as train.place train.forced) train.stops
  pub limits : IsDone 255 (is_limit_gone lifted train.place) lifted.active (limit_as horizon train.place) train.limits
  pub due : IsNoneDueOrFull active train.stops

module _ (plan : Plan) (stops : Stops) (limits : Limits) (train : TrainRec) (tables : HasTables train) (h : AreNumbered stops) (k : AreNumbered limits) where
  -- the table of stops is that after revoking and telling
  told_at_last : (after_all plan stops limits train).stops ≡ told_table stops train tables.stops h (after_first plan stops limits train).stamp
  told_at_last =
      stops_at_last plan stops limits train
      ∙ ap (told_all by_one kind_of (after_first plan stops limits train).stamp (stop_pairs plan stops limits train)) (revoked_is (is_stop_revoked stops (escalated stops train)) by_one train.stamp 0 train.stops tables.stops.ascending)

  -- nothing is left to do for its stops
  stops_then : IsDone 15 (is_stop_gone stops) stops.active (told_as train.place (forced_then plan stops limits train)) (after_all plan stops limits train).stops
  stops_then = subst (λ (xs : Slots). IsDone 15 (is_stop_gone stops) stops.active (told_as train.place (forced_then plan stops limits train)) xs) (sym told_at_last)
      (stops_done stops train tables.stops h (after_first plan stops limits train).stamp)

  -- nor for its restrictions
  limits_then : IsDone 255 (is_limit_gone limits train.place) limits.active (limit_as plan.horizon train.place) (after_all plan stops limits train).limits
  limits_then = subst (λ (xs : Slots). IsDone 255 (is_limit_gone limits train.place) limits.active (limit_as plan.horizon train.place) xs) (sym (limits_at_last plan stops limits train))
      (is_done (clock plan stops limits train) (λ told. Restriction) 255 (is_limit_gone limits train.place) (limit_as plan.horizon train.place) limits.active train.limits tables.limits (map_of_numbered limits k) (limits_stay plan.horizon limits train.place k) 0 (revoked_before plan stops limits train))

  -- so nothing at all
  all_done : AreDone plan.horizon stops limits (after_all plan stops limits train)
  all_done = record {
    stops = subst (λ (p : Option Place). IsDone 15 (is_stop_gone stops) stops.active (told_as p (after_all plan stops limits train).forced) (after_all plan stops limits train).stops) (sym (place_at_last plan stops limits train))
        (subst (λ (f : List ℕ). IsDone 15 (is_stop_gone stops) stops.active (told_as train.place f) (after_all plan stops limits train).stops) (sym (forced_at_last plan stops limits train)) stops_then);
    limits = subst (λ (p : Option Place). IsDone 255 (is_limit_gone limits p) limits.active (limit_as plan.horizon p) (after_all plan stops limits train).limits) (sym (place_at_last plan stops limits train)) limits_then;
    due = subst (IsNoneDueOrFull stops) (sym told_at_last) (none_due_after stops train tables.stops h (after_first plan stops limits train).stamp);
  }

-- all actions are taken, or as many as there are stamps
all_taken : (stamps : ℕ) (train : TrainRec) (acts : List Action) → ((fold carried_out train (take stamps acts)).stamp ≡ train.stamp + stamps) ⊎ (take stamps acts ≡ acts)
all_taken stamps train acts = elim (cases_lt stamps (length acts)) [
  | inl fewer ↦
      let after = stamp_after train (take stamps acts) in
      let many : length (take stamps acts) ≡ stamps = length-take-le stamps acts (omega (arith, fewer)) in
      inl (omega (arith, after, many))
  | inr enough ↦ inr (take_all stamps acts enough)
]

-- after settling nothing is left to do, or no stamp is left
pub at_the_end : (plan : Plan) (stops : Stops) (limits : Limits) (train : TrainRec) → HasTables train → AreNumbered stops → AreNumbered limits
    → (last_stamp ≤ (settled plan stops limits train).stamp) ⊎ AreDone plan.horizon stops limits (settled plan stops limits train)
at_the_end plan stops limits train tables h k = elim (all_taken (last_stamp - train.stamp) train (actions plan stops limits train)) [
  | inl ended ↦ inl (omega (arith, ended))
  | inr all ↦ inr (subst (λ (acts : List Action). AreDone plan.horizon stops limits (fold carried_out train acts)) (sym all) (all_done plan stops limits train tables h k))
]

module _ (plan : Plan) (stops : Stops) (limits : Limits) (train : TrainRec) (done : AreDone plan.horizon stops limits train) where
  -- a stop of which nothing is told is nothing to the train
  if_it_can : (some : List (ℕ × List Segment)) → AllByRecursion (IsToldOrFull 15 (is_stop_gone stops) stops.active (told_as train.place train.forced) train.stops done.stops) some → AllByRecursion (IsToldIfItCan train) some
  if_it_can [] all = tt
  if_it_can (stop ∷ some) all = (
    elim all.0 [
      | inl nothing ↦ inl (nothing_told train.place (concern_to train stop) nothing)
      | inr told_or_full ↦ inr told_or_full
    ],
    if_it_can some all.1,
  )

  -- where nothing is left to do the train is up to date
  is_up_to_date : IsUpToDate plan stops limits train
  is_up_to_date = record {
    told = All-from_recursion (IsToldIfItCan train) stops.active (if_it_can stops.active (told_or_full 15 (is_stop_gone stops) stops.active (told_as train.place train.forced) train.stops done.stops));
    limits_told = All-from_recursion (IsLimitToldIfItCan plan.horizon train) limits.active (told_or_full 255 (is_limit_gone limits train.place) limits.active (limit_as plan.horizon train.place) train.limits done.limits);
    no_stop_gone = All-from_recursion (λ held. is_used_by (is_stop_gone stops) held.1 ≡ false) train.stops (each_not_gone (is_stop_gone stops) train.stops done.stops.none_gone);
    no_limit_gone = All-from_recursion (λ held. is_used_by (is_limit_gone limits train.place) held.1 ≡ false) train.limits (each_not_gone (is_limit_gone limits train.place) train.limits done.limits.none_gone);
    none_due = elim done.due [
      | inl none_free ↦ inr (all_held 15 train.stops done.stops.table none_free)
      | inr none ↦ inl (All-from_recursion (λ held. due_number stops held.1 ≡ None) train.stops (each_not_due stops train.stops none))
    ];
  }

-- where there is nothing to change there is no action
none_in_messages : (first second : List StopChange) (third fourth : List LimitChange) → first ≡ [] → second ≡ [] → third ≡ [] → fourth ≡ [] → in_messages (first ++ second) (third ++ fourth) ≡ []
none_in_messages first second third fourth a b c d = λ i. in_messages (a i ++ b i) (c i ++ d i)

-- where no slot is due, or no identifier is free, none is escalated
pub none_escalated : (stops : Stops) (train : TrainRec) → IsNoneDueOrFull stops train.stops → escalated stops train ≡ []
none_escalated stops train due = elim due [
  | inl none_free ↦
      let free : length (free_identifiers 15 train.stops) ≡ 0 = ap length none_free in
      let none : spare_identifiers stops train ≡ 0 = omega (arith, free) in
      ap (λ (n : ℕ). take n (dues stops train.stops)) none
  | inr none ↦ ap (take (spare_identifiers stops train)) none ∙ take_all (spare_identifiers stops train) [] (omega arith)
]

-- where none is escalated, a stop is revoked if it is gone
pub revoked_as_gone : (stops : Stops) → is_stop_revoked stops [] ≡ is_stop_gone stops
revoked_as_gone stops = λ i n. alone (is_stop_gone stops n) i
  where
    alone : (a : Bool) → (a || false) ≡ a
    alone true = refl
    alone false = refl

-- and the others are told that have to be
pub no_stops_left : (stops : Stops) (train : TrainRec) → IsDone 15 (is_stop_gone stops) stops.active (told_as train.place train.forced) train.stops → (stops_revoked [] stops train ≡ []) × (stops_told [] stops train ≡ [])
no_stops_left stops train done =
    let none : filter (λ held. is_used_by (is_stop_gone stops) held.1) train.stops ≡ [] = none_passes (is_stop_gone stops) train.stops done.none_gone in (
      ap (λ (gone : ℕ → Bool). map (revoke_stop []) (filter (λ held. is_used_by gone held.1) train.stops)) (revoked_as_gone stops) ∙ ap (map (revoke_stop [])) none,
      ap (map tell_stop) (none_told 15 (is_stop_gone stops) stops.active (told_as train.place train.forced) train.stops done),
    )

-- where nothing is left to do there is no action
pub no_actions : (plan : Plan) (stops : Stops) (limits : Limits) (train : TrainRec) → AreDone plan.horizon stops limits train → actions plan stops limits train ≡ []
no_actions plan stops limits train done =
    let limit_gone = is_limit_gone limits train.place in
    let none = none_escalated stops train done.due in
    let stops_left = no_stops_left stops train done.stops in
    none_in_messages (stops_revoked (escalated stops train) stops train) (stops_told (escalated stops train) stops train) (limits_revoked limits train) (limits_told plan.horizon limits train)
    (ap (λ (forced_now : List ℕ). stops_revoked forced_now stops train) none ∙ stops_left.0)
    (ap (λ (forced_now : List ℕ). stops_told forced_now stops train) none ∙ stops_left.1)
    (ap (map limit_change.Revoke) (none_revoked 255 limit_gone limits.active (limit_as plan.horizon train.place) train.limits done.limits))
    (ap (map tell_limit) (none_told 255 limit_gone limits.active (limit_as plan.horizon train.place) train.limits done.limits))

-- no stamp, no action
no_room : (room : ℕ) (acts : List Action) → room ≡ 0 → take room acts ≡ []
no_room room acts e = ap (λ (n : ℕ). take n acts) e

-- and of none, none
none_of_none : (room : ℕ) (acts : List Action) → acts ≡ [] → take room acts ≡ []
none_of_none room acts e = ap (take room) e ∙ take_all room [] (omega arith)

-- a train for which nothing is left to do stays as it is
stays : (plan : Plan) (stops : Stops) (limits : Limits) (train : TrainRec) → (last_stamp ≤ train.stamp) ⊎ AreDone plan.horizon stops limits train → StaysAsItIs plan stops limits train
stays plan stops limits train h =
    let none : actions_with_stamp plan stops limits train ≡ [] = elim h [
      | inl ended ↦ no_room (last_stamp - train.stamp) (actions plan stops limits train) (omega (arith, ended))
      | inr done ↦ none_of_none (last_stamp - train.stamp) (actions plan stops limits train) (no_actions plan stops limits train done)
    ] in
    record { same = ap (fold carried_out train) none; nothing = ap (scan carried_out message_of train) none }

-- a settled train is up to date, or has no stamp left
pub up_to_date : (plan : Plan) (stops : Stops) (limits : Limits) (train : TrainRec) → HasTables train → AreNumbered stops → AreNumbered limits → IsUpToDateOrAtTheEnd plan stops limits (settled plan stops limits train)
up_to_date plan stops limits train tables h k = elim (at_the_end plan stops limits train tables h k) [
  | inl ended ↦ inl ended
  | inr done ↦ inr (is_up_to_date plan stops limits (settled plan stops limits train) done)
]

-- settled again it stays as it is
pub settled_twice : SettlingTwiceIsOnce
settled_twice plan stops limits train tables h k = stays plan stops limits (settled plan stops limits train) (at_the_end plan stops limits train tables h k)
