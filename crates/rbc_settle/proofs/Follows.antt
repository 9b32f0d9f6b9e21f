-- The actions of a train may be carried out, one after another.
use Rattle.std.proofs.Common.{◌≡◌, ℕ, zero, suc, ◌+◌, Bool, true, false, leb, List, [], ◌∷◌, ◌++◌, map, take, refl, sym, ap, ◌∙◌, subst, arith}
use Rattle.std.specs.List.{filter_map, fold, zip, AllByRecursion}
use Rattle.std.proofs.lemmas.Bool.{and_parts}
use Rattle.rbc_track.specs.Plan.{Plan}
use Rattle.rbc_maps.specs.Maps.{with_value, keys, rises_from}
use Rattle.rbc_maps.specs.Numbered.{AreNumbered}
use Rattle.rbc_maps.proofs.MapValues.{map_of_numbered}
use Rattle.rbc_ids.specs.declared.slot.Slot.TheVariants.{Revoking}
use Rattle.rbc_ids.specs.declared.slot.Kind.TheVariants.{Restriction}
use Rattle.rbc_ids.specs.Table.{Slots, IsTable, is_told, is_used_at, free_identifiers, told_now}
use Rattle.rbc_settle.specs.declared.train.TrainRec.{TrainRec}
use Rattle.rbc_settle.specs.declared.change.StopChange.TheVariants as stop_change
use Rattle.rbc_settle.specs.declared.change.LimitChange.TheVariants as limit_change
use Rattle.rbc_settle.specs.Actions.{Action, ChangesStop}
use Rattle.rbc_settle.specs.declared.change.ToldStop.{ToldStop}
use Rattle.rbc_settle.specs.Told.{Part}
use Rattle.rbc_settle.specs.Settling.{Stops, Limits, carried_out, kind_of, number_forced, revoke_stop, tell_stop, tell_limit, to_revoke, is_limit_gone, escalated, is_stop_revoked, next_to_tell, limits_revoked, limits_told, limit_changes, actions}
use Rattle.rbc_settle.specs.Following.{CanFollow}
use Rattle.rbc_settle.specs.UpToDate.{HasTables}
use Rattle.rbc_settle.proofs.Revoking.{Clock, by_one, revoked_all, revoked_each, revoked_is, free-revoked, untold-revoked, to_revoke-rises, to_revoke-used, used_above}
use Rattle.rbc_settle.proofs.Changed.{changed_all, CanChangeBy, changed-revoked, can-append, can_by_groups}
use Rattle.rbc_settle.proofs.AfterTelling.{can_tell, free_after, untold_above}
use Rattle.rbc_settle.proofs.Wanted.{wanted_of, wanted-rises, wanted-untold}
use Rattle.rbc_settle.proofs.Concerned.{told_as, limit_as}
use Rattle.rbc_settle.proofs.Escalating.{between, wanted_next}
use Rattle.rbc_settle.proofs.Parts.{forced_then, revoked_first, told_then, limits_last, three_parts, slots_revoked, after_first, after_second, to_first, limits_at_second, clock, revoked_before}

-- where some may be carried out, so may the first of them
pub can_follow-take : (n : ℕ) (train : TrainRec) (actions : List Action) → CanFollow train actions → CanFollow train (take n actions)
can_follow-take zero train actions h = tt
can_follow-take (suc n) train [] h = tt
can_follow-take (suc n) train (action ∷ actions) h = (h.0, can_follow-take n (carried_out train action) actions h.1)

-- and others after them
follow_on : (train : TrainRec) (some more : List Action) → CanFollow train some → CanFollow (fold carried_out train some) more → CanFollow train (some ++ more)
follow_on train [] more can then = then
follow_on train (action ∷ some) more can then = (can.0, follow_on (carried_out train action) some more can.1 then)

-- the first of them, and those behind them
pub follows_first : (train : TrainRec) (some more : List Action) → CanFollow train (some ++ more) → CanFollow train some
follows_first train [] more can = tt
follows_first train (action ∷ some) more can = (can.0, follows_first (carried_out train action) some more can.1)

pub follows_then : (train : TrainRec) (some more : List Action) → CanFollow train (some ++ more) → CanFollow (fold carried_out train some) more
follows_then train [] more can = can
follows_then train (action ∷ some) more can = follows_then (carried_out train action) some more can.1

-- identifiers that are used may be revoked in their order
revoke_stops : (forced_now : List ℕ) (slots : Slots) (least : ℕ) (train : TrainRec) → rises_from least (keys slots) ≡ true → AllByRecursion (λ id. is_used_at train.stops id ≡ true) (keys slots)
    → CanFollow train (map ChangesStop (map (revoke_stop forced_now) slots))
revoke_stops forced_now [] least train rises used = tt
revoke_stops forced_now ((id, slot) ∷ slots) least train rises used =
    let parts = and_parts (leb least id) (rises_from (id + 1) (keys slots)) rises in (
      used.0,
      revoke_stops forced_now slots (id + 1) (carried_out train (ChangesStop (stop_change.Revoke id (number_forced forced_now slot)))) parts.1 (used_above id (id + 1) (Revoking (train.stamp + 1)) train.stops (keys slots) (omega arith) parts.1 used.1),
    )

-- so may those of restrictions
revoke_limits : (clock : Clock) (at : ℕ) (ids : List ℕ) (least : ℕ) (slots : Slots) → rises_from least ids ≡ true → AllByRecursion (λ id. is_used_at slots id ≡ true) ids → CanChangeBy clock at slots (map limit_change.Revoke ids)
revoke_limits clock at [] least slots rises used = tt
revoke_limits clock at (id ∷ ids) least slots rises used =
    let parts = and_parts (leb least id) (rises_from (id + 1) ids) rises in
    (used.0, revoke_limits clock (at + 1) ids (id + 1) (with_value id (Revoking (clock at)) slots) parts.1 (used_above id (id + 1) (Revoking (clock at)) slots ids (omega arith) parts.1 used.1))

-- numbers that are not told may be told under the free identifiers in their order
tell_stops : (wanted : List (ℕ × ToldStop)) (ids : List ℕ) (least : ℕ) (train : TrainRec) → free_identifiers 15 train.stops ≡ ids → rises_from least (keys wanted) ≡ true
    → AllByRecursion (λ w. is_told train.stops w.0 ≡ false) wanted → CanFollow train (map ChangesStop (map tell_stop (zip wanted ids)))
tell_stops [] ids least train free rises untold = tt
tell_stops (w ∷ wanted) [] least train free rises untold = tt
tell_stops ((number, told) ∷ wanted) (id ∷ ids) least train free rises untold =
    let parts = and_parts (leb least number) (rises_from (number + 1) (keys wanted)) rises in (
      can_tell 15 train.stops id ids free number untold.0,
      tell_stops wanted ids (number + 1) (carried_out train (ChangesStop (stop_change.Tell id number told))) (free_after 15 train.stops id ids free (told_now number (train.stamp + 1) (kind_of told))) parts.1
          (untold_above 15 train.stops id ids free number (train.stamp + 1) (number + 1) (kind_of told) wanted (omega arith) parts.1 untold.1),
    )

-- so may restrictions
tell_limits : (clock : Clock) (at : ℕ) (wanted : List (ℕ × Part)) (ids : List ℕ) (least : ℕ) (slots : Slots) → free_identifiers 255 slots ≡ ids → rises_from least (keys wanted) ≡ true
    → AllByRecursion (λ w. is_told slots w.0 ≡ false) wanted → CanChangeBy clock at slots (map tell_limit (zip wanted ids))
tell_limits clock at [] ids least slots free rises untold = tt
tell_limits clock at (w ∷ wanted) [] least slots free rises untold = tt
tell_limits clock at ((number, told) ∷ wanted) (id ∷ ids) least slots free rises untold =
    let parts = and_parts (leb least number) (rises_from (number + 1) (keys wanted)) rises in (
      can_tell 255 slots id ids free number untold.0,
      tell_limits clock (at + 1) wanted ids (number + 1) (with_value id (told_now number (clock at) Restriction) slots) (free_after 255 slots id ids free (told_now number (clock at) Restriction)) parts.1
          (untold_above 255 slots id ids free number (clock at) (number + 1) Restriction wanted (omega arith) parts.1 untold.1),
    )

-- what revoking leaves of a table
module _ (gone : ℕ → Bool) (clock : Clock) (count at : ℕ) (slots new : Slots) (table : IsTable count slots) (is : new ≡ revoked_all clock at (to_revoke gone slots) slots) where
  -- each is revoked
  each : new ≡ revoked_each clock gone at slots
  each = is ∙ revoked_is gone clock at 0 slots table.ascending

  -- the same identifiers are free
  free_still : free_identifiers count new ≡ free_identifiers count slots
  free_still = ap (free_identifiers count) each ∙ free-revoked gone clock count at slots

  -- what was not told is not told
  untold_still : {T : Type 0} (wanted : List (ℕ × T)) → AllByRecursion (λ w. is_told slots w.0 ≡ false) wanted → AllByRecursion (λ w. is_told new w.0 ≡ false) wanted
  untold_still [] all = tt
  untold_still (w ∷ wanted) all = (ap (λ (xs : Slots). is_told xs w.0) each ∙ untold-revoked gone clock w.0 at slots all.0, untold_still wanted all.1)

module _ (plan : Plan) (stops : Stops) (limits : Limits) (train : TrainRec) (tables : HasTables train) (h : AreNumbered stops) (k : AreNumbered limits) where
  -- what is to be told of stops, and of restrictions
  abbrev stops_wanted : List (ℕ × ToldStop)
  stops_wanted = filter_map (next_to_tell (escalated stops train) train) stops.active

  abbrev limits_wanted : List (ℕ × Part)
  limits_wanted = wanted_of train.limits (limit_as plan.horizon train.place) limits.active

  -- stops may be revoked
  first_part : CanFollow train (revoked_first plan stops limits train)
  first_part =
      let revoked = is_stop_revoked stops (escalated stops train) in
      revoke_stops (escalated stops train) (slots_revoked plan stops limits train) 0 train (to_revoke-rises revoked 0 train.stops tables.stops.ascending) (to_revoke-used revoked train.stops)

  -- then told
  second_part : CanFollow (after_first plan stops limits train) (told_then plan stops limits train)
  second_part =
      let revoked = is_stop_revoked stops (escalated stops train) in
      let what = told_as train.place (forced_then plan stops limits train) in
      let is : (after_first plan stops limits train).stops ≡ between stops train tables.stops h =
      (to_first plan stops limits train).stops ∙ revoked_is revoked by_one train.stamp 0 train.stops tables.stops.ascending in
      let free = ap (free_identifiers 15) is ∙ free-revoked revoked by_one 15 train.stamp train.stops in
      let next = wanted_next stops train tables.stops h in
      let rises = subst (λ (wanted : List (ℕ × ToldStop)). rises_from 0 (keys wanted) ≡ true) next (wanted-rises (between stops train tables.stops h) what 0 stops.active (map_of_numbered stops h)) in
      let untold = subst (λ (slots : Slots). AllByRecursion (λ w. is_told slots w.0 ≡ false) stops_wanted) (sym is)
      (subst (λ (wanted : List (ℕ × ToldStop)). AllByRecursion (λ w. is_told (between stops train tables.stops h) w.0 ≡ false) wanted) next (wanted-untold (between stops train tables.stops h) what stops.active)) in
      tell_stops stops_wanted (free_identifiers 15 train.stops) 0 (after_first plan stops limits train) free rises untold

  -- then restrictions revoked, and told
  abbrev revoked : Slots
  revoked = changed_all (clock plan stops limits train) 0 (limits_revoked limits train) train.limits

  limits_revocable : CanChangeBy (clock plan stops limits train) 0 train.limits (limits_revoked limits train)
  limits_revocable =
      let gone = is_limit_gone limits train.place in
      revoke_limits (clock plan stops limits train) 0 (to_revoke gone train.limits) 0 train.limits (to_revoke-rises gone 0 train.limits tables.limits.ascending) (to_revoke-used gone train.limits)

  limits_tellable : CanChangeBy (clock plan stops limits train) (revoked_before plan stops limits train) revoked (limits_told plan.horizon limits train)
  limits_tellable =
      let gone = is_limit_gone limits train.place in
      let by = clock plan stops limits train in
      let is = changed-revoked by 0 (to_revoke gone train.limits) train.limits in
      let free = free_still gone by 255 0 train.limits revoked tables.limits is in
      let untold = untold_still gone by 255 0 train.limits revoked tables.limits is limits_wanted (wanted-untold train.limits (limit_as plan.horizon train.place) limits.active) in
      let rises = wanted-rises train.limits (limit_as plan.horizon train.place) 0 limits.active (map_of_numbered limits k) in
      tell_limits by (revoked_before plan stops limits train) limits_wanted (free_identifiers 255 train.limits) 0 revoked free rises untold

  third_part : CanFollow (after_second plan stops limits train) (limits_last plan stops limits train)
  third_part =
      can_by_groups (limit_changes plan.horizon limits train) (after_second plan stops limits train)
      (subst (λ (slots : Slots). CanChangeBy (clock plan stops limits train) 0 slots (limit_changes plan.horizon limits train)) (sym (limits_at_second plan stops limits train))
      (can-append (clock plan stops limits train) 0 (revoked_before plan stops limits train) (limits_revoked limits train) (limits_told plan.horizon limits train) train.limits refl limits_revocable limits_tellable))

  -- so all may be carried out
  all_parts : CanFollow train (actions plan stops limits train)
  all_parts =
      let two = follow_on train (revoked_first plan stops limits train) (told_then plan stops limits train) first_part second_part in
      subst (CanFollow train) (sym (three_parts plan stops limits train))
      (follow_on train (revoked_first plan stops limits train ++ told_then plan stops limits train) (limits_last plan stops limits train) two third_part)

-- the actions of a train may be carried out, one after another
pub can_follow : (plan : Plan) (stops : Stops) (limits : Limits) (train : TrainRec) → HasTables train → AreNumbered stops → AreNumbered limits → CanFollow train (actions plan stops limits train)
can_follow plan stops limits train tables h k = all_parts plan stops limits train tables h k
