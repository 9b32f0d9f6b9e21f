-- What the actions of a train tell is found under its identifier once they are carried out, or the first of them.
use Rattle.std.proofs.Common.{◌≡◌, ℕ, ◌+◌, Bool, true, false, not, cond, eqb, List, [], ◌∷◌, map, take, Option, Some, None, option_and_then, refl, sym, ap, ◌∙◌, subst}
use Rattle.std.specs.List.{filter, filter_map, fold, zip, range_with_len, AllByRecursion}
use Rattle.std.proofs.lemmas.Bool.{both_ways, eq-eqb, ne_eqb}
use Rattle.rbc_track.specs.Plan.{Plan}
use Rattle.rbc_maps.specs.Maps.{has, value_of, with_value}
use Rattle.rbc_maps.specs.Numbered.{AreNumbered}
use Rattle.rbc_maps.proofs.MapValues.{value_of-absent}
use Rattle.rbc_ids.specs.declared.slot.Slot.{Slot}
use Rattle.rbc_ids.specs.declared.slot.Slot.TheVariants.{Revoking}
use Rattle.rbc_ids.specs.declared.slot.Kind.TheVariants.{Restriction}
use Rattle.rbc_ids.specs.Table.{Slots, free_identifiers, told_now}
use Rattle.rbc_settle.specs.declared.train.TrainRec.{TrainRec}
use Rattle.rbc_settle.specs.declared.change.StopChange.TheVariants as stop_change
use Rattle.rbc_settle.specs.declared.change.LimitChange.{LimitChange}
use Rattle.rbc_settle.specs.declared.change.LimitChange.TheVariants as limit_change
use Rattle.rbc_settle.specs.declared.change.ToldStop.{ToldStop}
use Rattle.rbc_settle.specs.Told.{Part}
use Rattle.rbc_settle.specs.Actions.{Action, ChangesStop, ChangesLimits, groups}
use Rattle.rbc_settle.specs.Settling.{Stops, Limits, limit_changed, carried_out, kind_of, revoke_stop, tell_stop, tell_limit, to_revoke, is_used_by, is_limit_gone, escalated, is_stop_revoked, next_to_tell, limit_to_tell, stops_revoked, stops_told, limits_revoked, limits_told, limit_changes, stop_changes, actions}
use Rattle.rbc_settle.specs.Following.{CanChange, CanChangeAll, Allows, CanFollow}
use Rattle.rbc_settle.specs.WellFormed.{number_in}
use Rattle.rbc_settle.specs.UpToDate.{HasTables}
use Rattle.rbc_settle.proofs.Concerned.{each_has}
use Rattle.rbc_settle.proofs.Follows.{can_follow, can_follow-take}
use Rattle.rbc_rule.proofs.WorldMaps.{value_of-with_value}
use Rattle.rbc_live.specs.Known.{number_under}
use Rattle.rbc_account.proofs.Elements.{each-append, each-take, each-filter, each-map, each-groups, each-passes, each-zip, each-weaker, each-always}

-- ---- which identifiers are changed

-- What is revoked was held, and what is told is told under an identifier that was free.
abbrev pub IsChangeFrom : (ℕ → Bool) → LimitChange → Type 0
IsChangeFrom held (limit_change.Revoke id) = held id ≡ true
IsChangeFrom held (limit_change.Tell id number told) = held id ≡ false

-- so are stops, and the restrictions of one message
abbrev pub IsFrom : (ℕ → Bool) → (ℕ → Bool) → Action → Type 0
IsFrom stops limits (ChangesStop (stop_change.Revoke id number)) = stops id ≡ true
IsFrom stops limits (ChangesStop (stop_change.Tell id number told)) = stops id ≡ false
IsFrom stops limits (ChangesLimits changes) = AllByRecursion (IsChangeFrom limits) changes

-- ---- a slot of an identifier that was free stays as it is told

-- the value that is put at a key is there
here : {V : Type 0} (key : ℕ) (value : V) (pairs : List (ℕ × V)) → value_of (with_value key value pairs) key ≡ Some value
here key value pairs = value_of-with_value key value pairs key ∙ ap (λ (b : Bool). cond b (Some value) (value_of pairs key)) (eq-eqb key key refl)

module _ (held : ℕ → Bool) (id : ℕ) (free : held id ≡ false) (slot : Slot) where
  -- a slot stays where another identifier's changes
  other : (key : ℕ) (value : Slot) (slots : Slots) → eqb key id ≡ false → value_of slots id ≡ Some slot → value_of (with_value key value slots) id ≡ Some slot
  other key value slots apart is = value_of-with_value key value slots id ∙ ap (λ (b : Bool). cond b (Some value) (value_of slots id)) apart ∙ is

  -- what was held is another identifier, and so is what is free now
  was_held : (key : ℕ) → held key ≡ true → eqb key id ≡ false
  was_held key there = ne_eqb key id (λ same. both_ways (held id) free (subst (λ k. held k ≡ true) same there))

  is_free : (key : ℕ) (slots : Slots) → has slots key ≡ false → value_of slots id ≡ Some slot → eqb key id ≡ false
  is_free key slots absent is =
      ne_eqb key id (λ same. absurd (let bad : Some slot ≡ None = sym is ∙ value_of-absent id slots (subst (λ k. has slots k ≡ false) same absent) in cc))

  change_stays : (stamp : ℕ) (slots : Slots) (change : LimitChange) → IsChangeFrom held change → CanChange slots change → value_of slots id ≡ Some slot
      → value_of (limit_changed stamp slots change) id ≡ Some slot
  change_stays stamp slots (limit_change.Revoke key) from can is = other key (Revoking stamp) slots (was_held key from) is
  change_stays stamp slots (limit_change.Tell key number told) from can is = other key (told_now number stamp Restriction) slots (is_free key slots can.free is) is

  changes_stay : (stamp : ℕ) (slots : Slots) (changes : List LimitChange) → AllByRecursion (IsChangeFrom held) changes → CanChangeAll stamp slots changes
      → value_of slots id ≡ Some slot → value_of (fold (limit_changed stamp) slots changes) id ≡ Some slot
  changes_stay stamp slots [] from can is = is
  changes_stay stamp slots (change ∷ changes) from can is =
      changes_stay stamp (limit_changed stamp slots change) changes from.1 can.1 (change_stays stamp slots change from.0 can.0 is)

module _ (stops limits : ℕ → Bool) (id : ℕ) (slot : Slot) where
  stop_stays : (train : TrainRec) (action : Action) → stops id ≡ false → IsFrom stops limits action → Allows train action → value_of train.stops id ≡ Some slot
      → value_of (carried_out train action).stops id ≡ Some slot
  stop_stays train (ChangesStop (stop_change.Revoke key number)) free from can is = other stops id free slot key (Revoking (train.stamp + 1)) train.stops (was_held stops id free slot key from) is
  stop_stays train (ChangesStop (stop_change.Tell key number told)) free from can is =
      other stops id free slot key (told_now number (train.stamp + 1) (kind_of told)) train.stops (is_free stops id free slot key train.stops can.free is) is
  stop_stays train (ChangesLimits changes) free from can is = is

  limit_stays : (train : TrainRec) (action : Action) → limits id ≡ false → IsFrom stops limits action → Allows train action → value_of train.limits id ≡ Some slot
      → value_of (carried_out train action).limits id ≡ Some slot
  limit_stays train (ChangesStop (stop_change.Revoke key number)) free from can is = is
  limit_stays train (ChangesStop (stop_change.Tell key number told)) free from can is = is
  limit_stays train (ChangesLimits changes) free from can is = changes_stay limits id free slot (train.stamp + 1) train.limits changes from can is

  -- through all actions
  pub stop_stays_on : (acts : List Action) (train : TrainRec) → stops id ≡ false → AllByRecursion (IsFrom stops limits) acts → CanFollow train acts → value_of train.stops id ≡ Some slot
      → value_of (fold carried_out train acts).stops id ≡ Some slot
  stop_stays_on [] train free from can is = is
  stop_stays_on (action ∷ acts) train free from can is = stop_stays_on acts (carried_out train action) free from.1 can.1 (stop_stays train action free from.0 can.0 is)

  pub limit_stays_on : (acts : List Action) (train : TrainRec) → limits id ≡ false → AllByRecursion (IsFrom stops limits) acts → CanFollow train acts → value_of train.limits id ≡ Some slot
      → value_of (fold carried_out train acts).limits id ≡ Some slot
  limit_stays_on [] train free from can is = is
  limit_stays_on (action ∷ acts) train free from can is = limit_stays_on acts (carried_out train action) free from.1 can.1 (limit_stays train action free from.0 can.0 is)

-- ---- what is told is found

-- what a change tells is under its identifier
abbrev pub IsChangeUnder : Slots → LimitChange → Type 0
IsChangeUnder slots (limit_change.Revoke id) = Unit
IsChangeUnder slots (limit_change.Tell id number told) = number_under slots id ≡ Some number

-- what an action tells is under its identifiers in the tables of a train
abbrev pub IsUnder : TrainRec → Action → Type 0
IsUnder train (ChangesStop (stop_change.Revoke id number)) = Unit
IsUnder train (ChangesStop (stop_change.Tell id number told)) = number_under train.stops id ≡ Some number
IsUnder train (ChangesLimits changes) = AllByRecursion (IsChangeUnder train.limits) changes

-- what a change tells is under its identifier where the slots stay that were free
change_under : (held : ℕ → Bool) (final : Slots) (stamp : ℕ) (slots : Slots) (change : LimitChange) → IsChangeFrom held change
    → ((id : ℕ) (slot : Slot) → held id ≡ false → value_of (limit_changed stamp slots change) id ≡ Some slot → value_of final id ≡ Some slot) → IsChangeUnder final change
change_under held final stamp slots (limit_change.Revoke id) from stays = tt
change_under held final stamp slots (limit_change.Tell id number told) from stays =
    ap (λ (o : Option Slot). option_and_then (λ slot. number_in slot) o) (stays id (told_now number stamp Restriction) from (here id (told_now number stamp Restriction) slots))

changes_under : (held : ℕ → Bool) (final : Slots) (stamp : ℕ) (slots : Slots) (changes : List LimitChange) → AllByRecursion (IsChangeFrom held) changes → CanChangeAll stamp slots changes
    → ((id : ℕ) (slot : Slot) → held id ≡ false → value_of (fold (limit_changed stamp) slots changes) id ≡ Some slot → value_of final id ≡ Some slot)
    → AllByRecursion (IsChangeUnder final) changes
changes_under held final stamp slots [] from can stays = tt
changes_under held final stamp slots (change ∷ changes) from can stays = (
  change_under held final stamp slots change from.0
      (λ id slot free is. stays id slot free (changes_stay held id free slot stamp (limit_changed stamp slots change) changes from.1 can.1 is)),
  changes_under held final stamp (limit_changed stamp slots change) changes from.1 can.1 stays,
)

module _ (stops limits : ℕ → Bool) where
  first_under : (action : Action) (acts : List Action) (train : TrainRec) → IsFrom stops limits action → AllByRecursion (IsFrom stops limits) acts → Allows train action
      → CanFollow (carried_out train action) acts → IsUnder (fold carried_out (carried_out train action) acts) action
  first_under (ChangesStop (stop_change.Revoke id number)) acts train from behind can then = tt
  first_under (ChangesStop (stop_change.Tell id number told)) acts train from behind can then =
      let slot = told_now number (train.stamp + 1) (kind_of told) in
      ap (λ (o : Option Slot). option_and_then (λ slot. number_in slot) o)
      (stop_stays_on stops limits id slot acts (carried_out train (ChangesStop (stop_change.Tell id number told))) from behind then (here id slot train.stops))
  first_under (ChangesLimits changes) acts train from behind can then =
      let after = carried_out train (ChangesLimits changes) in
      changes_under limits (fold carried_out after acts).limits (train.stamp + 1) train.limits changes from can
      (λ id slot free is. limit_stays_on stops limits id slot acts after free behind then is)

  -- what actions tell is found after them, where what they revoke was held and what they tell is told under free identifiers
  pub all_under : (acts : List Action) (train : TrainRec) → AllByRecursion (IsFrom stops limits) acts → CanFollow train acts → AllByRecursion (IsUnder (fold carried_out train acts)) acts
  all_under [] train from can = tt
  all_under (action ∷ acts) train from can = (first_under action acts train from.0 from.1 can.0 can.1, all_under acts (carried_out train action) from.1 can.1)

-- ---- the actions of a train

-- the free identifiers are not held
each_free : (count : ℕ) (slots : Slots) → AllByRecursion (λ id. has slots id ≡ false) (free_identifiers count slots)
each_free count slots =
    each-weaker (λ (id : ℕ). not (has slots id) ≡ true) (λ (id : ℕ). has slots id ≡ false) (λ id is. turned (has slots id) is)
    (free_identifiers count slots) (each-passes (λ (id : ℕ). not (has slots id)) (range_with_len 0 count))
  where
    turned : (b : Bool) → not b ≡ true → b ≡ false
    turned true is = absurd (let bad : false ≡ true = is in cc)
    turned false is = refl

-- so neither are those in pairs with what is told
each_pair_free : {T : Type 0} (count : ℕ) (slots : Slots) (wanted : List T) → AllByRecursion (λ pair. Unit × (has slots pair.1 ≡ false)) (zip wanted (free_identifiers count slots))
each_pair_free {T} count slots wanted =
    each-zip (λ (w : T). Unit) (λ (id : ℕ). has slots id ≡ false) wanted (free_identifiers count slots) (each-always (λ (w : T). Unit) (λ w. tt) wanted) (each_free count slots)

module _ (plan : Plan) (stops : Stops) (limits : Limits) (train : TrainRec) where
  abbrev From : Action → Type 0
  From = IsFrom (has train.stops) (has train.limits)

  abbrev LimitFrom : LimitChange → Type 0
  LimitFrom = IsChangeFrom (has train.limits)

  revoked_from : AllByRecursion (λ change. From (ChangesStop change)) (stops_revoked (escalated stops train) stops train)
  revoked_from =
      let slots = filter (λ held. is_used_by (is_stop_revoked stops (escalated stops train)) held.1) train.stops in
      each-map (λ change. From (ChangesStop change)) (revoke_stop (escalated stops train)) slots
      (each-filter (λ held. has train.stops held.0 ≡ true) (λ held. is_used_by (is_stop_revoked stops (escalated stops train)) held.1) train.stops (each_has train.stops))

  told_from : AllByRecursion (λ change. From (ChangesStop change)) (stops_told (escalated stops train) stops train)
  told_from =
      let wanted = filter_map (next_to_tell (escalated stops train) train) stops.active in
      let pairs = zip wanted (free_identifiers 15 train.stops) in
      each-map (λ change. From (ChangesStop change)) tell_stop pairs
      (each-weaker (λ (pair : (ℕ × ToldStop) × ℕ). Unit × (has train.stops pair.1 ≡ false)) (λ pair. From (ChangesStop (tell_stop pair))) (λ pair is. is.1) pairs
      (each_pair_free 15 train.stops wanted))

  limits_revoked_from : AllByRecursion LimitFrom (limits_revoked limits train)
  limits_revoked_from =
      let gone = is_limit_gone limits train.place in
      each-map LimitFrom limit_change.Revoke (to_revoke gone train.limits)
      (each-map (λ id. has train.limits id ≡ true) (λ (held : ℕ × Slot). held.0) (filter (λ held. is_used_by gone held.1) train.limits)
      (each-filter (λ held. has train.limits held.0 ≡ true) (λ held. is_used_by gone held.1) train.limits (each_has train.limits)))

  limits_told_from : AllByRecursion LimitFrom (limits_told plan.horizon limits train)
  limits_told_from =
      let wanted = filter_map (limit_to_tell plan.horizon train) limits.active in
      let pairs = zip wanted (free_identifiers 255 train.limits) in
      each-map LimitFrom tell_limit pairs
      (each-weaker (λ (pair : (ℕ × Part) × ℕ). Unit × (has train.limits pair.1 ≡ false)) (λ pair. LimitFrom (tell_limit pair)) (λ pair is. is.1) pairs
      (each_pair_free 255 train.limits wanted))

  -- what they revoke was held, and what they tell is told under identifiers that were free
  pub all_from : AllByRecursion From (actions plan stops limits train)
  all_from =
      let changes = limit_changes plan.horizon limits train in
      each-append From (map ChangesStop (stop_changes stops train)) (map ChangesLimits (groups changes))
      (each-map From ChangesStop (stop_changes stops train)
      (each-append (λ change. From (ChangesStop change)) (stops_revoked (escalated stops train) stops train) (stops_told (escalated stops train) stops train) revoked_from told_from))
      (each-map From ChangesLimits (groups changes)
      (each-groups LimitFrom changes (each-append LimitFrom (limits_revoked limits train) (limits_told plan.horizon limits train) limits_revoked_from limits_told_from)))

  -- so what the first of them tell, as many as there are stamps, is found after them
  pub told_is_found : (n : ℕ) → HasTables train → AreNumbered stops → AreNumbered limits
      → AllByRecursion (IsUnder (fold carried_out train (take n (actions plan stops limits train)))) (take n (actions plan stops limits train))
  told_is_found n tables h k =
      let all = actions plan stops limits train in
      all_under (has train.stops) (has train.limits) (take n all) train (each-take From n all all_from) (can_follow-take n train all (can_follow plan stops limits train tables h k))
