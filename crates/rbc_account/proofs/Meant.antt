-- What the actions of a train tell is active and concerns the train as it is after them, and what they revoke was told and is gone.
use Rattle.std.proofs.Common.{◌≡◌, ◌⊎◌, ℕ, zero, suc, Bool, true, false, cond, List, [], ◌∷◌, ◌++◌, take, Option, Some, None, option_map, option_and_then, refl, sym, ap, ◌∙◌, subst, inl, inr, append_assoc}
use Rattle.std.specs.List.{filter, filter_map, cons_option, fold, zip, AllByRecursion}
use Rattle.std.proofs.lemmas.List.Sums.{fold-append}
use Rattle.rbc_track.specs.Plan.{Plan}
use Rattle.rbc_place.specs.Placing.{Place}
use Rattle.rbc_maps.specs.Maps.{value_of, keys, rises_from}
use Rattle.rbc_maps.specs.Numbered.{AreNumbered}
use Rattle.rbc_maps.proofs.MapValues.{map_of_numbered}
use Rattle.rbc_ids.specs.declared.slot.Slot.{Slot}
use Rattle.rbc_ids.specs.declared.slot.Slot.TheVariants.{Used, Revoking}
use Rattle.rbc_ids.specs.Table.{Slots, is_told, free_identifiers}
use Rattle.rbc_settle.specs.declared.train.TrainRec.{TrainRec}
use Rattle.rbc_settle.specs.declared.change.StopChange.{StopChange}
use Rattle.rbc_settle.specs.declared.change.StopChange.TheVariants as stop_change
use Rattle.rbc_settle.specs.declared.change.LimitChange.{LimitChange}
use Rattle.rbc_settle.specs.declared.change.LimitChange.TheVariants as limit_change
use Rattle.rbc_settle.specs.declared.change.ToldStop.{ToldStop}
use Rattle.rbc_settle.specs.Told.{Part}
use Rattle.rbc_settle.specs.Actions.{Action, ChangesStop, ChangesLimits, groups}
use Rattle.rbc_settle.specs.Settling.{Stops, Limits, carried_out, revoke_stop, tell_stop, tell_limit, to_revoke, is_used_by, is_limit_gone, escalated, is_stop_revoked, next_to_tell, limit_to_tell, stops_revoked, stops_told, limits_revoked, limits_told, limit_changes, actions}
use Rattle.rbc_settle.specs.WellFormed.{number_in}
use Rattle.rbc_settle.specs.UpToDate.{HasTables}
use Rattle.rbc_settle.proofs.Concerned.{told_as, limit_as, each_value}
use Rattle.rbc_settle.proofs.Wanted.{wanted_of}
use Rattle.rbc_settle.proofs.Escalating.{between, wanted_next}
use Rattle.rbc_settle.proofs.Parts.{forced_then, revoked_first, told_then, limits_last, three_parts, slots_revoked, after_first, to_first}
use Rattle.rbc_live.specs.Known.{number_under}
use Rattle.rbc_account.proofs.Elements.{each-append, each-take, each-filter, each-map, each-groups, each-passes, each-weaker, each-always, each-both}
use Rattle.rbc_rule.proofs.SettledPlaces.{place_after}

-- ---- what is meant

-- a number is told, which an active entry has, and what it is told as is what that is to the train
abbrev pub IsOfEntry : {X T : Type 0} → List (ℕ × X) → (ℕ × X → Option T) → ℕ → T → Type 0
IsOfEntry {X} active what number told = (x : X) × (value_of active number ≡ Some x) × (what (number, x) ≡ Some told)

-- a number is revoked, which is told under an identifier and is gone
abbrev pub IsGoneUnder : (ℕ → Bool) → Slots → ℕ → Type 0
IsGoneUnder gone slots id = (number : ℕ) × (number_under slots id ≡ Some number) × (gone number ≡ true)

-- so of a change to the restrictions of a train, which had these before it
abbrev pub IsChangeMeant : ℕ → Limits → Option Place → Slots → LimitChange → Type 0
IsChangeMeant horizon limits place slots (limit_change.Revoke id) = IsGoneUnder (is_limit_gone limits place) slots id
IsChangeMeant horizon limits place slots (limit_change.Tell id number told) = IsOfEntry limits.active (limit_as horizon place) number told

-- and of an action of a train, which was this before its actions, has this place, and stops at once for these stops after them
abbrev pub IsMeant : ℕ → Stops → Limits → TrainRec → Option Place → List ℕ → Action → Type 0
IsMeant horizon stops limits train place forced (ChangesStop (stop_change.Revoke id number)) = IsGoneUnder (is_stop_revoked stops (escalated stops train)) train.stops id
IsMeant horizon stops limits train place forced (ChangesStop (stop_change.Tell id number told)) = IsOfEntry stops.active (told_as place forced) number told
IsMeant horizon stops limits train place forced (ChangesLimits changes) = AllByRecursion (IsChangeMeant horizon limits place train.limits) changes

-- ---- entries that are told

module _ {X T : Type 0} (slots : Slots) (what : ℕ × X → Option T) (all : List (ℕ × X)) where
  each_of_entry : (active : List (ℕ × X)) → AllByRecursion (λ entry. value_of all entry.0 ≡ Some entry.1) active
      → AllByRecursion (λ wanted. IsOfEntry all what wanted.0 wanted.1) (wanted_of slots what active)
  each_of_entry [] h = tt
  each_of_entry (entry ∷ active) h =
      let rest = each_of_entry active h.1 in
      elim (is_told slots entry.0) as (λ b. AllByRecursion (λ wanted. IsOfEntry all what wanted.0 wanted.1) (cons_option (cond b None (option_map (λ told. (entry.0, told)) (what entry))) (wanted_of slots what active))) [
        | true ↦ rest
        | false ↦ (elim (what entry) as (λ o. what entry ≡ o → AllByRecursion (λ wanted. IsOfEntry all what wanted.0 wanted.1) (cons_option (option_map (λ told. (entry.0, told)) o) (wanted_of slots what active))) [
          | None ↦ λ is. rest
          | Some told ↦ λ is. ((entry.1, h.0, is), rest)
        ]) refl
      ]

-- ---- identifiers that are revoked

used_gone : (gone : ℕ → Bool) (slot : Slot) → is_used_by gone slot ≡ true → (number : ℕ) × (number_in slot ≡ Some number) × (gone number ≡ true)
used_gone gone (Used used) is = (used.number, refl, is)
used_gone gone (Revoking stamp) is = absurd (let bad : false ≡ true = is in cc)

module _ (gone : ℕ → Bool) (slots : Slots) (rises : rises_from 0 (keys slots) ≡ true) where
  gone_under : (held : ℕ × Slot) → value_of slots held.0 ≡ Some held.1 → is_used_by gone held.1 ≡ true → IsGoneUnder gone slots held.0
  gone_under held is used =
      let it = used_gone gone held.1 used in
      (it.0, ap (λ (o : Option Slot). option_and_then (λ slot. number_in slot) o) is ∙ it.1, it.2)

  each_gone : AllByRecursion (λ held. IsGoneUnder gone slots held.0) (filter (λ held. is_used_by gone held.1) slots)
  each_gone =
      let used = filter (λ held. is_used_by gone held.1) slots in
      each-weaker (λ (held : ℕ × Slot). (value_of slots held.0 ≡ Some held.1) × (is_used_by gone held.1 ≡ true)) (λ held. IsGoneUnder gone slots held.0) (λ held both. gone_under held both.0 both.1) used
      (each-both (λ (held : ℕ × Slot). value_of slots held.0 ≡ Some held.1) (λ (held : ℕ × Slot). is_used_by gone held.1 ≡ true) used
      (each-filter (λ (held : ℕ × Slot). value_of slots held.0 ≡ Some held.1) (λ held. is_used_by gone held.1) slots (each_value 0 slots rises))
      (each-passes (λ (held : ℕ × Slot). is_used_by gone held.1) slots))

-- what holds of what is wanted holds of it in pairs
each_pair : {W : Type 0} (P : W → Type 0) (wanted : List W) (ids : List ℕ) → AllByRecursion P wanted → AllByRecursion (λ pair. P pair.0) (zip wanted ids)
each_pair P [] ids h = tt
each_pair P (w ∷ wanted) [] h = tt
each_pair P (w ∷ wanted) (id ∷ ids) h = (h.0, each_pair P wanted ids h.1)

-- ---- the first of some actions

-- the first of two parts are of the first one, or all of that and the first of the other
parted : {X : Type 0} (n : ℕ) (first rest : List X) → (take n (first ++ rest) ≡ take n first) ⊎ ((m : ℕ) × (take n (first ++ rest) ≡ first ++ take m rest))
parted zero first rest = inl refl
parted (suc n) [] rest = inr (suc n, refl)
parted {X} (suc n) (x ∷ first) rest = elim (parted n first rest) [
  | inl is ↦ inl (ap (λ (xs : List X). x ∷ xs) is)
  | inr more ↦ inr (more.0, ap (λ (xs : List X). x ∷ xs) more.1)
]

-- an action that revokes no stop
abbrev RevokesNoStop : Action → Type 0
RevokesNoStop (ChangesStop (stop_change.Revoke id number)) = ⊥
RevokesNoStop (ChangesStop (stop_change.Tell id number told)) = Unit
RevokesNoStop (ChangesLimits changes) = Unit

-- leaves the stops that the train is told at once
forced_one : (train : TrainRec) (action : Action) → RevokesNoStop action → (carried_out train action).forced ≡ train.forced
forced_one train (ChangesStop (stop_change.Revoke id number)) none = absurd none
forced_one train (ChangesStop (stop_change.Tell id number told)) none = refl
forced_one train (ChangesLimits changes) none = refl

forced_still : (acts : List Action) (train : TrainRec) → AllByRecursion RevokesNoStop acts → (fold carried_out train acts).forced ≡ train.forced
forced_still [] train none = refl
forced_still (action ∷ acts) train none = forced_still acts (carried_out train action) none.1 ∙ forced_one train action none.0

-- ---- the actions of a train

module _ (plan : Plan) (stops : Stops) (limits : Limits) (train : TrainRec) (tables : HasTables train) (h : AreNumbered stops) (k : AreNumbered limits) where
  abbrev Meant : List ℕ → Action → Type 0
  Meant forced = IsMeant plan.horizon stops limits train train.place forced

  abbrev LimitMeant : LimitChange → Type 0
  LimitMeant = IsChangeMeant plan.horizon limits train.place train.limits

  abbrev then : List ℕ
  then = forced_then plan stops limits train

  first_meant : (forced : List ℕ) → AllByRecursion (Meant forced) (revoked_first plan stops limits train)
  first_meant forced =
      let revoked = is_stop_revoked stops (escalated stops train) in
      each-map (Meant forced) ChangesStop (stops_revoked (escalated stops train) stops train)
      (each-map (λ (change : StopChange). Meant forced (ChangesStop change)) (revoke_stop (escalated stops train)) (slots_revoked plan stops limits train)
      (each_gone revoked train.stops tables.stops.ascending))

  stops_meant : AllByRecursion (Meant then) (told_then plan stops limits train)
  stops_meant =
      let what = told_as train.place then in
      let wanted = filter_map (next_to_tell (escalated stops train) train) stops.active in
      let pairs = zip wanted (free_identifiers 15 train.stops) in
      let each = subst (λ (some : List (ℕ × ToldStop)). AllByRecursion (λ w. IsOfEntry stops.active what w.0 w.1) some) (wanted_next stops train tables.stops h)
      (each_of_entry (between stops train tables.stops h) what stops.active stops.active (each_value 0 stops.active (map_of_numbered stops h))) in
      each-map (Meant then) ChangesStop (stops_told (escalated stops train) stops train)
      (each-map (λ (change : StopChange). Meant then (ChangesStop change)) tell_stop pairs
      (each-weaker (λ (pair : (ℕ × ToldStop) × ℕ). IsOfEntry stops.active what pair.0.0 pair.0.1) (λ pair. Meant then (ChangesStop (tell_stop pair))) (λ pair is. is) pairs
      (each_pair (λ (w : ℕ × ToldStop). IsOfEntry stops.active what w.0 w.1) wanted (free_identifiers 15 train.stops) each)))

  limits_meant : (forced : List ℕ) → AllByRecursion (Meant forced) (limits_last plan stops limits train)
  limits_meant forced =
      let what = limit_as plan.horizon train.place in
      let gone = is_limit_gone limits train.place in
      let changes = limit_changes plan.horizon limits train in
      let wanted = filter_map (limit_to_tell plan.horizon train) limits.active in
      let pairs = zip wanted (free_identifiers 255 train.limits) in
      let each = each_of_entry train.limits what limits.active limits.active (each_value 0 limits.active (map_of_numbered limits k)) in
      let revoked = each-map LimitMeant limit_change.Revoke (to_revoke gone train.limits)
      (each-map (λ (id : ℕ). LimitMeant (limit_change.Revoke id)) (λ (held : ℕ × Slot). held.0) (filter (λ held. is_used_by gone held.1) train.limits)
      (each_gone gone train.limits tables.limits.ascending)) in
      let told = each-map LimitMeant tell_limit pairs
      (each-weaker (λ (pair : (ℕ × Part) × ℕ). IsOfEntry limits.active what pair.0.0 pair.0.1) (λ pair. LimitMeant (tell_limit pair)) (λ pair is. is) pairs
      (each_pair (λ (w : ℕ × Part). IsOfEntry limits.active what w.0 w.1) wanted (free_identifiers 255 train.limits) each)) in
      each-map (Meant forced) ChangesLimits (groups changes)
      (each-groups LimitMeant changes (each-append LimitMeant (limits_revoked limits train) (limits_told plan.horizon limits train) revoked told))

  -- no stop is revoked behind the first part
  abbrev behind : List Action
  behind = told_then plan stops limits train ++ limits_last plan stops limits train

  none_behind : AllByRecursion RevokesNoStop behind
  none_behind =
      each-append RevokesNoStop (told_then plan stops limits train) (limits_last plan stops limits train)
      (each-map RevokesNoStop ChangesStop (stops_told (escalated stops train) stops train)
      (each-map (λ (change : StopChange). RevokesNoStop (ChangesStop change)) tell_stop (zip (filter_map (next_to_tell (escalated stops train) train) stops.active) (free_identifiers 15 train.stops))
      (each-always (λ (pair : (ℕ × ToldStop) × ℕ). RevokesNoStop (ChangesStop (tell_stop pair))) (λ pair. tt) (zip (filter_map (next_to_tell (escalated stops train) train) stops.active) (free_identifiers 15 train.stops)))))
      (each-map RevokesNoStop ChangesLimits (groups (limit_changes plan.horizon limits train))
      (each-always (λ (changes : List LimitChange). RevokesNoStop (ChangesLimits changes)) (λ changes. tt) (groups (limit_changes plan.horizon limits train))))

  -- the first and those behind them
  abbrev IsMeantAfter : List Action → Type 0
  IsMeantAfter acts = AllByRecursion (Meant (fold carried_out train acts).forced) acts

  all_of_first : (m : ℕ) → IsMeantAfter (revoked_first plan stops limits train ++ take m behind)
  all_of_first m =
      let first = revoked_first plan stops limits train in
      let acts = first ++ take m behind in
      let forced : (fold carried_out train acts).forced ≡ then =
      ap (λ (t : TrainRec). t.forced) (fold-append carried_out train first (take m behind))
      ∙ forced_still (take m behind) (after_first plan stops limits train) (each-take RevokesNoStop m behind none_behind)
      ∙ (to_first plan stops limits train).forced in
      subst (λ (ns : List ℕ). AllByRecursion (Meant ns) acts) (sym forced)
      (each-append (Meant then) first (take m behind) (first_meant then)
      (each-take (Meant then) m behind (each-append (Meant then) (told_then plan stops limits train) (limits_last plan stops limits train) stops_meant (limits_meant then))))

  whole : actions plan stops limits train ≡ revoked_first plan stops limits train ++ behind
  whole = three_parts plan stops limits train ∙ append_assoc (revoked_first plan stops limits train) (told_then plan stops limits train) (limits_last plan stops limits train)

  by_parts : (n : ℕ) → IsMeantAfter (take n (revoked_first plan stops limits train ++ behind))
  by_parts n =
      let first = revoked_first plan stops limits train in
      elim (parted n first behind) [
        | inl is ↦ subst IsMeantAfter (sym is) (each-take (Meant (fold carried_out train (take n first)).forced) n first (first_meant (fold carried_out train (take n first)).forced))
        | inr more ↦ subst IsMeantAfter (sym more.1) (all_of_first more.0)
      ]

  -- what the first of the actions tell is active and concerns the train after them, and what they revoke was told and is gone
  pub told_is_meant : (n : ℕ) → AllByRecursion (IsMeant plan.horizon stops limits train (fold carried_out train (take n (actions plan stops limits train))).place (fold carried_out train (take n (actions plan stops limits train))).forced) (take n (actions plan stops limits train))
  told_is_meant n =
      let acts = take n (actions plan stops limits train) in
      subst (λ (place : Option Place). AllByRecursion (IsMeant plan.horizon stops limits train place (fold carried_out train acts).forced) acts) (sym (place_after acts train))
      (subst (λ (all : List Action). IsMeantAfter (take n all)) (sym whole) (by_parts n))
