-- What settling keeps of a well-formed train, an action after the other.
use Rattle.std.proofs.Common.{◌≡◌, ℕ, suc, ◌+◌, ◌-◌, ◌≤◌, true, false, leb, List, [], ◌∷◌, ◌++◌, length, map, take, drop, Option, Some, None, option_map, cond, eqb, refl, sym, subst, arith, inl, inr}
use Rattle.std.specs.List.{All, AllByRecursion, cons_option, filter, filter_map, fold, zip}
use Rattle.std.proofs.lemmas.Bool.{and_parts, or_cases, leb-true, eqb-true}
use Rattle.std.proofs.lemmas.List.{length-take}
use Rattle.std.proofs.lemmas.List.Elements.{All-append, All-from_recursion, All-take, All-drop, recursion_from_All}
use Rattle.rbc_track.specs.Plan.{Plan}
use Rattle.rbc_maps.specs.Maps.{has, with_value, keys, rises_from}
use Rattle.rbc_maps.specs.Numbered.{Numbered, AreNumbered}
use Rattle.rbc_ids.specs.declared.slot.Slot.{Slot}
use Rattle.rbc_ids.specs.declared.slot.Slot.TheVariants.{Used, Revoking}
use Rattle.rbc_ids.specs.declared.slot.Kind.TheVariants.{Restriction}
use Rattle.rbc_ids.specs.Table.{Slots, is_told, told_now, free_identifiers}
use Rattle.rbc_zones.specs.declared.segment.Segment.{Segment}
use Rattle.rbc_settle.specs.declared.train.TrainRec.{TrainRec}
use Rattle.rbc_settle.specs.declared.change.StopChange.{StopChange}
use Rattle.rbc_settle.specs.declared.change.StopChange.TheVariants as stop_change
use Rattle.rbc_settle.specs.declared.change.LimitChange.{LimitChange}
use Rattle.rbc_settle.specs.declared.change.LimitChange.TheVariants as limit_change
use Rattle.rbc_settle.specs.declared.change.ToldStop.{ToldStop}
use Rattle.rbc_settle.specs.declared.change.ToldStop.TheVariants.{AtOnce, Before}
use Rattle.rbc_settle.specs.Told.{Part}
use Rattle.rbc_settle.specs.Actions.{Action, ChangesStop, ChangesLimits, groups}
use Rattle.rbc_settle.specs.Settling.{Stops, Limits, last_stamp, limit_changed, carried_out, kind_of, number_forced, and_forced, revoke_stop, tell_stop, tell_limit, told_stop, concern_to, stop_to_tell, is_used_by, to_revoke, is_limit_gone, spare_identifiers, escalated, is_stop_revoked, next_to_tell, stops_revoked, stops_told, limits_revoked, limits_told, actions, actions_with_stamp}
use Rattle.rbc_settle.specs.Following.{CanChangeAll, Allows, CanFollow}
use Rattle.rbc_settle.specs.Numbers.{AreNumbers, has_number}
use Rattle.rbc_settle.specs.WellFormed.{IsGiven, AreGoodSlots, IsWellFormedTrain, SettlingKeepsTrains, is_stop_kind, is_limit_kind}
use Rattle.rbc_settle.proofs.Forcing.{rises-and, All-and}
use Rattle.rbc_settle.proofs.Due.{dues, due_is_told, first_of}
use Rattle.rbc_settle.proofs.Concerned.{limit_as}
use Rattle.rbc_settle.proofs.Wanted.{wanted_of, all_wanted}
use Rattle.rbc_settle.proofs.Carrying.{keeps_tables}
use Rattle.rbc_settle.proofs.Carried.{next_stamp}
use Rattle.rbc_settle.proofs.Follows.{can_follow, can_follow-take}
use Rattle.rbc_settle.proofs.GoodSlots.{slots_revoked, slots_told}
use Rattle.rbc_settle.proofs.Groups.{groups_cons, by_groups}
use Rattle.rbc_settle.proofs.Stamps.{AreGoodMeanwhile, stamps_with_stop, stamps_begin, stamps_go_on, stamps_end}

-- a change tells or forces a number that was given, or none
abbrev TellsGivenStop : Stops → StopChange → Type 0
TellsGivenStop stops (stop_change.Revoke id None) = Unit
TellsGivenStop stops (stop_change.Revoke id (Some number)) = IsGiven stops.last number
TellsGivenStop stops (stop_change.Tell id number told) = IsGiven stops.last number

abbrev TellsGivenLimit : Limits → LimitChange → Type 0
TellsGivenLimit limits (limit_change.Revoke id) = Unit
TellsGivenLimit limits (limit_change.Tell id number told) = IsGiven limits.last number

-- so do the changes of an action
abbrev TellsGiven : Stops → Limits → Action → Type 0
TellsGiven stops limits (ChangesStop change) = TellsGivenStop stops change
TellsGiven stops limits (ChangesLimits changes) = AllByRecursion (TellsGivenLimit limits) changes

-- a stop is told as one of its kinds
stop_kind : (told : ToldStop) → is_stop_kind (kind_of told) ≡ true
stop_kind AtOnce = refl
stop_kind (Before edge) = refl

-- the numbers that a train is told at once are good with one more that was given
forced_given : (stops : Stops) (limits : Limits) (forced : List ℕ) (id : ℕ) (number : Option ℕ) → AreNumbers forced → All (IsGiven stops.last) forced → TellsGivenStop stops (stop_change.Revoke id number)
    → AreNumbers (and_forced number forced) × All (IsGiven stops.last) (and_forced number forced)
forced_given stops limits forced id None ascend all given = (ascend, all)
forced_given stops limits forced id (Some number) ascend all given = (rises-and number forced ascend, All-and (IsGiven stops.last) number forced given all)

-- what the changes of one message keep of a table of restrictions, beside that of stops
record AreKept (last given : ℕ) (stops slots : Slots) : Type 0 where
  good : AreGoodSlots is_limit_kind given slots
  stamps : AreGoodMeanwhile last stops slots

changes_keep : (last : ℕ) (limits : Limits) (stops slots : Slots) (changes : List LimitChange) → AreKept last limits.last stops slots → CanChangeAll (last + 1) slots changes → AllByRecursion (TellsGivenLimit limits) changes
    → AreKept last limits.last stops (fold (limit_changed (last + 1)) slots changes)
changes_keep last limits stops slots [] kept can given = kept
changes_keep last limits stops slots (limit_change.Revoke id ∷ changes) kept can given =
    changes_keep last limits stops (with_value id (Revoking (last + 1)) slots) changes (record {
      good = slots_revoked is_limit_kind limits.last slots kept.good id (last + 1);
      stamps = stamps_go_on last stops slots kept.stamps id (Revoking (last + 1)) refl;
    }) can.1 given.1
changes_keep last limits stops slots (limit_change.Tell id number told ∷ changes) kept can given =
    changes_keep last limits stops (with_value id (told_now number (last + 1) Restriction) slots) changes (record {
      good = slots_told is_limit_kind limits.last slots kept.good id number (last + 1) Restriction refl given.0 can.0.untold;
      stamps = stamps_go_on last stops slots kept.stamps id (told_now number (last + 1) Restriction) refl;
    }) can.1 given.1

-- one action keeps a train well-formed, as long as a stamp is left
keeps_one : (plan : Plan) (stops : Stops) (limits : Limits) (train : TrainRec) (action : Action) → IsWellFormedTrain plan stops limits train → Allows train action → TellsGiven stops limits action → train.stamp + 1 ≤ last_stamp
    → IsWellFormedTrain plan stops limits (carried_out train action)
keeps_one plan stops limits train (ChangesStop (stop_change.Revoke id number)) well allowed given room =
    let good = stamps_with_stop train.stamp train.stops train.limits (record { within = well.stamps_within; apart = well.stamps_apart }) id (Revoking (train.stamp + 1)) refl in
    let forced = forced_given stops limits train.forced id number well.forced_ascend well.forced given in
    record {
      engine = well.engine;
      length = well.length;
      place = well.place;
      forced_ascend = forced.0;
      forced = forced.1;
      tables = keeps_tables train (ChangesStop (stop_change.Revoke id number)) well.tables allowed;
      stop_slots = slots_revoked is_stop_kind stops.last train.stops well.stop_slots id (train.stamp + 1);
      limit_slots = well.limit_slots;
      stamp = room;
      stamps_within = good.within;
      stamps_apart = good.apart;
    }
keeps_one plan stops limits train (ChangesStop (stop_change.Tell id number told)) well allowed given room =
    let good = stamps_with_stop train.stamp train.stops train.limits (record { within = well.stamps_within; apart = well.stamps_apart }) id (told_now number (train.stamp + 1) (kind_of told)) refl in
    record {
      engine = well.engine;
      length = well.length;
      place = well.place;
      forced_ascend = well.forced_ascend;
      forced = well.forced;
      tables = keeps_tables train (ChangesStop (stop_change.Tell id number told)) well.tables allowed;
      stop_slots = slots_told is_stop_kind stops.last train.stops well.stop_slots id number (train.stamp + 1) (kind_of told) (stop_kind told) given allowed.untold;
      limit_slots = well.limit_slots;
      stamp = room;
      stamps_within = good.within;
      stamps_apart = good.apart;
    }
keeps_one plan stops limits train (ChangesLimits changes) well allowed given room =
    let begun = stamps_begin train.stamp train.stops train.limits (record { within = well.stamps_within; apart = well.stamps_apart }) in
    let kept = changes_keep train.stamp limits train.stops train.limits changes (record { good = well.limit_slots; stamps = begun }) allowed given in
    let good = stamps_end train.stamp train.stops (fold (limit_changed (train.stamp + 1)) train.limits changes) kept.stamps in
    record {
      engine = well.engine;
      length = well.length;
      place = well.place;
      forced_ascend = well.forced_ascend;
      forced = well.forced;
      tables = keeps_tables train (ChangesLimits changes) well.tables allowed;
      stop_slots = well.stop_slots;
      limit_slots = kept.good;
      stamp = room;
      stamps_within = good.within;
      stamps_apart = good.apart;
    }

-- so do some, one after another
keeps_all : (plan : Plan) (stops : Stops) (limits : Limits) (acts : List Action) (train : TrainRec) → IsWellFormedTrain plan stops limits train → CanFollow train acts → AllByRecursion (TellsGiven stops limits) acts → train.stamp + length acts ≤ last_stamp
    → IsWellFormedTrain plan stops limits (fold carried_out train acts)
keeps_all plan stops limits [] train well can given room = well
keeps_all plan stops limits (action ∷ acts) train well can given room =
    let all : train.stamp + suc (length acts) ≤ 4294967294 = room in
    let one : train.stamp + 1 ≤ 4294967294 = omega (arith, all) in
    let next = next_stamp train action in
    keeps_all plan stops limits acts (carried_out train action) (keeps_one plan stops limits train action well can.0 given.0 one) can.1 given.1 (omega (arith, all, next))

-- the number of what is active was given
active_given : {V : Type 0} (last least : ℕ) (active : List (ℕ × V)) → 1 ≤ least → rises_from least (keys active) ≡ true → AllByRecursion (λ number. number ≤ last) (keys active) → AllByRecursion (λ entry. IsGiven last entry.0) active
active_given last least [] low rises within = tt
active_given last least (entry ∷ active) low rises within =
    let parts = and_parts (leb least entry.0) (rises_from (entry.0 + 1) (keys active)) rises in
    let above : least ≤ entry.0 = leb-true least entry.0 parts.0 in
    ((omega (arith, low, above), within.0), active_given last (entry.0 + 1) active (omega arith) parts.1 within.1)

-- so was that of what is wanted
wanted_given : {X T : Type 0} (numbered : Numbered X) (slots : Slots) (what : ℕ × X → Option T) → AreNumbered numbered → AllByRecursion (λ w. IsGiven numbered.last w.0) (wanted_of slots what numbered.active)
wanted_given {X} {T} numbered slots what h =
    all_wanted slots what (IsGiven numbered.last) numbered.active
    (each numbered.active (active_given numbered.last 1 numbered.active (omega arith) h.ascending (recursion_from_All (λ number. number ≤ numbered.last) (keys numbered.active) h.within)))
  where
    each : (some : List (ℕ × X)) → AllByRecursion (λ entry. IsGiven numbered.last entry.0) some → AllByRecursion (λ entry. is_told slots entry.0 ≡ false → (told : T) → what entry ≡ Some told → IsGiven numbered.last entry.0) some
    each [] all = tt
    each (entry ∷ some) all = (λ untold told is. all.0, each some all.1)

module _ (stops : Stops) (limits : Limits) where
  forces_given : (forced_now : List ℕ) → ((n : ℕ) → has_number forced_now n ≡ true → IsGiven stops.last n) → (id : ℕ) (slot : Slot) → TellsGivenStop stops (stop_change.Revoke id (number_forced forced_now slot))
  forces_given forced_now all id (Revoking stamp) = tt
  forces_given forced_now all id (Used used) =
      (elim (has_number forced_now used.number) as (λ b. has_number forced_now used.number ≡ b → TellsGivenStop stops (stop_change.Revoke id (cond b (Some used.number) None))) [
        | true ↦ λ there. all used.number there
        | false ↦ λ absent. tt
      ]) refl

  revoke_stops_given : (forced_now : List ℕ) → ((n : ℕ) → has_number forced_now n ≡ true → IsGiven stops.last n) → (slots : Slots) → AllByRecursion (TellsGivenStop stops) (map (revoke_stop forced_now) slots)
  revoke_stops_given forced_now all [] = tt
  revoke_stops_given forced_now all ((id, slot) ∷ slots) = (forces_given forced_now all id slot, revoke_stops_given forced_now all slots)

  revoke_limits_given : (ids : List ℕ) → AllByRecursion (TellsGivenLimit limits) (map limit_change.Revoke ids)
  revoke_limits_given [] = tt
  revoke_limits_given (id ∷ ids) = (tt, revoke_limits_given ids)

  tell_stops_given : (wanted : List (ℕ × ToldStop)) (ids : List ℕ) → AllByRecursion (λ w. IsGiven stops.last w.0) wanted → AllByRecursion (TellsGivenStop stops) (map tell_stop (zip wanted ids))
  tell_stops_given [] ids all = tt
  tell_stops_given (w ∷ wanted) [] all = tt
  tell_stops_given ((number, told) ∷ wanted) (id ∷ ids) all = (all.0, tell_stops_given wanted ids all.1)

  tell_limits_given : (wanted : List (ℕ × Part)) (ids : List ℕ) → AllByRecursion (λ w. IsGiven limits.last w.0) wanted → AllByRecursion (TellsGivenLimit limits) (map tell_limit (zip wanted ids))
  tell_limits_given [] ids all = tt
  tell_limits_given (w ∷ wanted) [] all = tt
  tell_limits_given ((number, told) ∷ wanted) (id ∷ ids) all = (all.0, tell_limits_given wanted ids all.1)

-- what is escalated is active, so it was given
escalated_given : (stops : Stops) (train : TrainRec) → AllByRecursion (λ stop. IsGiven stops.last stop.0) stops.active → (n : ℕ) → has_number (escalated stops train) n ≡ true → IsGiven stops.last n
escalated_given stops train all n there = among stops.active all (due_is_told stops train.stops n (first_of (spare_identifiers stops train) (dues stops train.stops) n there)).1
  where
    among : (some : List (ℕ × List Segment)) → AllByRecursion (λ stop. IsGiven stops.last stop.0) some → has some n ≡ true → IsGiven stops.last n
    among [] given active = absurd (let bad : false ≡ true = active in cc)
    among (stop ∷ some) given active = elim (or_cases (eqb stop.0 n) (has some n) active) [
      | inl here ↦ subst (IsGiven stops.last) (eqb-true stop.0 n here) given.0
      | inr more ↦ among some given.1 more
    ]

-- so was what is told next
next_given : (forced_now : List ℕ) (train : TrainRec) (last : ℕ) (some : List (ℕ × List Segment)) → AllByRecursion (λ stop. IsGiven last stop.0) some → AllByRecursion (λ w. IsGiven last w.0) (filter_map (next_to_tell forced_now train) some)
next_given forced_now train last [] all = tt
next_given forced_now train last (stop ∷ some) all =
    let rest = next_given forced_now train last some all.1 in
    elim (has_number forced_now stop.0) as (λ b. AllByRecursion (λ w. IsGiven last w.0) (cons_option (cond b (Some (stop.0, AtOnce)) (stop_to_tell train stop)) (filter_map (next_to_tell forced_now train) some))) [
      | true ↦ (all.0, rest)
      | false ↦ elim (is_told train.stops stop.0) as (λ b. AllByRecursion (λ w. IsGiven last w.0) (cons_option (cond b None (option_map (λ (told : ToldStop). (stop.0, told)) (told_stop train.place (concern_to train stop)))) (filter_map (next_to_tell forced_now train) some))) [
        | true ↦ rest
        | false ↦ elim (told_stop train.place (concern_to train stop)) as (λ o. AllByRecursion (λ w. IsGiven last w.0) (cons_option (option_map (λ (told : ToldStop). (stop.0, told)) o) (filter_map (next_to_tell forced_now train) some))) [
          | None ↦ rest
          | Some told ↦ (all.0, rest)
        ]
      ]
    ]

-- what holds of each change to a stop holds of each action that makes it
each_of_stops : (stops : Stops) (limits : Limits) (changes : List StopChange) → AllByRecursion (TellsGivenStop stops) changes → AllByRecursion (TellsGiven stops limits) (map ChangesStop changes)
each_of_stops stops limits [] all = tt
each_of_stops stops limits (change ∷ changes) all = (all.0, each_of_stops stops limits changes all.1)

-- and what holds of each change to a restriction holds of each group
each_of_limits : (stops : Stops) (limits : Limits) (changes : List LimitChange) → All (TellsGivenLimit limits) changes → AllByRecursion (TellsGiven stops limits) (map ChangesLimits (groups changes))
each_of_limits stops limits changes = by_groups (λ (cs : List LimitChange). All (TellsGivenLimit limits) cs → AllByRecursion (TellsGiven stops limits) (map ChangesLimits (groups cs))) (λ all. tt) step changes
  where
    step : (change : LimitChange) (changes : List LimitChange) → (All (TellsGivenLimit limits) (drop 100 (change ∷ changes)) → AllByRecursion (TellsGiven stops limits) (map ChangesLimits (groups (drop 100 (change ∷ changes)))))
        → All (TellsGivenLimit limits) (change ∷ changes) → AllByRecursion (TellsGiven stops limits) (map ChangesLimits (groups (change ∷ changes)))
    step change changes rest all =
        let P = TellsGivenLimit limits in
        subst (λ (gs : List (List LimitChange)). AllByRecursion (TellsGiven stops limits) (map ChangesLimits gs)) (sym (groups_cons change changes))
        (recursion_from_All P (take 100 (change ∷ changes)) (All-take P 100 (change ∷ changes) all), rest (All-drop P 100 (change ∷ changes) all))

-- all actions with a stamp tell numbers that were given
all_given : (plan : Plan) (stops : Stops) (limits : Limits) (train : TrainRec) → AreNumbered stops → AreNumbered limits → AllByRecursion (TellsGiven stops limits) (actions_with_stamp plan stops limits train)
all_given plan stops limits train h k =
    let P = TellsGiven stops limits in
    let S = TellsGivenStop stops in
    let L = TellsGivenLimit limits in
    let forced_now = escalated stops train in
    let first = stops_revoked forced_now stops train in
    let second = stops_told forced_now stops train in
    let active = active_given stops.last 1 stops.active (omega arith) h.ascending (recursion_from_All (λ number. number ≤ stops.last) (keys stops.active) h.within) in
    let third = limits_revoked limits train in
    let fourth = limits_told plan.horizon limits train in
    let stops_wanted = filter_map (next_to_tell forced_now train) stops.active in
    let limits_wanted = wanted_of train.limits (limit_as plan.horizon train.place) limits.active in
    let a = All-from_recursion S first (revoke_stops_given stops limits forced_now (escalated_given stops train active)
    (filter (λ held. is_used_by (is_stop_revoked stops forced_now) held.1) train.stops)) in
    let b = All-from_recursion S second (tell_stops_given stops limits stops_wanted (free_identifiers 15 train.stops) (next_given forced_now train stops.last stops.active active)) in
    let c = All-from_recursion L third (revoke_limits_given stops limits (to_revoke (is_limit_gone limits train.place) train.limits)) in
    let d = All-from_recursion L fourth (tell_limits_given stops limits limits_wanted (free_identifiers 255 train.limits) (wanted_given limits train.limits (limit_as plan.horizon train.place) k)) in
    let of_stops = each_of_stops stops limits (first ++ second) (recursion_from_All S (first ++ second) (All-append S first second a b)) in
    let of_limits = each_of_limits stops limits (third ++ fourth) (All-append L third fourth c d) in
    let all_stops = map ChangesStop (first ++ second) in
    let all_limits = map ChangesLimits (groups (third ++ fourth)) in
    recursion_from_All P (actions_with_stamp plan stops limits train)
    (All-take P (last_stamp - train.stamp) (actions plan stops limits train)
    (All-append P all_stops all_limits (All-from_recursion P all_stops of_stops) (All-from_recursion P all_limits of_limits)))

-- a well-formed train is well-formed after it was settled
pub keeps_trains : SettlingKeepsTrains
keeps_trains plan stops limits train h k well =
    let room = last_stamp - train.stamp in
    let acts = actions plan stops limits train in
    let few = length-take room acts in
    let within : train.stamp ≤ 4294967294 = well.stamp in
    keeps_all plan stops limits (take room acts) train well (can_follow-take room train acts (can_follow plan stops limits train well.tables h k)) (all_given plan stops limits train h k) (omega (arith, few, within))
