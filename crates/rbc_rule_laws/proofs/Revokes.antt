-- What settling a train revokes may be revoked.
use Rattle.std.proofs.Common.{◌≡◌, ◌⊎◌, ℕ, zero, suc, ◌+◌, ◌-◌, ◌≤◌, Bool, true, false, not, cond, ◌||◌, ◌&&◌, eqb, List, [], ◌∷◌, ◌++◌, length, map, take, drop, Option, Some, None, option_map, refl, sym, ap, subst, arith, inl, inr}
use Rattle.std.specs.List.{All, AllByRecursion, cons_option, filter, filter_map, scan}
use Rattle.std.specs.Option.{option_map_or}
use Rattle.std.proofs.lemmas.Bool.{both_ways, or_cases, or_left, or_right, and_parts, eqb-true, eq-eqb}
use Rattle.std.proofs.lemmas.List.Elements.{All-nil, All-cons, All-head, All-tail, All-append, All-take, All-drop, All-map}
use Rattle.std.proofs.lemmas.Option.{same_Some}
use Rattle.rbc_track.specs.Plan.{Plan}
use Rattle.rbc_place.specs.Placing.{Place}
use Rattle.rbc_maps.specs.Maps.{has, value_of, keys}
use Rattle.rbc_ids.specs.declared.slot.Slot.{Slot}
use Rattle.rbc_ids.specs.declared.slot.Slot.TheVariants.{Used, Revoking}
use Rattle.rbc_ids.specs.declared.slot.UsedSlot.{UsedSlot}
use Rattle.rbc_ids.specs.declared.slot.Kind.{Kind}
use Rattle.rbc_ids.specs.declared.slot.Kind.TheVariants.{Conditional, Unconditional, Restriction}
use Rattle.rbc_ids.specs.Table.{Slots, TellsOnce, tells, is_told, is_conditional, is_unanswered, is_ripe}
use Rattle.rbc_ids.proofs.Tables.{value_of-absent}
use Rattle.rbc_zones.specs.declared.segment.Segment.{Segment}
use Rattle.rbc_zones.specs.declared.stop_meaning.Concern.{Concern}
use Rattle.rbc_zones.specs.declared.stop_meaning.Concern.TheVariants as concern
use Rattle.rbc_zones.specs.Limits.{Limit}
use Rattle.rbc_settle.specs.declared.train.TrainRec.{TrainRec}
use Rattle.rbc_settle.specs.declared.change.StopChange.{StopChange}
use Rattle.rbc_settle.specs.declared.change.StopChange.TheVariants as stop_change
use Rattle.rbc_settle.specs.declared.change.LimitChange.{LimitChange}
use Rattle.rbc_settle.specs.declared.change.LimitChange.TheVariants as limit_change
use Rattle.rbc_settle.specs.declared.change.ToldStop.{ToldStop}
use Rattle.rbc_settle.specs.declared.change.ToldStop.TheVariants.{AtOnce, Before}
use Rattle.rbc_settle.specs.Actions.{Action, ChangesStop, ChangesLimits, groups}
use Rattle.rbc_settle.specs.Told.{Part}
use Rattle.rbc_settle.specs.Numbers.{has_number}
use Rattle.rbc_settle.specs.Settling.{Stops, Limits, last_stamp, told_stop, concern_to, stop_to_tell, due_number, spare_identifiers, escalated, number_forced, tell_stop, tell_limit, is_used_by, is_stop_gone, is_clear_of, is_limit_gone, is_stop_revoked, stops_revoked, stops_told, limits_revoked, limits_told, packet_of, carried_out, message_of, messages_of, actions, actions_with_stamp}
use Rattle.rbc_settle.specs.Settling.{revoke_stop as action_of_stop}
use Rattle.rbc_settle.specs.UpToDate.{HasTables}
use Rattle.rbc_settle.proofs.Due.{dues, due_is_told, first_of}
use Rattle.rbc_settle.proofs.Groups.{groups_cons, by_groups}
use Rattle.rbc_settle.proofs.Concerned.{each_value}
use Rattle.rbc_rule.specs.Told.{IsLeftUnanswered, is_something, is_untold, HasOneToSpare, MayRevokeStop, IsClearOfTrain, MayRevokeLimit, PacketRevokesRightly, RevokesRightly}

-- ---- a stop that is due

is_kind : (kind : Kind) → is_conditional kind ≡ true → kind ≡ Conditional
is_kind Conditional is = refl
is_kind Unconditional is = absurd (let bad : false ≡ true = is in cc)
is_kind Restriction is = absurd (let bad : false ≡ true = is in cc)

is_not : (b : Bool) → not b ≡ true → b ≡ false
is_not true is = absurd (let bad : false ≡ true = is in cc)
is_not false is = refl

-- was left unanswered in three reports
left_unanswered : (used : UsedSlot) → is_ripe (Used used) ≡ true → IsLeftUnanswered used
left_unanswered used ripe =
    let parts = and_parts (is_unanswered used) (eqb used.count 3) ripe in
    let both = and_parts (is_conditional used.kind) (not used.acked) parts.0 in
    record { conditional = is_kind used.kind both.0; unanswered = is_not used.acked both.1; three_reports = eqb-true used.count 3 parts.1 }

-- its slot tells its number
due_here : (stops : Stops) (slot : Slot) (n : ℕ) → due_number stops slot ≡ Some n → (tells n slot ≡ true) × (is_ripe slot ≡ true)
due_here stops (Revoking stamp) n is = absurd (let bad : None ≡ Some n = is in cc)
due_here stops (Used used) n is =
    (elim (is_ripe (Used used) && has stops.active used.number) as (λ b. (is_ripe (Used used) && has stops.active used.number) ≡ b → cond b (Some used.number) None ≡ Some n → (eqb used.number n ≡ true) × (is_ripe (Used used) ≡ true)) [
      | true ↦ λ due some.
          let own : used.number ≡ n = same_Some used.number n some in
          (eq-eqb used.number n own, (and_parts (is_ripe (Used used)) (has stops.active used.number) due).0)
      | false ↦ λ not_due none. absurd (let bad : None ≡ Some n = none in cc)
    ]) refl is

-- a number that a slot tells is told
told_by : (slots : Slots) (id : ℕ) (slot : Slot) (n : ℕ) → value_of slots id ≡ Some slot → tells n slot ≡ true → is_told slots n ≡ true
told_by [] id slot n found tells_it = absurd (let bad : None ≡ Some slot = found in cc)
told_by (held ∷ slots) id slot n found tells_it =
    (elim (eqb held.0 id) as (λ b. cond b (Some held.1) (value_of slots id) ≡ Some slot → (tells n held.1 || is_told slots n) ≡ true) [
      | true ↦ λ is. or_left (tells n held.1) (is_told slots n) (subst (λ (s : Slot). tells n s ≡ true) (sym (same_Some held.1 slot is)) tells_it)
      | false ↦ λ is. or_right (tells n held.1) (is_told slots n) (told_by slots id slot n is tells_it)
    ]) found

module _ (stops : Stops) where
  -- the first slot tells a number that is due: it was left unanswered
  ripe_here : (held : ℕ × Slot) (slots : Slots) (used : UsedSlot) → TellsOnce (held ∷ slots) → held.1 ≡ Used used → has_number (dues stops (held ∷ slots)) used.number ≡ true → is_ripe (Used used) ≡ true
  ripe_here held slots used once same due =
      let n = used.number in
      let first : tells n held.1 ≡ true = subst (λ (s : Slot). tells n s ≡ true) (sym same) (eq-eqb n n refl) in
      (elim (due_number stops held.1) as (λ o. due_number stops held.1 ≡ o → has_number (cons_option o (dues stops slots)) n ≡ true → is_ripe (Used used) ≡ true) [
        | None ↦ λ none more. absurd (both_ways (is_told slots n) (once.0 n first) (due_is_told stops slots n more).0)
        | Some m ↦ λ some both. elim (or_cases (eqb m n) (has_number (dues stops slots) n) both) [
          | inl equal ↦ subst (λ (s : Slot). is_ripe s ≡ true) same (due_here stops held.1 m some).1
          | inr more ↦ absurd (both_ways (is_told slots n) (once.0 n first) (due_is_told stops slots n more).0)
        ]
      ]) refl due

  -- another slot tells it: so that slot is due
  due_behind : (held : ℕ × Slot) (slots : Slots) (n : ℕ) → TellsOnce (held ∷ slots) → is_told slots n ≡ true → has_number (dues stops (held ∷ slots)) n ≡ true → has_number (dues stops slots) n ≡ true
  due_behind held slots n once told due =
      (elim (due_number stops held.1) as (λ o. due_number stops held.1 ≡ o → has_number (cons_option o (dues stops slots)) n ≡ true → has_number (dues stops slots) n ≡ true) [
        | None ↦ λ none more. more
        | Some m ↦ λ some both. elim (or_cases (eqb m n) (has_number (dues stops slots) n) both) [
          | inl equal ↦ absurd (both_ways (is_told slots n) (once.0 n (subst (λ (k : ℕ). tells k held.1 ≡ true) (eqb-true m n equal) (due_here stops held.1 m some).0)) told)
          | inr more ↦ more
        ]
      ]) refl due

  -- so the slot that tells a number which is due was left unanswered
  ripe_there : (slots : Slots) (id : ℕ) (used : UsedSlot) → TellsOnce slots → value_of slots id ≡ Some (Used used) → has_number (dues stops slots) used.number ≡ true → is_ripe (Used used) ≡ true
  ripe_there [] id used once found due = absurd (let bad : None ≡ Some (Used used) = found in cc)
  ripe_there (held ∷ slots) id used once found due =
      (elim (eqb held.0 id) as (λ b. cond b (Some held.1) (value_of slots id) ≡ Some (Used used) → is_ripe (Used used) ≡ true) [
        | true ↦ λ is. ripe_here held slots used once (same_Some held.1 (Used used) is) due
        | false ↦ λ is.
            let told = told_by slots id (Used used) used.number is (eq-eqb used.number used.number refl) in
            ripe_there slots id used once.1 is (due_behind held slots used.number once told due)
      ]) found

-- of no numbers none is there
some_taken : (count : ℕ) (ns : List ℕ) (n : ℕ) → has_number (take count ns) n ≡ true → 1 ≤ count
some_taken zero ns n there = absurd (let bad : false ≡ true = there in cc)
some_taken (suc count) ns n there = omega arith

-- ---- what is still to be told

-- a stop is told in some way where it is something to the train
told_if_something : (place : Option Place) (c : Concern) → (λ (o : Option ToldStop). option_map_or (λ told. true) o false) (told_stop place c) ≡ is_something c
told_if_something None concern.None = refl
told_if_something None concern.Now = refl
told_if_something None (concern.Before edge) = refl
told_if_something (Some p) concern.None = refl
told_if_something (Some p) concern.Now = refl
told_if_something (Some p) (concern.Before edge) = refl

-- as many are found as pass a test
module _ {X Y : Type 0} (f : X → Option Y) (test : X → Bool) (same : (x : X) → option_map_or (λ y. true) (f x) false ≡ test x) where
  as_many : (xs : List X) → length (filter test xs) ≡ length (filter_map f xs)
  as_many [] = refl
  as_many (x ∷ xs) =
      let rest = as_many xs in
      subst (λ (b : Bool). length (cond b (x ∷ filter test xs) (filter test xs)) ≡ length (cons_option (f x) (filter_map f xs))) (same x)
      (elim (f x) as (λ o. length (cond (option_map_or (λ y. true) o false) (x ∷ filter test xs) (filter test xs)) ≡ length (cons_option o (filter_map f xs))) [ None ↦ rest | Some y ↦ ap suc rest ])

still_to_tell : (train : TrainRec) (stop : ℕ × List Segment) → option_map_or (λ told. true) (stop_to_tell train stop) false ≡ is_untold train stop
still_to_tell train stop = by (is_told train.stops stop.0) (told_stop train.place (concern_to train stop)) (told_if_something train.place (concern_to train stop))
  where
    by : (b : Bool) (o : Option ToldStop) → option_map_or (λ told. true) o false ≡ is_something (concern_to train stop)
        → option_map_or (λ told. true) (cond b None (option_map {U = ℕ × ToldStop} (λ told. (stop.0, told)) o)) false ≡ (not b && is_something (concern_to train stop))
    by true o same = refl
    by false None same = same
    by false (Some told) same = same

-- ---- what is revoked

module _ (plan : Plan) (stops : Stops) (limits : Limits) (train : TrainRec) (tables : HasTables train) where
  abbrev forced_now : List ℕ
  forced_now = escalated stops train

  one_to_spare : 1 ≤ spare_identifiers stops train → HasOneToSpare stops train
  one_to_spare some =
      let count : length (filter (is_untold train) stops.active) ≡ length (filter_map (stop_to_tell train) stops.active) = as_many (stop_to_tell train) (is_untold train) (still_to_tell train) stops.active in
      omega (arith, count, some)

  may_revoke : (id : ℕ) (slot : Slot) → value_of train.stops id ≡ Some slot → is_used_by (is_stop_revoked stops forced_now) slot ≡ true → MayRevokeStop stops train id
  may_revoke id (Revoking stamp) found is = absurd (let bad : false ≡ true = is in cc)
  may_revoke id (Used used) found is = record {
    used = used;
    held = found;
    why = elim (or_cases (is_stop_gone stops used.number) (has_number forced_now used.number) is) [
      | inl gone ↦ inl (value_of-absent used.number stops.active (is_not (has stops.active used.number) gone))
      | inr there ↦
          let spare = spare_identifiers stops train in
          let due = first_of spare (dues stops train.stops) used.number there in
          inr (left_unanswered used (ripe_there stops train.stops id used tables.stops.once found due), one_to_spare (some_taken spare (dues stops train.stops) used.number there))
    ];
  }

  clear_then : (number : ℕ) (place : Option Place) → train.place ≡ place → (limit : Limit) → value_of limits.active number ≡ Some limit → is_clear_of place limit ≡ true → IsClearOfTrain limits train number
  clear_then number None placed limit active clear = absurd (let bad : false ≡ true = clear in cc)
  clear_then number (Some p) placed limit active clear = record { limit = limit; active = active; p = p; placed = placed; clear = clear }

  may_lift : (id : ℕ) (slot : Slot) → value_of train.limits id ≡ Some slot → is_used_by (is_limit_gone limits train.place) slot ≡ true → MayRevokeLimit limits train id
  may_lift id (Revoking stamp) found is = absurd (let bad : false ≡ true = is in cc)
  may_lift id (Used used) found is = record {
    used = used;
    held = found;
    why = (elim (value_of limits.active used.number) as (λ o. value_of limits.active used.number ≡ o → option_map_or (is_clear_of train.place) o true ≡ true → (value_of limits.active used.number ≡ None) ⊎ IsClearOfTrain limits train used.number) [
      | None ↦ λ none gone. inl none
      | Some limit ↦ λ active clear. inr (clear_then used.number train.place refl limit active clear)
    ]) refl is;
  }

  -- an action revokes rightly, whatever was done to the train before
  abbrev IsRight : Action → Type 0
  IsRight action = (later : TrainRec) → RevokesRightly stops limits train (message_of later action)

  abbrev IsStopRight : StopChange → Type 0
  IsStopRight change = IsRight (ChangesStop change)

  abbrev IsLimitRight : LimitChange → Type 0
  IsLimitRight change = PacketRevokesRightly limits train (packet_of change)

  revoked_stops : (some : Slots) → AllByRecursion (λ held. value_of train.stops held.0 ≡ Some held.1) some
      → All IsStopRight (map (action_of_stop forced_now) (filter (λ held. is_used_by (is_stop_revoked stops forced_now) held.1) some))
  revoked_stops [] values = All-nil IsStopRight
  revoked_stops ((id, slot) ∷ some) values =
      let revoked = is_stop_revoked stops forced_now in
      let others = filter (λ held. is_used_by revoked held.1) some in
      let rest = revoked_stops some values.1 in
      (elim (is_used_by revoked slot) as (λ b. is_used_by revoked slot ≡ b → All IsStopRight (map (action_of_stop forced_now) (cond b ((id, slot) ∷ others) others))) [
        | true ↦ λ is. All-cons IsStopRight (stop_change.Revoke id (number_forced forced_now slot)) (map (action_of_stop forced_now) others) (λ later. may_revoke id slot values.0 is) rest
        | false ↦ λ is. rest
      ]) refl

  tells_right : (id number : ℕ) (told : ToldStop) → IsStopRight (stop_change.Tell id number told)
  tells_right id number AtOnce later = tt
  tells_right id number (Before edge) later = tt

  told_stops : (pairs : List ((ℕ × ToldStop) × ℕ)) → All IsStopRight (map tell_stop pairs)
  told_stops [] = All-nil IsStopRight
  told_stops (((number, told), id) ∷ pairs) = All-cons IsStopRight (stop_change.Tell id number told) (map tell_stop pairs) (tells_right id number told) (told_stops pairs)

  revoked_limits : (some : Slots) → AllByRecursion (λ held. value_of train.limits held.0 ≡ Some held.1) some
      → All IsLimitRight (map limit_change.Revoke (keys (filter (λ held. is_used_by (is_limit_gone limits train.place) held.1) some)))
  revoked_limits [] values = All-nil IsLimitRight
  revoked_limits ((id, slot) ∷ some) values =
      let gone = is_limit_gone limits train.place in
      let others = filter (λ held. is_used_by gone held.1) some in
      let rest = revoked_limits some values.1 in
      (elim (is_used_by gone slot) as (λ b. is_used_by gone slot ≡ b → All IsLimitRight (map limit_change.Revoke (keys (cond b ((id, slot) ∷ others) others)))) [
        | true ↦ λ is. All-cons IsLimitRight (limit_change.Revoke id) (map limit_change.Revoke (keys others)) (may_lift id slot values.0 is) rest
        | false ↦ λ is. rest
      ]) refl

  told_limits : (pairs : List ((ℕ × Part) × ℕ)) → All IsLimitRight (map tell_limit pairs)
  told_limits [] = All-nil IsLimitRight
  told_limits (((number, told), id) ∷ pairs) = All-cons IsLimitRight (limit_change.Tell id number told) (map tell_limit pairs) tt (told_limits pairs)

  group_right : (changes : List LimitChange) → All IsLimitRight changes → IsRight (ChangesLimits changes)
  group_right changes all later = All-map (PacketRevokesRightly limits train) packet_of changes all

  groups_right : (changes : List LimitChange) → All IsLimitRight changes → All IsRight (map ChangesLimits (groups changes))
  groups_right changes = by_groups (λ (cs : List LimitChange). All IsLimitRight cs → All IsRight (map ChangesLimits (groups cs))) (λ all. All-nil IsRight) step changes
    where
      step : (change : LimitChange) (changes : List LimitChange) → (All IsLimitRight (drop 100 (change ∷ changes)) → All IsRight (map ChangesLimits (groups (drop 100 (change ∷ changes)))))
          → All IsLimitRight (change ∷ changes) → All IsRight (map ChangesLimits (groups (change ∷ changes)))
      step change changes rest all =
          subst (λ (gs : List (List LimitChange)). All IsRight (map ChangesLimits gs)) (sym (groups_cons change changes))
          (All-cons IsRight (ChangesLimits (take 100 (change ∷ changes))) (map ChangesLimits (groups (drop 100 (change ∷ changes))))
          (group_right (take 100 (change ∷ changes)) (All-take IsLimitRight 100 (change ∷ changes) all))
          (rest (All-drop IsLimitRight 100 (change ∷ changes) all)))

  all_right : All IsRight (actions plan stops limits train)
  all_right =
      let first = stops_revoked forced_now stops train in
      let second = stops_told forced_now stops train in
      let third = limits_revoked limits train in
      let fourth = limits_told plan.horizon limits train in
      All-append IsRight (map ChangesStop (first ++ second)) (map ChangesLimits (groups (third ++ fourth)))
      (All-map IsRight ChangesStop (first ++ second) (All-append IsStopRight first second (revoked_stops train.stops (each_value 0 train.stops tables.stops.ascending)) (told_stops _)))
      (groups_right (third ++ fourth) (All-append IsLimitRight third fourth (revoked_limits train.limits (each_value 0 train.limits tables.limits.ascending)) (told_limits _)))

  -- so does each message
  each_right : (acts : List Action) → All IsRight acts → (later : TrainRec) → All (RevokesRightly stops limits train) (scan carried_out message_of later acts)
  each_right [] all later = All-nil (RevokesRightly stops limits train)
  each_right (action ∷ acts) all later =
      All-cons (RevokesRightly stops limits train) (message_of later action) (scan carried_out message_of (carried_out later action) acts) (All-head IsRight action acts all later)
      (each_right acts (All-tail IsRight action acts all) (carried_out later action))

  pub messages_right : All (RevokesRightly stops limits train) (messages_of plan stops limits train)
  messages_right = each_right (actions_with_stamp plan stops limits train) (All-take IsRight (last_stamp - train.stamp) (actions plan stops limits train) all_right) train
