-- What a change leaves to do at a train that was settled before it: the action for that change alone.
use Rattle.std.proofs.Common.{◌≡◌, ℕ, zero, suc, ◌-◌, ◌<◌, ◌⊎◌, Bool, true, false, not, cond, ◌&&◌, ◌||◌, eqb, ltb, List, [], ◌∷◌, ◌++◌, map, take, Option, Some, None, is_none, refl, sym, ap, ◌∙◌, inl, inr}
use Rattle.std.specs.List.{filter, find, cons_option, list_any, zip, slice_get, AllByRecursion}
use Rattle.std.specs.Option.{option_map, option_map_or}
use Rattle.std.proofs.lemmas.Bool.{cases_eq, or_parts, eq-eqb, ne_eqb, eqb-true}
use Rattle.rbc_track.specs.Plan.{Plan}
use Rattle.rbc_maps.specs.Maps.{has, value_of, with_value, without}
use Rattle.rbc_maps.specs.Numbered.{Numbered, AreNumbered}
use Rattle.rbc_ids.specs.declared.slot.Slot.{Slot}
use Rattle.rbc_ids.specs.declared.slot.Slot.TheVariants.{Used, Revoking}
use Rattle.rbc_ids.specs.Table.{Slots, TellsOnce, tells, is_told, is_ripe, free_identifiers, least_free, identifier_of}
use Rattle.rbc_zones.specs.declared.segment.Segment.{Segment}
use Rattle.rbc_zones.specs.Concerns.{concern_of}
use Rattle.rbc_zones.specs.Limits.{Limit}
use Rattle.rbc_settle.specs.declared.train.TrainRec.{TrainRec}
use Rattle.rbc_settle.specs.declared.change.StopChange.{StopChange}
use Rattle.rbc_settle.specs.declared.change.StopChange.TheVariants as stop_change
use Rattle.rbc_settle.specs.declared.change.LimitChange.{LimitChange}
use Rattle.rbc_settle.specs.declared.change.LimitChange.TheVariants as limit_change
use Rattle.rbc_settle.specs.declared.single_change.Change.{Change}
use Rattle.rbc_settle.specs.declared.single_change.Change.TheVariants as change
use Rattle.rbc_settle.specs.Actions.{Action, ChangesStop}
use Rattle.rbc_settle.specs.Numbers.{has_number, without_number}
use Rattle.rbc_settle.specs.Settling.{Stops, Limits, last_stamp, told_stop, is_used_by, is_stop_gone, is_limit_gone, is_clear_of, due_number, revoke_stop, tell_stop, tell_limit, stops_revoked, stops_told, stop_changes, limits_revoked, limits_told, limit_changes, in_messages, actions, actions_with_stamp}
use Rattle.rbc_settle.specs.SingleChange.{both_of, in_one_packet, action_for, actions_for}
use Rattle.rbc_settle.specs.UpToDate.{HasTables}
use Rattle.rbc_settle.proofs.Wanted.{to_tell, wanted_of, none_wanted}
use Rattle.rbc_settle.proofs.Done.{IsDone, none_told, none_revoked}
use Rattle.rbc_settle.proofs.Concerned.{told_as, limit_as}
use Rattle.rbc_settle.proofs.NoneDue.{each_not_due, none_due_from}
use Rattle.rbc_settle.proofs.Escalating.{IsNoneDueOrFull}
use Rattle.rbc_settle.proofs.Achieves.{revoked_as_gone, none_escalated, no_stops_left}
use Rattle.rbc_rule.specs.World.{World}
use Rattle.rbc_rule.specs.Effect.{with_next, with_less, forget}
use Rattle.rbc_rule.specs.Gathered.{forgotten}
use Rattle.rbc_rule.specs.Touching.{HasChanged, released_by}
use Rattle.rbc_rule.proofs.Untouched.{not_empty, IsNothingOrTold, value_of-without, none_gone_still, kept_begun, stop_gone, done_before}
use Rattle.rbc_rule.proofs.Elsewhere.{none_left}

-- ---- what is told

-- nothing beside no identifiers
no_partner : {K Y : Type 0} (ks : List K) → zip {K = K} {X = Y} ks [] ≡ []
no_partner [] = refl
no_partner (k ∷ ks) = refl

both_none : {A B : Type 0} (o : Option A) → both_of {B = B} o None ≡ None
both_none None = refl
both_none (Some a) = refl

-- one thing is told under the first free identifier
told_first : {K C : Type 0} (tell : K × ℕ → C) (o : Option K) (free : List ℕ) → map tell (zip (cons_option o []) free) ≡ cons_option (option_map tell (both_of o (slice_get free 0))) []
told_first tell None free = refl
told_first tell (Some k) [] = refl
told_first tell (Some k) (id ∷ ids) = refl

module _ {X T : Type 0} (slots : Slots) (what : ℕ × X → Option T) where
  -- an entry that is nothing to the train, or told, is not wanted
  not_wanted : (entry : ℕ × X) → IsNothingOrTold slots what entry → to_tell slots what entry ≡ None
  not_wanted entry it = elim it [
    | inl nothing ↦ elim (is_told slots entry.0) as (λ b. cond {A = Option (ℕ × T)} b None (option_map {U = ℕ × T} (λ told. (entry.0, told)) (what entry)) ≡ None) [
      | true ↦ refl
      | false ↦ ap (λ (o : Option T). option_map {U = ℕ × T} (λ told. (entry.0, told)) o) nothing
    ]
    | inr told ↦ ap (λ (b : Bool). cond {A = Option (ℕ × T)} b None (option_map {U = ℕ × T} (λ told. (entry.0, told)) (what entry))) told
  ]

  module _ (number : ℕ) (value : X) where
    -- beside such entries one more is wanted alone
    wanted_with : (active : List (ℕ × X)) → AllByRecursion (IsNothingOrTold slots what) active → wanted_of slots what (with_value number value active) ≡ cons_option (to_tell slots what (number, value)) []
    wanted_with [] all = refl
    wanted_with (entry ∷ active) all =
        elim (ltb number entry.0) as (λ b. wanted_of slots what (cond b ((number, value) ∷ entry ∷ active) (cond (eqb entry.0 number) ((number, value) ∷ active) (entry ∷ with_value number value active))) ≡ cons_option (to_tell slots what (number, value)) []) [
          | true ↦ ap (cons_option (to_tell slots what (number, value))) (none_wanted slots what (entry ∷ active) all)
          | false ↦ elim (eqb entry.0 number) as (λ b. wanted_of slots what (cond b ((number, value) ∷ active) (entry ∷ with_value number value active)) ≡ cons_option (to_tell slots what (number, value)) []) [
            | true ↦ ap (cons_option (to_tell slots what (number, value))) (none_wanted slots what active all.1)
            | false ↦ ap (λ (o : Option (ℕ × T)). cons_option o (wanted_of slots what (with_value number value active))) (not_wanted entry all.0) ∙ wanted_with active all.1
          ]
        ]

    -- it is told under the least free identifier
    begun_told : {C : Type 0} (tell : (ℕ × T) × ℕ → C) (count : ℕ) (active : List (ℕ × X)) → (free_identifiers count slots ≡ []) ⊎ AllByRecursion (IsNothingOrTold slots what) active
        → map tell (zip (wanted_of slots what (with_value number value active)) (free_identifiers count slots)) ≡ cons_option (option_map tell (both_of (to_tell slots what (number, value)) (least_free count slots))) []
    begun_told {C} tell count active left =
        let it = to_tell slots what (number, value) in
        let wanted = wanted_of slots what (with_value number value active) in
        let Under : List ℕ → List C = λ ids. cons_option (option_map tell (both_of it (slice_get ids 0))) [] in
        elim left [
          | inl none ↦
              ap (λ (ids : List ℕ). map tell (zip wanted ids)) none ∙ ap (map tell) (no_partner wanted)
              ∙ sym (ap (λ (o : Option ((ℕ × T) × ℕ)). cons_option (option_map tell o) []) (both_none it)) ∙ sym (ap Under none)
          | inr all ↦ ap (λ (ws : List (ℕ × T)). map tell (zip ws (free_identifiers count slots))) (wanted_with active all) ∙ told_first tell it (free_identifiers count slots)
        ]

  -- what is left is judged as before
  all_without : (number : ℕ) (other : ℕ × X → Option T) → ((entry : ℕ × X) → eqb entry.0 number ≡ false → other entry ≡ what entry) → (active : List (ℕ × X)) → AllByRecursion (IsNothingOrTold slots what) active
      → AllByRecursion (IsNothingOrTold slots other) (without number active)
  all_without number other same [] all = tt
  all_without number other same (entry ∷ active) all =
      (elim (eqb entry.0 number) as (λ b. eqb entry.0 number ≡ b → AllByRecursion (IsNothingOrTold slots other) (cond (not b) (entry ∷ without number active) (without number active))) [
        | true ↦ λ is. all_without number other same active all.1
        | false ↦ λ apart. (elim all.0 [ inl nothing ↦ inl (same entry apart ∙ nothing) | inr told ↦ inr told ], all_without number other same active all.1)
      ]) refl

  -- so nothing is told
  ended_told : (number count : ℕ) (other : ℕ × X → Option T) → ((entry : ℕ × X) → eqb entry.0 number ≡ false → other entry ≡ what entry) → (active : List (ℕ × X))
      → (free_identifiers count slots ≡ []) ⊎ AllByRecursion (IsNothingOrTold slots what) active → zip (wanted_of slots other (without number active)) (free_identifiers count slots) ≡ []
  ended_told number count other same active left = elim left [
    | inl none ↦ ap (λ (ids : List ℕ). zip (wanted_of slots other (without number active)) ids) none ∙ no_partner (wanted_of slots other (without number active))
    | inr all ↦ ap (λ (ws : List (ℕ × T)). zip ws (free_identifiers count slots)) (none_wanted slots other (without number active) (all_without number other same active all))
  ]

-- ---- what is revoked

-- a number is told by one slot
told_once : (number : ℕ) (slots : Slots) → TellsOnce slots → filter (λ held. tells number held.1) slots ≡ cons_option (find (λ held. tells number held.1) slots) []
told_once number [] once = refl
told_once number (held ∷ slots) once =
    (elim (tells number held.1) as (λ b. tells number held.1 ≡ b → cond b (held ∷ filter (λ (other : ℕ × Slot). tells number other.1) slots) (filter (λ (other : ℕ × Slot). tells number other.1) slots) ≡ cons_option (cond b (Some held) (find (λ (other : ℕ × Slot). tells number other.1) slots)) []) [
      | true ↦ λ told. ap (λ (rest : Slots). held ∷ rest) (none_left (λ (other : ℕ × Slot). tells number other.1) slots (once.0 number told))
      | false ↦ λ untold. told_once number slots once.1
    ]) refl

-- where no slot was used by a gone number, those that are now tell the number that ended
gone_now : (before after : ℕ → Bool) (number : ℕ) → ((n : ℕ) → before n ≡ false → after n ≡ eqb n number) → (slots : Slots) → list_any (λ held. is_used_by before held.1) slots ≡ false
    → filter (λ held. is_used_by after held.1) slots ≡ filter (λ held. tells number held.1) slots
gone_now before after number judged [] none = refl
gone_now before after number judged ((id, Used used) ∷ slots) none =
    let parts = or_parts (before used.number) (list_any (λ held. is_used_by before held.1) slots) none in
    let rest = filter (λ (held : ℕ × Slot). is_used_by after held.1) slots in
    ap (λ (b : Bool). cond b ((id, Used used) ∷ rest) rest) (judged used.number parts.0)
    ∙ ap (λ (others : Slots). cond (eqb used.number number) ((id, Used used) ∷ others) others) (gone_now before after number judged slots parts.1)
gone_now before after number judged ((id, Revoking stamp) ∷ slots) none = gone_now before after number judged slots none

module _ {V : Type 0} (number : ℕ) where
  value_of-own : (pairs : List (ℕ × V)) → value_of (without number pairs) number ≡ None
  value_of-own [] = refl
  value_of-own (pair ∷ pairs) =
      (elim (eqb pair.0 number) as (λ b. eqb pair.0 number ≡ b → value_of (cond (not b) (pair ∷ without number pairs) (without number pairs)) number ≡ None) [
        | true ↦ λ same. value_of-own pairs
        | false ↦ λ apart. ap (λ (b : Bool). cond b (Some pair.1) (value_of (without number pairs) number)) apart ∙ value_of-own pairs
      ]) refl

module _ {X : Type 0} (judge : Option X → Bool) (judged_none : judge None ≡ true) (number : ℕ) (old : Numbered X) where
  -- once a value ends, its number alone is gone that was not
  gone_ended : (n : ℕ) → judge (value_of old.active n) ≡ false → judge (value_of (without number old.active) n) ≡ eqb n number
  gone_ended n there = elim (cases_eq n number) [
    | inl same ↦
        ap (λ m. judge (value_of (without number old.active) m)) same ∙ ap judge (value_of-own number old.active) ∙ judged_none ∙ sym (eq-eqb n number same)
    | inr other ↦
        ap judge (value_of-without number n (ne_eqb number n (λ same. other (sym same))) old.active) ∙ there ∙ sym (ne_eqb n number other)
  ]

-- ---- a train

-- a slot that is not due under stops that have its number is not due under others
not_due : (old new : Stops) (slots : Slots) → list_any (λ held. is_used_by (is_stop_gone old) held.1) slots ≡ false → AllByRecursion (λ held. due_number old held.1 ≡ None) slots → AllByRecursion (λ held. due_number new held.1 ≡ None) slots
not_due old new [] none all = tt
not_due old new ((id, Revoking stamp) ∷ slots) none all = (refl, not_due old new slots none all.1)
not_due old new ((id, Used used) ∷ slots) none all =
    let n = used.number in
    let parts = or_parts (is_stop_gone old n) (list_any (λ held. is_used_by (is_stop_gone old) held.1) slots) none in
    let active : has old.active n ≡ true = was_active (has old.active n) parts.0 in (
      (elim (is_ripe (Used used)) as (λ b. cond (b && has old.active n) (Some n) None ≡ None → cond (b && has new.active n) (Some n) None ≡ None) [
        | true ↦ λ due. absurd (let bad : Some n ≡ None = sym (ap (λ (b : Bool). cond b (Some n) None) active) ∙ due in cc)
        | false ↦ λ due. refl
      ]) all.0,
      not_due old new slots parts.1 all.1,
    )
  where
    was_active : (b : Bool) → not b ≡ false → b ≡ true
    was_active true gone = refl
    was_active false gone = absurd (let bad : true ≡ false = gone in cc)

-- with one number less, another is there as before
has_without : (number n : ℕ) → eqb n number ≡ false → (ns : List ℕ) → has_number (without_number number ns) n ≡ has_number ns n
has_without number n other [] = refl
has_without number n other (first ∷ ns) =
    (elim (eqb first number) as (λ b. eqb first number ≡ b → has_number (cond (not b) (first ∷ without_number number ns) (without_number number ns)) n ≡ (eqb first n || has_number ns n)) [
      | true ↦ λ same. has_without number n other ns ∙ sym (ap (λ (b : Bool). b || has_number ns n) (ap (λ m. eqb m n) (eqb-true first number same) ∙ ne_eqb number n (λ is. absurd (let bad : true ≡ false = sym (eq-eqb n number (sym is)) ∙ other in cc))))
      | false ↦ λ apart. ap (λ (b : Bool). eqb first n || b) (has_without number n other ns)
    ]) refl

module _ (train : TrainRec) (number : ℕ) (old : Stops) (done : IsDone 15 (is_stop_gone old) old.active (told_as train.place train.forced) train.stops) (due : IsNoneDueOrFull old train.stops) where
  none_due : (new : Stops) → IsNoneDueOrFull new train.stops
  none_due new = elim due [
    | inl none_free ↦ inl none_free
    | inr none ↦ inr (none_due_from new train.stops (not_due old new train.stops done.none_gone (each_not_due old train.stops none)))
  ]

  -- a stop begins
  stop_begun : (area : List Segment) → AreNumbered old → old.last < number
      → stop_changes (with_next number area old) train ≡ cons_option (option_map tell_stop (both_of (to_tell train.stops (told_as train.place train.forced) (number, area)) (least_free 15 train.stops))) []
  stop_begun area numbered above =
      let new = with_next number area old in
      let escalated_none = none_escalated new train (none_due new) in
      let before : list_any (λ held. is_used_by (λ n. is_none (value_of old.active n)) held.1) train.stops ≡ false = ap (λ (gone : ℕ → Bool). list_any (λ held. is_used_by gone held.1) train.stops) (stop_gone old) ∙ done.none_gone in
      let still = none_gone_still (λ n. is_none (value_of old.active n)) (λ n. is_none (value_of new.active n)) train.stops (λ n told there. kept_begun 15 is_none refl (told_as train.place train.forced) train.stops number old area numbered above n there) before in
      let after : list_any (λ held. is_used_by (is_stop_gone new) held.1) train.stops ≡ false = sym (ap (λ (gone : ℕ → Bool). list_any (λ held. is_used_by gone held.1) train.stops) (stop_gone new)) ∙ still in
      let revoked : stops_revoked [] new train ≡ [] =
      ap (λ (gone : ℕ → Bool). map (revoke_stop []) (filter (λ held. is_used_by gone held.1) train.stops)) (revoked_as_gone new) ∙ ap (map (revoke_stop [])) (none_left (λ (held : ℕ × Slot). is_used_by (is_stop_gone new) held.1) train.stops after) in
      let told = begun_told train.stops (told_as train.place train.forced) number area tell_stop 15 old.active done.none_left in
      (λ i. stops_revoked (escalated_none i) new train ++ stops_told (escalated_none i) new train)
      ∙ (λ i. revoked i ++ told i)

  -- or a stop ends, so that the train no longer stops at once for it
  stop_ended : stop_changes (with_less number old) (forget number train) ≡ cons_option (option_map (λ id. stop_change.Revoke id None) (identifier_of train.stops number)) []
  stop_ended =
      let new = with_less number old in
      let later = forget number train in
      let what = told_as train.place train.forced in
      let other = told_as train.place (without_number number train.forced) in
      let escalated_none = none_escalated new later (none_due new) in
      let before : list_any (λ held. is_used_by (λ n. is_none (value_of old.active n)) held.1) train.stops ≡ false = ap (λ (gone : ℕ → Bool). list_any (λ held. is_used_by gone held.1) train.stops) (stop_gone old) ∙ done.none_gone in
      let found : Option (ℕ × Slot) = find (λ held. tells number held.1) train.stops in
      let gone : filter (λ held. is_used_by (is_stop_gone new) held.1) train.stops ≡ cons_option found [] =
      sym (ap (λ (judged : ℕ → Bool). filter (λ held. is_used_by judged held.1) train.stops) (stop_gone new))
      ∙ gone_now (λ n. is_none (value_of old.active n)) (λ n. is_none (value_of new.active n)) number (gone_ended is_none refl number old) train.stops before
      ∙ told_once number train.stops done.table.once in
      let revoked : stops_revoked [] new later ≡ cons_option (option_map (λ id. stop_change.Revoke id None) (identifier_of train.stops number)) [] =
      ap (λ (judged : ℕ → Bool). map (revoke_stop []) (filter (λ held. is_used_by judged held.1) train.stops)) (revoked_as_gone new) ∙ ap (map (revoke_stop [])) gone ∙ one_revoked found in
      let same = λ (stop : ℕ × List Segment) (apart : eqb stop.0 number ≡ false). ap (λ (b : Bool). told_stop train.place (concern_of stop.1 b train.place)) (has_without number stop.0 apart train.forced) in
      let told : stops_told [] new later ≡ [] = ap (map tell_stop) (ended_told train.stops what number 15 other same old.active done.none_left) in
      (λ i. stops_revoked (escalated_none i) new later ++ stops_told (escalated_none i) new later)
      ∙ (λ i. revoked i ++ told i) ∙ alone (option_map (λ id. stop_change.Revoke id None) (identifier_of train.stops number))
    where
      one_revoked : (found : Option (ℕ × Slot)) → map (revoke_stop []) (cons_option found []) ≡ cons_option (option_map (λ id. stop_change.Revoke id None) (option_map (λ held. held.0) found)) []
      one_revoked None = refl
      one_revoked (Some (id, Used used)) = refl
      one_revoked (Some (id, Revoking stamp)) = refl

      alone : (o : Option StopChange) → cons_option o [] ++ [] ≡ cons_option o []
      alone None = refl
      alone (Some it) = refl

module _ (horizon : ℕ) (train : TrainRec) (number : ℕ) (old : Limits) (done : IsDone 255 (is_limit_gone old train.place) old.active (limit_as horizon train.place) train.limits) where
  judged : Option Limit → Bool
  judged limit = option_map_or (is_clear_of train.place) limit true

  -- a restriction begins
  limit_begun : (limit : Limit) → AreNumbered old → old.last < number
      → limit_changes horizon (with_next number limit old) train ≡ cons_option (option_map tell_limit (both_of (to_tell train.limits (limit_as horizon train.place) (number, limit)) (least_free 255 train.limits))) []
  unfolding judged
  limit_begun limit numbered above =
      let new = with_next number limit old in
      let after = none_gone_still (is_limit_gone old train.place) (is_limit_gone new train.place) train.limits (λ n told there. kept_begun 255 judged refl (limit_as horizon train.place) train.limits number old limit numbered above n there) done.none_gone in
      let revoked : limits_revoked new train ≡ [] = ap (λ (held : Slots). map limit_change.Revoke (map (λ (one : ℕ × Slot). one.0) held)) (none_left (λ (held : ℕ × Slot). is_used_by (is_limit_gone new train.place) held.1) train.limits after) in
      let told = begun_told train.limits (limit_as horizon train.place) number limit tell_limit 255 old.active done.none_left in
      λ i. revoked i ++ told i

  -- or ends
  limit_ended : limit_changes horizon (with_less number old) train ≡ cons_option (option_map limit_change.Revoke (identifier_of train.limits number)) []
  unfolding judged
  limit_ended =
      let new = with_less number old in
      let found : Option (ℕ × Slot) = find (λ held. tells number held.1) train.limits in
      let gone : filter (λ held. is_used_by (is_limit_gone new train.place) held.1) train.limits ≡ cons_option found [] =
      gone_now (is_limit_gone old train.place) (is_limit_gone new train.place) number (gone_ended judged refl number old) train.limits done.none_gone ∙ told_once number train.limits done.table.once in
      let revoked : limits_revoked new train ≡ cons_option (option_map limit_change.Revoke (identifier_of train.limits number)) [] =
      ap (λ (held : Slots). map limit_change.Revoke (map (λ (one : ℕ × Slot). one.0) held)) gone ∙ one_revoked found in
      let told : limits_told horizon new train ≡ [] = ap (map tell_limit) (ended_told train.limits (limit_as horizon train.place) number 255 (limit_as horizon train.place) (λ entry apart. refl) old.active done.none_left) in
      (λ i. revoked i ++ told i) ∙ alone (option_map limit_change.Revoke (identifier_of train.limits number))
    where
      one_revoked : (found : Option (ℕ × Slot)) → map limit_change.Revoke (map (λ (one : ℕ × Slot). one.0) (cons_option found [])) ≡ cons_option (option_map limit_change.Revoke (option_map (λ held. held.0) found)) []
      one_revoked None = refl
      one_revoked (Some held) = refl

      alone : (o : Option LimitChange) → cons_option o [] ++ [] ≡ cons_option o []
      alone None = refl
      alone (Some it) = refl

-- ---- the half that does not change

no_stop_changes : (train : TrainRec) (stops : Stops) → IsDone 15 (is_stop_gone stops) stops.active (told_as train.place train.forced) train.stops → IsNoneDueOrFull stops train.stops → stop_changes stops train ≡ []
no_stop_changes train stops done due =
    let escalated_none = none_escalated stops train due in
    let left = no_stops_left stops train done in
    (λ i. stops_revoked (escalated_none i) stops train ++ stops_told (escalated_none i) stops train) ∙ (λ i. left.0 i ++ left.1 i)

no_limit_changes : (horizon : ℕ) (train : TrainRec) (limits : Limits) → IsDone 255 (is_limit_gone limits train.place) limits.active (limit_as horizon train.place) train.limits → limit_changes horizon limits train ≡ []
no_limit_changes horizon train limits done =
    let gone = is_limit_gone limits train.place in
    let revoked = ap (map limit_change.Revoke) (none_revoked 255 gone limits.active (limit_as horizon train.place) train.limits done) in
    let told = ap (map tell_limit) (none_told 255 gone limits.active (limit_as horizon train.place) train.limits done) in
    λ i. revoked i ++ told i

stop_alone : (o : Option StopChange) → in_messages (cons_option o []) [] ≡ cons_option (option_map ChangesStop o) []
stop_alone None = refl
stop_alone (Some it) = refl

limit_alone : (o : Option LimitChange) → in_messages [] (cons_option o []) ≡ cons_option (option_map in_one_packet o) []
limit_alone None = refl
limit_alone (Some it) = refl

-- ---- all actions

taken_as : (room : ℕ) (old new one : List Action) → take room old ≡ [] → (old ≡ [] → new ≡ one) → take room new ≡ take room one
taken_as zero old new one none then = refl
taken_as (suc room) [] new one none then = ap (take (suc room)) (then refl)
taken_as (suc room) (action ∷ old) new one none then = absurd (not_empty action (take room old) none)

pub one_action : (plan : Plan) (changed : Change) (w : World) (stops : Stops) (limits : Limits) (train : TrainRec) → AreNumbered w.stops → AreNumbered w.limits → HasTables train
    → actions_with_stamp plan w.stops w.limits train ≡ [] → HasChanged changed w stops limits
    → actions_with_stamp plan stops limits (forgotten (released_by changed) train) ≡ actions_for plan changed (forgotten (released_by changed) train)
one_action plan (change.Stop number None) w stops limits train h k tables settled changed =
    taken_as (last_stamp - train.stamp) (actions plan w.stops w.limits train) (actions plan stops limits (forget number train)) (cons_option (action_for plan (change.Stop number None) (forget number train)) []) settled
    (λ nothing.
    let done = done_before plan w.stops w.limits train tables h nothing in
    let of_stops = ap (λ (active : Stops). stop_changes active (forget number train)) changed.0 ∙ stop_ended train number w.stops done.stops done.due in
    let of_limits = ap (λ (active : Limits). limit_changes plan.horizon active (forget number train)) changed.1 ∙ no_limit_changes plan.horizon train w.limits done.limits in
    (λ i. in_messages (of_stops i) (of_limits i)) ∙ stop_alone (option_map (λ id. stop_change.Revoke id None) (identifier_of train.stops number)))
one_action plan (change.Stop number (Some area)) w stops limits train h k tables settled changed =
    taken_as (last_stamp - train.stamp) (actions plan w.stops w.limits train) (actions plan stops limits train) (cons_option (action_for plan (change.Stop number (Some area)) train) []) settled
    (λ nothing.
    let done = done_before plan w.stops w.limits train tables h nothing in
    let of_stops = ap (λ (active : Stops). stop_changes active train) changed.0.next ∙ stop_begun train number w.stops done.stops done.due area.now h changed.0.above in
    let of_limits = ap (λ (active : Limits). limit_changes plan.horizon active train) changed.1 ∙ no_limit_changes plan.horizon train w.limits done.limits in
    (λ i. in_messages (of_stops i) (of_limits i)) ∙ stop_alone (option_map tell_stop (both_of (to_tell train.stops (told_as train.place train.forced) (number, area.now)) (least_free 15 train.stops))))
one_action plan (change.Limit number None) w stops limits train h k tables settled changed =
    taken_as (last_stamp - train.stamp) (actions plan w.stops w.limits train) (actions plan stops limits train) (cons_option (action_for plan (change.Limit number None) train) []) settled
    (λ nothing.
    let done = done_before plan w.stops w.limits train tables h nothing in
    let of_stops = ap (λ (active : Stops). stop_changes active train) changed.0 ∙ no_stop_changes train w.stops done.stops done.due in
    let of_limits = ap (λ (active : Limits). limit_changes plan.horizon active train) changed.1 ∙ limit_ended plan.horizon train number w.limits done.limits in
    (λ i. in_messages (of_stops i) (of_limits i)) ∙ limit_alone (option_map limit_change.Revoke (identifier_of train.limits number)))
one_action plan (change.Limit number (Some limit)) w stops limits train h k tables settled changed =
    taken_as (last_stamp - train.stamp) (actions plan w.stops w.limits train) (actions plan stops limits train) (cons_option (action_for plan (change.Limit number (Some limit)) train) []) settled
    (λ nothing.
    let done = done_before plan w.stops w.limits train tables h nothing in
    let of_stops = ap (λ (active : Stops). stop_changes active train) changed.0 ∙ no_stop_changes train w.stops done.stops done.due in
    let of_limits = ap (λ (active : Limits). limit_changes plan.horizon active train) changed.1.next ∙ limit_begun plan.horizon train number w.limits done.limits limit.now k changed.1.above in
    (λ i. in_messages (of_stops i) (of_limits i)) ∙ limit_alone (option_map tell_limit (both_of (to_tell train.limits (limit_as plan.horizon train.place) (number, limit.now)) (least_free 255 train.limits))))
