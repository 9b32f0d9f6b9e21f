-- What an input revokes, where the trains were settled before it.
use Rattle.std.proofs.Common.{◌≡◌, ◌⊎◌, ℕ, zero, suc, ◌-◌, ◌<◌, ◌≤◌, Bool, true, false, not, cond, ◌||◌, ◌&&◌, eqb, ltb, List, [], ◌∷◌, ◌++◌, map, take, length, Option, Some, None, option_and_then, refl, sym, ap, ◌∙◌, subst, arith, inl, inr}
use Rattle.std.specs.List.{filter, filter_map, cons_option, scan, AllByRecursion}
use Rattle.std.specs.Option.{option_map_or}
use Rattle.std.proofs.lemmas.Bool.{cases_Bool, cases_lt, or_parts, or_left, or_right, ne_eqb, eq-eqb, eqb-true}
use Rattle.std.proofs.lemmas.Option.{same_Some}
use Rattle.rbc_track.specs.Plan.{Plan}
use Rattle.rbc_place.specs.Placing.{Place}
use Rattle.rbc_maps.specs.Maps.{has, value_of, with_value, without}
use Rattle.rbc_maps.specs.Numbered.{AreNumbered}
use Rattle.rbc_maps.proofs.MapFacts.{any-with_value, each_fails}
use Rattle.rbc_maps.proofs.MapValues.{value_of-absent}
use Rattle.rbc_ids.specs.declared.slot.Slot.{Slot}
use Rattle.rbc_ids.specs.declared.slot.Slot.TheVariants.{Used, Revoking}
use Rattle.rbc_ids.specs.Table.{Slots, is_ripe}
use Rattle.rbc_zones.specs.declared.segment.Segment.{Segment}
use Rattle.rbc_zones.specs.declared.limit.Dirs.{Dirs}
use Rattle.rbc_zones.specs.Limits.{Limit}
use Rattle.rbc_settle.specs.declared.train.TrainRec.{TrainRec}
use Rattle.rbc_settle.specs.Actions.{Action, ChangesStop, ChangesLimits, groups}
use Rattle.rbc_settle.specs.declared.change.LimitChange.TheVariants as limit_change
use Rattle.rbc_settle.specs.Numbers.{has_number}
use Rattle.rbc_settle.specs.Settling.{Stops, Limits, last_stamp, carried_out, message_of, stop_to_tell, is_used_by, to_revoke, is_stop_gone, is_clear_of, is_limit_gone, due_number, spare_identifiers, escalated, is_stop_revoked, revoke_stop, stops_revoked, stops_told, limits_revoked, limits_told, limit_changes, actions, actions_with_stamp, messages_of}
use Rattle.rbc_settle.specs.WellFormed.{number_in}
use Rattle.rbc_rule.specs.declared.input.Input.{Input}
use Rattle.rbc_rule.specs.declared.input.Input.TheVariants as input
use Rattle.rbc_rule.specs.Effect.{with_next, with_less, forget}
use Rattle.rbc_rule.proofs.WorldMaps.{value_of-with_value, value_of-without}
use Rattle.rbc_rule.proofs.Untouched.{not_empty, both_empty, empty_mapped, no_groups, absent_above}
use Rattle.rbc_live.specs.Known.{number_under}
use Rattle.rbc_account.proofs.Meant.{IsGoneUnder}
use Rattle.rbc_account.proofs.Found.{AreRevokedBy}
use Rattle.rbc_account.proofs.Heard.{not_some}

-- ---- lists that are empty

taken_none : {X : Type 0} (n : ℕ) (xs : List X) → 1 ≤ n → take n xs ≡ [] → xs ≡ []
taken_none zero xs some e = absurd (omega (arith, some))
taken_none (suc n) [] some e = refl
taken_none (suc n) (x ∷ xs) some e = absurd (not_empty x (take n xs) e)

-- ---- where nothing is used by a number that is gone, none is revoked

module _ (gone : ℕ → Bool) (id number : ℕ) (goes : gone number ≡ true) where
  used_by : (slot : Slot) → number_in slot ≡ Some number → is_used_by gone slot ≡ true
  used_by (Used used) e = ap gone (same_Some used.number number e) ∙ goes
  used_by (Revoking stamp) e = absurd (not_some number e)

  further : (key : ℕ) (slot : Slot) (slots : Slots) → is_used_by gone slot ≡ false → number_under ((key, slot) ∷ slots) id ≡ Some number → number_under slots id ≡ Some number
  further key slot slots unused =
      elim (eqb key id) as (λ b. option_and_then (λ one. number_in one) (cond b (Some slot) (value_of slots id)) ≡ Some number → number_under slots id ≡ Some number) [
        | true ↦ λ e. absurd (let bad : true ≡ false = sym (used_by slot e) ∙ unused in cc)
        | false ↦ λ e. e
      ]

  used_there : (slots : Slots) → number_under slots id ≡ Some number → filter (λ held. is_used_by gone held.1) slots ≡ [] → ⊥
  used_there [] under none = not_some number under
  used_there ((key, slot) ∷ slots) under none =
      (elim (is_used_by gone slot) as (λ b. is_used_by gone slot ≡ b → cond b ((key, slot) ∷ filter (λ held. is_used_by gone held.1) slots) (filter (λ held. is_used_by gone held.1) slots) ≡ [] → ⊥) [
        | true ↦ λ is e. not_empty (key, slot) (filter (λ held. is_used_by gone held.1) slots) e
        | false ↦ λ is e. used_there slots (further key slot slots is under) e
      ]) refl none

none_gone : (gone : ℕ → Bool) (slots : Slots) → filter (λ held. is_used_by gone held.1) slots ≡ [] → (id : ℕ) → IsGoneUnder gone slots id → ⊥
none_gone gone slots none id g = used_there gone id g.0 g.2 slots g.1 none

-- ---- a train that was settled

module _ (plan : Plan) (stops : Stops) (limits : Limits) (train : TrainRec) where
  -- nothing was to be done to it, or it has no stamp left
  by_room : actions_with_stamp plan stops limits train ≡ [] → (actions plan stops limits train ≡ []) ⊎ (last_stamp ≤ train.stamp)
  by_room settled = elim (cases_lt train.stamp last_stamp) [
    | inl room ↦ inl (taken_none (last_stamp - train.stamp) (actions plan stops limits train) (omega (arith, room)) settled)
    | inr full ↦ inr full
  ]

  -- then nothing is sent to it
  no_messages : last_stamp ≤ train.stamp → messages_of plan stops limits train ≡ []
  no_messages full =
      let none : last_stamp - train.stamp ≡ 0 = omega (arith, full) in
      ap (λ (n : ℕ). scan carried_out message_of train (take n (actions plan stops limits train))) none

  module _ (none : actions plan stops limits train ≡ []) where
    parts : (map ChangesStop (stops_revoked (escalated stops train) stops train ++ stops_told (escalated stops train) stops train) ≡ []) × (map ChangesLimits (groups (limit_changes plan.horizon limits train)) ≡ [])
    parts = both_empty (map ChangesStop (stops_revoked (escalated stops train) stops train ++ stops_told (escalated stops train) stops train)) (map ChangesLimits (groups (limit_changes plan.horizon limits train))) none

    -- nothing was to be revoked of it
    no_stop_used : filter (λ held. is_used_by (is_stop_revoked stops (escalated stops train)) held.1) train.stops ≡ []
    no_stop_used =
        let revoked = stops_revoked (escalated stops train) stops train in
        let told = stops_told (escalated stops train) stops train in
        empty_mapped (revoke_stop (escalated stops train)) (filter (λ held. is_used_by (is_stop_revoked stops (escalated stops train)) held.1) train.stops)
        (both_empty revoked told (empty_mapped ChangesStop (revoked ++ told) parts.0)).0

    no_limit_used : filter (λ held. is_used_by (is_limit_gone limits train.place) held.1) train.limits ≡ []
    no_limit_used =
        let gone = is_limit_gone limits train.place in
        let changes = no_groups (limit_changes plan.horizon limits train) (empty_mapped ChangesLimits (groups (limit_changes plan.horizon limits train)) parts.1) in
        empty_mapped (λ (held : ℕ × Slot). held.0) (filter (λ held. is_used_by gone held.1) train.limits)
        (empty_mapped limit_change.Revoke (to_revoke gone train.limits) (both_empty (limits_revoked limits train) (limits_told plan.horizon limits train) changes).0)

    pub no_stop : (id : ℕ) → IsGoneUnder (is_stop_revoked stops (escalated stops train)) train.stops id → ⊥
    no_stop id g = none_gone (is_stop_revoked stops (escalated stops train)) train.stops no_stop_used id g

    pub no_limit : (id : ℕ) → IsGoneUnder (is_limit_gone limits train.place) train.limits id → ⊥
    no_limit id g = none_gone (is_limit_gone limits train.place) train.limits no_limit_used id g

-- ---- more that is active

-- with one restriction more the same numbers are gone that were, but for its own, which was
limit_gone_before : (limits : Limits) (number : ℕ) (limit : Limit) (place : Option Place) → AreNumbered limits → limits.last < number
    → (n : ℕ) → is_limit_gone (with_next number limit limits) place n ≡ true → is_limit_gone limits place n ≡ true
limit_gone_before limits number limit place numbered above n gone = elim (cases_Bool (eqb number n)) [
  | inl same ↦
      let absent : value_of limits.active n ≡ None =
      subst (λ (k : ℕ). value_of limits.active k ≡ None) (eqb-true number n same) (value_of-absent number limits.active (absent_above limits.last number limits.active numbered.within above)) in
      ap (λ (o : Option Limit). option_map_or (is_clear_of place) o true) absent
  | inr other ↦
      let as_before : value_of (with_value number limit limits.active) n ≡ value_of limits.active n =
      value_of-with_value number limit limits.active n ∙ ap (λ (b : Bool). cond b (Some limit) (value_of limits.active n)) other in
      sym (ap (λ (o : Option Limit). option_map_or (is_clear_of place) o true) as_before) ∙ gone
]

-- no fewer are kept of a map with one pair more
longer : {W : Type 0} (o : Option W) (xs : List W) → length xs ≤ length (cons_option o xs)
longer None xs = omega arith
longer (Some x) xs = omega arith

longer_both : {W : Type 0} (o : Option W) (xs ys : List W) → length xs ≤ length ys → length (cons_option o xs) ≤ length (cons_option o ys)
longer_both None xs ys le = le
longer_both (Some x) xs ys le = omega (arith, le)

module _ {V W : Type 0} (f : ℕ × V → Option W) (key : ℕ) (value : V) where
  longer_with : (pairs : List (ℕ × V)) → has pairs key ≡ false → length (filter_map f pairs) ≤ length (filter_map f (with_value key value pairs))
  longer_with [] absent = omega arith
  longer_with (pair ∷ pairs) absent =
      let both = or_parts (eqb pair.0 key) (has pairs key) absent in
      elim (ltb key pair.0) as (λ b. length (filter_map f (pair ∷ pairs))
      ≤ length (filter_map f (cond b ((key, value) ∷ pair ∷ pairs) (cond (eqb pair.0 key) ((key, value) ∷ pairs) (pair ∷ with_value key value pairs))))) [
        | true ↦ longer (f (key, value)) (filter_map f (pair ∷ pairs))
        | false ↦ subst (λ (b : Bool). length (filter_map f (pair ∷ pairs)) ≤ length (filter_map f (cond b ((key, value) ∷ pairs) (pair ∷ with_value key value pairs)))) (sym both.0)
            (longer_both (f pair) (filter_map f pairs) (filter_map f (with_value key value pairs)) (longer_with pairs both.1))
      ]

-- what is among the first is among more of them
has_taken : (n m k : ℕ) (ns : List ℕ) → m ≤ k → has_number (take m ns) n ≡ true → has_number (take k ns) n ≡ true
has_taken n zero k ns le there = absurd (let bad : false ≡ true = there in cc)
has_taken n (suc m) zero ns le there = absurd (omega (arith, le))
has_taken n (suc m) (suc k) [] le there = there
has_taken n (suc m) (suc k) (x ∷ ns) le there =
    (elim (eqb x n) as (λ b. (b || has_number (take m ns) n) ≡ true → (b || has_number (take k ns) n) ≡ true) [
      | true ↦ λ h. refl
      | false ↦ λ h. has_taken n m k ns (omega (arith, le)) h
    ]) there

-- the same slots are due where one more stop is active, which none of them uses
dues_with : (gone : ℕ → Bool) (old new : Stops) (number : ℕ) → gone number ≡ true → ((n : ℕ) → eqb number n ≡ false → has new.active n ≡ has old.active n)
    → (slots : Slots) → AllByRecursion (λ held. is_used_by gone held.1 ≡ false) slots → filter_map (λ held. due_number new held.1) slots ≡ filter_map (λ held. due_number old held.1) slots
dues_with gone old new number goes same [] unused = refl
dues_with gone old new number goes same ((id, Revoking stamp) ∷ slots) unused = dues_with gone old new number goes same slots unused.1
dues_with gone old new number goes same ((id, Used used) ∷ slots) unused =
    let other : eqb number used.number ≡ false =
    ne_eqb number used.number (λ is. absurd (let bad : true ≡ false = sym goes ∙ ap gone is ∙ unused.0 in cc)) in
    ap (λ (b : Bool). cons_option (cond (is_ripe (Used used) && b) (Some used.number) None) (filter_map (λ held. due_number new held.1) slots)) (same used.number other)
    ∙ ap (cons_option (due_number old (Used used))) (dues_with gone old new number goes same slots unused.1)

module _ (stops : Stops) (train : TrainRec) (number : ℕ) (area : List Segment) (numbered : AreNumbered stops) (above : stops.last < number)
    (unused : filter (λ held. is_used_by (is_stop_revoked stops (escalated stops train)) held.1) train.stops ≡ []) where
  abbrev more : Stops
  more = with_next number area stops

  absent : has stops.active number ≡ false
  absent = absent_above stops.last number stops.active numbered.within above

  active_with : (n : ℕ) → has more.active n ≡ (eqb number n || has stops.active n)
  active_with n = any-with_value number area (λ pair. eqb pair.0 n) stops.active absent

  was_gone : is_stop_revoked stops (escalated stops train) number ≡ true
  was_gone = or_left (is_stop_gone stops number) (has_number (escalated stops train) number) (ap not absent)

  same_dues : filter_map (λ held. due_number more held.1) train.stops ≡ filter_map (λ held. due_number stops held.1) train.stops
  same_dues =
      let revoked = is_stop_revoked stops (escalated stops train) in
      dues_with revoked stops more number was_gone (λ n other. active_with n ∙ ap (λ (b : Bool). b || has stops.active n) other) train.stops
      (each_fails (λ held. is_used_by revoked held.1) train.stops unused)

  no_more_spare : spare_identifiers more train ≤ spare_identifiers stops train
  no_more_spare = let wanted = longer_with (stop_to_tell train) number area stops.active absent in omega (arith, wanted)

  escalated_before : (n : ℕ) → has_number (escalated more train) n ≡ true → has_number (escalated stops train) n ≡ true
  escalated_before n there =
      has_taken n (spare_identifiers more train) (spare_identifiers stops train) (filter_map (λ held. due_number stops held.1) train.stops) no_more_spare
      (sym (ap (λ (ns : List ℕ). has_number (take (spare_identifiers more train) ns) n) same_dues) ∙ there)

  gone_before : (n : ℕ) → is_stop_gone more n ≡ true → is_stop_gone stops n ≡ true
  gone_before n gone = fewer (eqb number n) (has stops.active n) (sym (ap not (active_with n)) ∙ gone)
    where
      fewer : (a b : Bool) → not (a || b) ≡ true → not b ≡ true
      fewer true b e = absurd (let bad : false ≡ true = e in cc)
      fewer false b e = e

  -- with one stop more the same are revoked
  revoked_before : (n : ℕ) → is_stop_revoked more (escalated more train) n ≡ true → is_stop_revoked stops (escalated stops train) n ≡ true
  revoked_before n gone = elim (cases_Bool (is_stop_gone more n)) [
    | inl ended ↦ or_left (is_stop_gone stops n) (has_number (escalated stops train) n) (gone_before n ended)
    | inr active ↦ or_right (is_stop_gone stops n) (has_number (escalated stops train) n)
        (escalated_before n (sym (ap (λ (b : Bool). b || has_number (escalated more train) n) active) ∙ gone))
  ]

-- ---- inputs after which a settled train is settled

module _ (plan : Plan) (before : Option TrainRec) (stops : Stops) (limits : Limits) (train : TrainRec) (settled : actions_with_stamp plan stops limits train ≡ []) where
  -- nothing is sent to a train that an input leaves, with all that is active
  pub at_others : (one : Input) → AreRevokedBy plan one before stops limits train
  at_others one = inl (ap (λ (acts : List Action). scan carried_out message_of train acts) settled)

  pub at_lift : (number : ℕ) → AreRevokedBy plan (input.Lift number) before stops (with_less number limits) train
  at_lift number = elim (by_room plan stops limits train settled) [
    | inl none ↦ inr ((λ id g. absurd (no_stop plan stops limits train none id g)), (λ id g. (number, refl, ended)))
    | inr full ↦ inl (no_messages plan stops (with_less number limits) train full)
  ]
    where
      ended : option_map_or (is_clear_of train.place) (value_of (without number limits.active) number) true ≡ true
      ended = ap (λ (o : Option Limit). option_map_or (is_clear_of train.place) o true)
          (value_of-without number limits.active number ∙ ap (λ (b : Bool). cond b None (value_of limits.active number)) (eq-eqb number number refl))

  pub at_release : (number : ℕ) → AreRevokedBy plan (input.Release number) before (with_less number stops) limits (forget number train)
  at_release number = elim (by_room plan stops limits train settled) [
    | inl none ↦ inr ((λ id g. (number, refl)), (λ id g. absurd (no_limit plan stops limits train none id g)))
    | inr full ↦ inl (no_messages plan (with_less number stops) limits (forget number train) full)
  ]

  pub at_restrict : (number : ℕ) (segment : Segment) (dirs : Dirs) (speed : ℕ) (front : Bool) (limit : Limit) → AreNumbered limits → limits.last < number
      → AreRevokedBy plan (input.Restrict number segment dirs speed front) before stops (with_next number limit limits) train
  at_restrict number segment dirs speed front limit numbered above = elim (by_room plan stops limits train settled) [
    | inl none ↦ inr (
      (λ id g. absurd (no_stop plan stops limits train none id g)),
      (λ id g. absurd (no_limit plan stops limits train none id (g.0, g.1, limit_gone_before limits number limit train.place numbered above g.0 g.2))),
    )
    | inr full ↦ inl (no_messages plan stops (with_next number limit limits) train full)
  ]

  pub at_stop : (number : ℕ) (area : List Segment) → AreNumbered stops → stops.last < number
      → AreRevokedBy plan (input.Stop number area) before (with_next number area stops) limits train
  at_stop number area numbered above = elim (by_room plan stops limits train settled) [
    | inl none ↦ inr (
      (λ id g. absurd (no_stop plan stops limits train none id (g.0, g.1, revoked_before stops train number area numbered above (no_stop_used plan stops limits train none) g.0 g.2))),
      (λ id g. absurd (no_limit plan stops limits train none id g)),
    )
    | inr full ↦ inl (no_messages plan (with_next number area stops) limits train full)
  ]
