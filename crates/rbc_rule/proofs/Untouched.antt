-- Nothing is to be done to a train that was settled before a change that does not touch it.
use Rattle.std.proofs.Common.{◌≡◌, ℕ, zero, suc, ◌-◌, ◌<◌, ◌≤◌, ◌⊎◌, Bool, true, false, not, cond, ◌&&◌, eqb, ltb, List, [], ◌∷◌, ◌++◌, length, map, take, drop, Option, Some, None, is_none, is_some, All, refl, sym, ap, ◌∙◌, subst, arith, inl, inr}
use Rattle.std.specs.List.{filter, filter_map, cons_option, list_any, zip, scan, AllByRecursion}
use Rattle.std.specs.Option.{option_map, option_map_or}
use Rattle.std.proofs.lemmas.Bool.{cases_eq, cases_lt, le-ltb, lt-ltb, or_from, or_left, or_right, or_parts, and_from, eq-eqb, ne_eqb, eqb-true}
use Rattle.std.proofs.lemmas.List.Elements.{All-head, All-tail}
use Rattle.rbc_track.specs.Plan.{Plan}
use Rattle.rbc_place.specs.Placing.{Place}
use Rattle.rbc_maps.specs.Maps.{has, value_of, with_value, without, keys}
use Rattle.rbc_maps.specs.Numbered.{Numbered, AreNumbered}
use Rattle.rbc_maps.proofs.MapFacts.{each_fails}
use Rattle.rbc_maps.proofs.MapValues.{value_of-absent}
use Rattle.rbc_ids.specs.declared.slot.Slot.{Slot}
use Rattle.rbc_ids.specs.declared.slot.Slot.TheVariants.{Used, Revoking}
use Rattle.rbc_ids.specs.Table.{Slots, IsTable, is_told, is_ripe, free_identifiers}
use Rattle.rbc_ids.proofs.Gaps.{run, least_free-run, run_is_all}
use Rattle.rbc_ids.proofs.Tables.{few}
use Rattle.rbc_zones.specs.declared.segment.Segment.{Segment}
use Rattle.rbc_zones.specs.declared.stop_meaning.Concern.{Concern}
use Rattle.rbc_zones.specs.declared.stop_meaning.Concern.TheVariants as concern
use Rattle.rbc_zones.specs.Limits.{Limit}
use Rattle.rbc_settle.specs.declared.train.TrainRec.{TrainRec}
use Rattle.rbc_settle.specs.Actions.{Action, ChangesStop, ChangesLimits, groups}
use Rattle.rbc_settle.specs.declared.change.LimitChange.TheVariants as limit_change
use Rattle.rbc_settle.specs.Numbers.{has_number}
use Rattle.rbc_settle.specs.Settling.{Stops, Limits, last_stamp, carried_out, message_of, told_stop, concern_to, limit_told_to, is_used_by, to_revoke, is_stop_gone, is_limit_gone, is_clear_of, stop_to_tell, due_number, spare_identifiers, escalated, is_stop_revoked, revoke_stop, tell_stop, tell_limit, stops_revoked, stops_told, limits_revoked, limits_told, limit_changes, actions, actions_with_stamp, messages_of, to_engine}
use Rattle.rbc_settle.specs.UpToDate.{HasTables}
use Rattle.rbc_settle.proofs.Wanted.{to_tell, wanted_of}
use Rattle.rbc_settle.proofs.Done.{IsDone}
use Rattle.rbc_settle.proofs.Concerned.{told_as, limit_as}
use Rattle.rbc_settle.proofs.Due.{dues}
use Rattle.rbc_settle.proofs.Escalating.{IsNoneDueOrFull, escalated_by_revoked}
use Rattle.rbc_settle.proofs.Groups.{groups_cons}
use Rattle.rbc_settle.proofs.Achieves.{AreDone, revoked_as_gone, no_actions}
use Rattle.rbc_settle.proofs.Judging.{value_is_none}
use Rattle.rbc_settle.specs.declared.single_change.Change.{Change}
use Rattle.rbc_settle.specs.declared.single_change.Change.TheVariants as change
use Rattle.rbc_settle.proofs.NothingLeft.{none_passes, empty}
use Rattle.rbc_rule.specs.World.{World}
use Rattle.rbc_rule.specs.Effect.{with_next, with_less}
use Rattle.rbc_rule.specs.Gathered.{is_forced_by, is_same, sent_of}
use Rattle.rbc_records.specs.SoughtTrains.{is_concern}
use Rattle.rbc_rule.specs.Touching.{is_stop_for, is_limit_for, touches, HasBegun, HasChanged, released_by}
use Rattle.rbc_rule.proofs.AllTrains.{forgotten_same}

-- ---- lists that come out empty

pub not_empty : {A : Type 0} (x : A) (xs : List A) → x ∷ xs ≡ [] → ⊥
not_empty x xs e = cc

pub both_empty : {A : Type 0} (xs ys : List A) → xs ++ ys ≡ [] → (xs ≡ []) × (ys ≡ [])
both_empty [] ys e = (refl, e)
both_empty (x ∷ xs) ys e = absurd (not_empty x (xs ++ ys) e)

pub empty_mapped : {A B : Type 0} (f : A → B) (xs : List A) → map f xs ≡ [] → xs ≡ []
empty_mapped f [] e = refl
empty_mapped f (x ∷ xs) e = absurd (not_empty (f x) (map f xs) e)

empty_zipped : {K Y : Type 0} (ks : List K) (ys : List Y) → zip ks ys ≡ [] → (ks ≡ []) ⊎ (ys ≡ [])
empty_zipped [] ys e = inl refl
empty_zipped (k ∷ ks) [] e = inr refl
empty_zipped (k ∷ ks) (y ∷ ys) e = absurd (not_empty (k, y) (zip ks ys) e)

-- where nothing is kept, each element gives nothing
each_gives_none : {A B : Type 0} (f : A → Option B) (xs : List A) → filter_map f xs ≡ [] → AllByRecursion (λ x. f x ≡ None) xs
each_gives_none f [] e = tt
each_gives_none {A} {B} f (x ∷ xs) e =
    (elim (f x) as (λ o. f x ≡ o → cons_option o (filter_map f xs) ≡ [] → (f x ≡ None) × AllByRecursion (λ other. f other ≡ None) xs) [
      | None ↦ λ is rest. (is, each_gives_none f xs rest)
      | Some y ↦ λ is rest. absurd (not_empty y (filter_map f xs) rest)
    ]) refl e

-- a list in which no number is is empty
empty_without : (ns : List ℕ) → ((n : ℕ) → has_number ns n ≡ true → ⊥) → ns ≡ []
empty_without [] none = refl
empty_without (n ∷ ns) none = absurd (none n (or_left (eqb n n) (has_number ns n) (eq-eqb n n refl)))

-- so is one of whose numbers none is taken
first_empty : (more : ℕ) (ns : List ℕ) → take (suc more) ns ≡ [] → ns ≡ []
first_empty more [] e = refl
first_empty more (n ∷ ns) e = absurd (not_empty n (take more ns) e)

-- what is taken of other actions is nothing too, if they are none where the first ones are
nothing_taken : (room : ℕ) (old new : List Action) → take room old ≡ [] → (old ≡ [] → new ≡ []) → take room new ≡ []
nothing_taken zero old new e h = refl
nothing_taken (suc room) [] new e h = ap (take (suc room)) (h refl)
nothing_taken (suc room) (action ∷ old) new e h = absurd (not_empty action (take room old) e)

-- ---- a table for which there was nothing to do

-- what is told under a number is none where nothing is told, or where that is held back
none_or_true : {T : Type 0} (number : ℕ) (b : Bool) (o : Option T) → cond {A = Option (ℕ × T)} b None (option_map {U = ℕ × T} (λ told. (number, told)) o) ≡ None → (o ≡ None) ⊎ (b ≡ true)
none_or_true number true o e = inr refl
none_or_true number false None e = inl refl
none_or_true {T} number false (Some told) e = absurd (some_is_some (number, told) e)
  where
    some_is_some : (x : ℕ × T) → Some x ≡ None → ⊥
    some_is_some x h = cc

module _ {X T : Type 0} (slots : Slots) (what : ℕ × X → Option T) where
  -- nothing to the train, or told
  abbrev pub IsNothingOrTold : ℕ × X → Type 0
  IsNothingOrTold entry = (what entry ≡ None) ⊎ (is_told slots entry.0 ≡ true)

  nothing_or_told : (entry : ℕ × X) → to_tell slots what entry ≡ None → IsNothingOrTold entry
  nothing_or_told entry e = none_or_true entry.0 (is_told slots entry.0) (what entry) e

  each_nothing_or_told : (active : List (ℕ × X)) → AllByRecursion (λ entry. to_tell slots what entry ≡ None) active → AllByRecursion IsNothingOrTold active
  each_nothing_or_told [] all = tt
  each_nothing_or_told (entry ∷ active) all = (nothing_or_told entry all.0, each_nothing_or_told active all.1)

module _ {X T : Type 0} (count : ℕ) (gone : ℕ → Bool) (active : List (ℕ × X)) (what : ℕ × X → Option T) (slots : Slots) where
  -- nothing to revoke and nothing to tell
  done_where_none : IsTable count slots → to_revoke gone slots ≡ [] → zip (wanted_of slots what active) (free_identifiers count slots) ≡ [] → IsDone count gone active what slots
  done_where_none table revoked told = record {
    table = table;
    none_gone = none_passes gone slots (each_fails (λ held. is_used_by gone held.1) slots (empty_mapped (λ (held : ℕ × Slot). held.0) (filter (λ held. is_used_by gone held.1) slots) revoked));
    none_left = elim (empty_zipped (wanted_of slots what active) (free_identifiers count slots) told) [
      | inl none_wanted ↦ inr (each_nothing_or_told slots what active (each_gives_none (to_tell slots what) active none_wanted))
      | inr none_free ↦ inl none_free
    ];
  }

module _ (stops : Stops) (train : TrainRec) (table : IsTable 15 train.stops) (numbered : AreNumbered stops) where
  -- where nothing is revoked nothing is escalated, since what is escalated is revoked
  none_escalated_before : filter (λ held. is_used_by (is_stop_revoked stops (escalated stops train)) held.1) train.stops ≡ [] → escalated stops train ≡ []
  none_escalated_before none = empty_without (escalated stops train) (λ n there.
      let bad = ap (λ (slots : Slots). is_told slots n) (sym none) ∙ escalated_by_revoked stops train table numbered n there in
      absurd (let no : false ≡ true = bad in cc))

  -- where nothing is escalated no slot is due, unless no identifier is free
  none_due_where : escalated stops train ≡ [] → (wanted_of train.stops (told_as train.place train.forced) stops.active ≡ []) ⊎ (free_identifiers 15 train.stops ≡ []) → IsNoneDueOrFull stops train.stops
  none_due_where none ends = elim ends [
    | inl none_wanted ↦ by_spare (free_identifiers 15 train.stops) refl none_wanted
    | inr none_free ↦ inl none_free
  ]
    where
      by_spare : (free : List ℕ) → free_identifiers 15 train.stops ≡ free → wanted_of train.stops (told_as train.place train.forced) stops.active ≡ [] → IsNoneDueOrFull stops train.stops
      by_spare [] is none_wanted = inl is
      by_spare (id ∷ ids) is none_wanted =
          let many : length (free_identifiers 15 train.stops) ≡ suc (length ids) = ap length is in
          let needed : length (filter_map (stop_to_tell train) stops.active) ≡ 0 = ap length none_wanted in
          let some : spare_identifiers stops train ≡ suc (length ids) = omega (arith, many, needed) in
          inr (first_empty (length ids) (dues stops train.stops) (sym (ap (λ (n : ℕ). take n (dues stops train.stops)) some) ∙ none))

  -- where there is no action for stops nothing is left to do for them
  stops_before : map (revoke_stop (escalated stops train)) (filter (λ held. is_used_by (is_stop_revoked stops (escalated stops train)) held.1) train.stops) ≡ [] → stops_told (escalated stops train) stops train ≡ []
      → IsDone 15 (is_stop_gone stops) stops.active (told_as train.place train.forced) train.stops × IsNoneDueOrFull stops train.stops
  stops_before revoked told =
      let none = empty_mapped (revoke_stop (escalated stops train)) (filter (λ held. is_used_by (is_stop_revoked stops (escalated stops train)) held.1) train.stops) revoked in
      let escalated_none = none_escalated_before none in
      let kept : filter (λ held. is_used_by (is_stop_gone stops) held.1) train.stops ≡ [] =
      sym (ap (λ (gone : ℕ → Bool). filter (λ held. is_used_by gone held.1) train.stops) (revoked_as_gone stops))
      ∙ sym (ap (λ (forced_now : List ℕ). filter (λ held. is_used_by (is_stop_revoked stops forced_now) held.1) train.stops) escalated_none) ∙ none in
      let paired : zip (wanted_of train.stops (told_as train.place train.forced) stops.active) (free_identifiers 15 train.stops) ≡ [] =
      empty_mapped tell_stop (zip (wanted_of train.stops (told_as train.place train.forced) stops.active) (free_identifiers 15 train.stops))
      (sym (ap (λ (forced_now : List ℕ). stops_told forced_now stops train) escalated_none) ∙ told) in (
        done_where_none 15 (is_stop_gone stops) stops.active (told_as train.place train.forced) train.stops table (ap (map (λ (held : ℕ × Slot). held.0)) kept) paired,
        none_due_where escalated_none (empty_zipped (wanted_of train.stops (told_as train.place train.forced) stops.active) (free_identifiers 15 train.stops) paired),
      )

-- no group, no item
pub no_groups : {X : Type 0} (items : List X) → groups items ≡ [] → items ≡ []
no_groups [] none = refl
no_groups {X} (x ∷ xs) none = absurd (let bad : take 100 (x ∷ xs) ∷ groups (drop 100 (x ∷ xs)) ≡ [] = sym (groups_cons x xs) ∙ none in cc)

-- a train without an action
pub done_before : (plan : Plan) (stops : Stops) (limits : Limits) (train : TrainRec) → HasTables train → AreNumbered stops → actions plan stops limits train ≡ [] → AreDone plan.horizon stops limits train
done_before plan stops limits train tables numbered none =
    let revoked = stops_revoked (escalated stops train) stops train in
    let told = stops_told (escalated stops train) stops train in
    let both = both_empty (map ChangesStop (revoked ++ told)) (map ChangesLimits (groups (limit_changes plan.horizon limits train))) none in
    let first = both_empty revoked told (empty_mapped ChangesStop (revoked ++ told) both.0) in
    let last = both_empty (limits_revoked limits train) (limits_told plan.horizon limits train)
    (no_groups (limit_changes plan.horizon limits train) (empty_mapped ChangesLimits (groups (limit_changes plan.horizon limits train)) both.1)) in
    let before = stops_before stops train tables.stops numbered first.0 first.1 in
    record {
      stops = before.0;
      limits = done_where_none 255 (is_limit_gone limits train.place) limits.active (limit_as plan.horizon train.place) train.limits tables.limits
          (empty_mapped limit_change.Revoke (to_revoke (is_limit_gone limits train.place) train.limits) last.0)
          (empty_mapped tell_limit (zip (wanted_of train.limits (limit_as plan.horizon train.place) limits.active) (free_identifiers 255 train.limits)) last.1);
      due = before.1;
    }

-- ---- entries and values after a change

-- a number above all keys is no key
pub absent_above : {V : Type 0} (last number : ℕ) (pairs : List (ℕ × V)) → All (λ n. n ≤ last) (keys pairs) → last < number → has pairs number ≡ false
absent_above last number [] within above = refl
absent_above last number (pair ∷ pairs) within above =
    let below : pair.0 ≤ last = All-head (λ n. n ≤ last) pair.0 (keys pairs) within in
    or_from (eqb pair.0 number) (has pairs number) (ne_eqb pair.0 number (λ same. absurd (omega (arith, same, below, above)))) (absent_above last number pairs (All-tail (λ n. n ≤ last) pair.0 (keys pairs) within) above)

module _ {V : Type 0} (number : ℕ) where
  -- what holds of each entry and of one more holds of each with that one
  each_with : (P : ℕ × V → Type 0) (value : V) (pairs : List (ℕ × V)) → P (number, value) → AllByRecursion P pairs → AllByRecursion P (with_value number value pairs)
  each_with P value [] it all = (it, tt)
  each_with P value (pair ∷ pairs) it all =
      elim (ltb number pair.0) as (λ b. AllByRecursion P (cond b ((number, value) ∷ pair ∷ pairs) (cond (eqb pair.0 number) ((number, value) ∷ pairs) (pair ∷ with_value number value pairs)))) [
        | true ↦ (it, all)
        | false ↦ elim (eqb pair.0 number) as (λ b. AllByRecursion P (cond b ((number, value) ∷ pairs) (pair ∷ with_value number value pairs))) [
          | true ↦ (it, all.1)
          | false ↦ (all.0, each_with P value pairs it all.1)
        ]
      ]

  -- and of each that is left
  each_without : (P : ℕ × V → Type 0) (pairs : List (ℕ × V)) → AllByRecursion P pairs → AllByRecursion P (without number pairs)
  each_without P [] all = tt
  each_without P (pair ∷ pairs) all =
      elim (eqb pair.0 number) as (λ b. AllByRecursion P (cond (not b) (pair ∷ without number pairs) (without number pairs))) [
        | true ↦ each_without P pairs all.1
        | false ↦ (all.0, each_without P pairs all.1)
      ]

  module _ (n : ℕ) (other : eqb number n ≡ false) where
    -- the key that is written is not the other one
    past_it : (pair : ℕ × V) (rest : Option V) → eqb pair.0 number ≡ true → rest ≡ cond (eqb pair.0 n) (Some pair.1) rest
    past_it pair rest same = ap (λ (b : Bool). cond b (Some pair.1) rest) (sym (ap (λ (m : ℕ). eqb m n) (eqb-true pair.0 number same) ∙ other))

    -- another number keeps its value beside one more
    pub value_of-with : (value : V) (pairs : List (ℕ × V)) → value_of (with_value number value pairs) n ≡ value_of pairs n
    value_of-with value [] = ap (λ (b : Bool). cond b (Some value) None) other
    value_of-with value (pair ∷ pairs) =
        elim (ltb number pair.0) as (λ b. value_of (cond b ((number, value) ∷ pair ∷ pairs) (cond (eqb pair.0 number) ((number, value) ∷ pairs) (pair ∷ with_value number value pairs))) n ≡ value_of (pair ∷ pairs) n) [
          | true ↦ ap (λ (b : Bool). cond b (Some value) (value_of (pair ∷ pairs) n)) other
          | false ↦ (elim (eqb pair.0 number) as (λ b. eqb pair.0 number ≡ b → value_of (cond b ((number, value) ∷ pairs) (pair ∷ with_value number value pairs)) n ≡ value_of (pair ∷ pairs) n) [
            | true ↦ λ same. ap (λ (b : Bool). cond b (Some value) (value_of pairs n)) other ∙ past_it pair (value_of pairs n) same
            | false ↦ λ apart. ap (cond (eqb pair.0 n) (Some pair.1)) (value_of-with value pairs)
          ]) refl
        ]

    -- and with one less
    pub value_of-without : (pairs : List (ℕ × V)) → value_of (without number pairs) n ≡ value_of pairs n
    value_of-without [] = refl
    value_of-without (pair ∷ pairs) =
        (elim (eqb pair.0 number) as (λ b. eqb pair.0 number ≡ b → value_of (cond (not b) (pair ∷ without number pairs) (without number pairs)) n ≡ value_of (pair ∷ pairs) n) [
          | true ↦ λ same. value_of-without pairs ∙ past_it pair (value_of pairs n) same
          | false ↦ λ apart. ap (cond (eqb pair.0 n) (Some pair.1)) (value_of-without pairs)
        ]) refl

-- ---- a table for which there is nothing to do after a change

-- where a number that is told was not gone and is not gone now, no slot is used by one that is
pub none_gone_still : (before after : ℕ → Bool) (slots : Slots) → ((n : ℕ) → is_told slots n ≡ true → before n ≡ false → after n ≡ false)
    → list_any (λ held. is_used_by before held.1) slots ≡ false → list_any (λ held. is_used_by after held.1) slots ≡ false
none_gone_still before after [] kept none = refl
none_gone_still before after ((id, Used used) ∷ slots) kept none =
    let number = used.number in
    let parts = or_parts (before number) (list_any (λ held. is_used_by before held.1) slots) none in
    or_from (after number) (list_any (λ held. is_used_by after held.1) slots)
    (kept number (or_left (eqb number number) (is_told slots number) (eq-eqb number number refl)) parts.0)
    (none_gone_still before after slots (λ n told. kept n (or_right (eqb number n) (is_told slots n) told)) parts.1)
none_gone_still before after ((id, Revoking stamp) ∷ slots) kept none = none_gone_still before after slots kept none

-- a number that is told is not one that is not
another_told : (slots : Slots) (number n : ℕ) → is_told slots number ≡ false → is_told slots n ≡ true → eqb number n ≡ false
another_told slots number n untold told = ne_eqb number n (λ same. let bad : true ≡ false = sym told ∙ ap (is_told slots) (sym same) ∙ untold in absurd cc)

module _ {X T : Type 0} (count : ℕ) (judge : Option X → Bool) (judged_none : judge None ≡ true) (what : ℕ × X → Option T) (slots : Slots) (number : ℕ) (old : Numbered X) where
  abbrev pub is_gone : Numbered X → ℕ → Bool
  is_gone numbered n = judge (value_of numbered.active n)

  -- no number is gone for a value that begins
  pub kept_begun : (value : X) → AreNumbered old → old.last < number → (n : ℕ) → is_gone old n ≡ false → is_gone (with_next number value old) n ≡ false
  kept_begun value numbered above n there = elim (cases_eq number n) [
    | inl same ↦
        let absent : value_of old.active number ≡ None = value_of-absent number old.active (absent_above old.last number old.active numbered.within above) in
        let bad : true ≡ false = sym (ap (is_gone old) (sym same) ∙ ap judge absent ∙ judged_none) ∙ there in
        absurd cc
    | inr other ↦ ap judge (value_of-with number n (ne_eqb number n other) value old.active) ∙ there
  ]

  -- nothing is left to do once a value begins that is nothing to the train, or for which no identifier is free
  done_begun : (value : X) → AreNumbered old → old.last < number → (free_identifiers count slots ≡ []) ⊎ (what (number, value) ≡ None)
      → IsDone count (is_gone old) old.active what slots → IsDone count (is_gone (with_next number value old)) (with_value number value old.active) what slots
  done_begun value numbered above new done = record {
    table = done.table;
    none_gone = none_gone_still (is_gone old) (is_gone (with_next number value old)) slots (λ n told there. kept_begun value numbered above n there) done.none_gone;
    none_left = elim done.none_left [
      | inl none_free ↦ inl none_free
      | inr all ↦ elim new [
        | inl none_free ↦ inl none_free
        | inr nothing ↦ inr (each_with number (IsNothingOrTold slots what) value old.active (inl nothing) all)
      ]
    ];
  }

  -- or once a value ends that is not told
  done_ended : is_told slots number ≡ false → IsDone count (is_gone old) old.active what slots → IsDone count (is_gone (with_less number old)) (without number old.active) what slots
  done_ended untold done = record {
    table = done.table;
    none_gone = none_gone_still (is_gone old) (is_gone (with_less number old)) slots
        (λ n told there. ap judge (value_of-without number n (another_told slots number n untold told) old.active) ∙ there) done.none_gone;
    none_left = elim done.none_left [
      | inl none_free ↦ inl none_free
      | inr all ↦ inr (each_without number (IsNothingOrTold slots what) old.active all)
    ];
  }

-- ---- the stops and the restrictions of a train

-- no identifier is free where all are held
pub none_free : (count : ℕ) (slots : Slots) → IsTable count slots → count ≤ length slots → free_identifiers count slots ≡ []
none_free count slots table full =
    let most : length slots ≤ count = few count slots table in
    let all : run 0 slots ≡ count = run_is_all count slots table (omega (arith, full, most)) in
    empty (free_identifiers count slots) (least_free-run count slots table ∙ ap (λ (b : Bool). cond b (Some (run 0 slots)) None) (le-ltb (run 0 slots) count (omega (arith, all))))

-- what fails where an identifier has to be free fails itself, or none is free
no_room_or_fails : (count : ℕ) (slots : Slots) (b : Bool) → IsTable count slots → (ltb (length slots) count && b) ≡ false → (free_identifiers count slots ≡ []) ⊎ (b ≡ false)
no_room_or_fails count slots b table e = elim (cases_lt (length slots) count) [
  | inl room ↦ inr (sym (ap (λ (c : Bool). c && b) (lt-ltb (length slots) count room)) ∙ e)
  | inr full ↦ inl (none_free count slots table full)
]

told_as_nothing : (place : Option Place) (c : Concern) → is_concern c ≡ false → told_stop place c ≡ None
told_as_nothing None concern.None e = refl
told_as_nothing (Some p) concern.None e = refl
told_as_nothing place concern.Now e = absurd (let bad : true ≡ false = e in cc)
told_as_nothing place (concern.Before edge) e = absurd (let bad : true ≡ false = e in cc)

none_where_not_some : {A : Type 0} (o : Option A) → is_some o ≡ false → o ≡ None
none_where_not_some None e = refl
none_where_not_some (Some x) e = absurd (let bad : true ≡ false = e in cc)

-- a stop is gone where no area is active under its number
pub stop_gone : (stops : Stops) → (λ (n : ℕ). is_none (value_of stops.active n)) ≡ is_stop_gone stops
stop_gone stops = λ i n. value_is_none stops.active n i

module _ (train : TrainRec) (tables : HasTables train) (number : ℕ) where
  -- nothing is left to do for the stops that it is told
  abbrev AreStopsDone : Stops → Type 0
  AreStopsDone stops = IsDone 15 (is_stop_gone stops) stops.active (told_as train.place train.forced) train.stops

  abbrev IsStopTableDone : Stops → (ℕ → Bool) → Type 0
  IsStopTableDone stops gone = IsDone 15 gone stops.active (told_as train.place train.forced) train.stops

  stop_begun : (area : List Segment) (old new : Stops) → AreNumbered old → is_stop_for train (number, area) ≡ false → HasBegun number area old new → AreStopsDone old → AreStopsDone new
  stop_begun area old new numbered not_for begun done =
      let nothing : (free_identifiers 15 train.stops ≡ []) ⊎ (told_as train.place train.forced (number, area) ≡ None) =
      elim (no_room_or_fails 15 train.stops (is_concern (concern_to train (number, area))) tables.stops not_for) [
        | inl none_free ↦ inl none_free
        | inr none ↦ inr (told_as_nothing train.place (concern_to train (number, area)) none)
      ] in
      subst AreStopsDone (sym begun.next) (subst (IsStopTableDone (with_next number area old)) (stop_gone (with_next number area old))
      (done_begun 15 is_none refl (told_as train.place train.forced) train.stops number old area numbered begun.above nothing (subst (IsStopTableDone old) (sym (stop_gone old)) done)))

  stop_ended : (old new : Stops) → is_told train.stops number ≡ false → new ≡ with_less number old → AreStopsDone old → AreStopsDone new
  stop_ended old new untold less done =
      subst AreStopsDone (sym less) (subst (IsStopTableDone (with_less number old)) (stop_gone (with_less number old))
      (done_ended 15 is_none refl (told_as train.place train.forced) train.stops number old untold (subst (IsStopTableDone old) (sym (stop_gone old)) done)))

  -- and for the restrictions
  abbrev AreLimitsDone : ℕ → Limits → Type 0
  AreLimitsDone horizon limits = IsDone 255 (is_limit_gone limits train.place) limits.active (limit_as horizon train.place) train.limits

  abbrev judged : Option Limit → Bool
  judged limit = option_map_or (is_clear_of train.place) limit true

  limit_begun : (horizon : ℕ) (limit : Limit) (old new : Limits) → AreNumbered old → is_limit_for horizon train limit ≡ false → HasBegun number limit old new → AreLimitsDone horizon old → AreLimitsDone horizon new
  limit_begun horizon limit old new numbered not_for begun done =
      let nothing : (free_identifiers 255 train.limits ≡ []) ⊎ (limit_as horizon train.place (number, limit) ≡ None) =
      elim (no_room_or_fails 255 train.limits (is_some (limit_told_to horizon train.place limit)) tables.limits not_for) [
        | inl none_free ↦ inl none_free
        | inr none ↦ inr (none_where_not_some (limit_told_to horizon train.place limit) none)
      ] in
      subst (AreLimitsDone horizon) (sym begun.next) (done_begun 255 judged refl (limit_as horizon train.place) train.limits number old limit numbered begun.above nothing done)

  limit_ended : (horizon : ℕ) (old new : Limits) → is_told train.limits number ≡ false → new ≡ with_less number old → AreLimitsDone horizon old → AreLimitsDone horizon new
  limit_ended horizon old new untold less done = subst (AreLimitsDone horizon) (sym less) (done_ended 255 judged refl (limit_as horizon train.place) train.limits number old untold done)

-- the same slots are due where none is used by a stop that is not active
dues_same : (old new : Stops) (slots : Slots) → list_any (λ held. is_used_by (is_stop_gone old) held.1) slots ≡ false → list_any (λ held. is_used_by (is_stop_gone new) held.1) slots ≡ false → dues old slots ≡ dues new slots
dues_same old new [] before after = refl
dues_same old new ((id, Revoking stamp) ∷ slots) before after = dues_same old new slots before after
dues_same old new ((id, Used used) ∷ slots) before after =
    let was = or_parts (is_stop_gone old used.number) (list_any (λ held. is_used_by (is_stop_gone old) held.1) slots) before in
    let is = or_parts (is_stop_gone new used.number) (list_any (λ held. is_used_by (is_stop_gone new) held.1) slots) after in
    let active : has old.active used.number ≡ has new.active used.number = both_active (has old.active used.number) (has new.active used.number) was.0 is.0 in
    ap (λ (b : Bool). cons_option (cond (is_ripe (Used used) && b) (Some used.number) None) (dues old slots)) active
    ∙ ap (cons_option (due_number new (Used used))) (dues_same old new slots was.1 is.1)
  where
    both_active : (a b : Bool) → not a ≡ false → not b ≡ false → a ≡ b
    both_active true true before after = refl
    both_active true false before after = absurd (let bad : true ≡ false = after in cc)
    both_active false b before after = absurd (let bad : true ≡ false = before in cc)

-- so none is due after a change, if none was
due_after : (old new : Stops) (train : TrainRec) → IsDone 15 (is_stop_gone old) old.active (told_as train.place train.forced) train.stops → IsDone 15 (is_stop_gone new) new.active (told_as train.place train.forced) train.stops
    → IsNoneDueOrFull old train.stops → IsNoneDueOrFull new train.stops
due_after old new train before after due = elim due [
  | inl none_free ↦ inl none_free
  | inr none ↦ inr (sym (dues_same old new train.stops before.none_gone after.none_gone) ∙ none)
]

-- ---- a train that a change does not touch

-- nothing is left to do to it, if nothing was before
pub done_after : (plan : Plan) (changed : Change) (w : World) (stops : Stops) (limits : Limits) (train : TrainRec) → AreNumbered w.stops → AreNumbered w.limits → HasTables train
    → HasChanged changed w stops limits → touches plan changed train ≡ false → AreDone plan.horizon w.stops w.limits train → AreDone plan.horizon stops limits train
done_after plan (change.Stop number None) w stops limits train h k tables has not_touched done =
    let parts = or_parts (is_told train.stops number) (has_number train.forced number) not_touched in
    let stops_done = stop_ended train tables number w.stops stops parts.0 has.0 done.stops in
    record {
      stops = stops_done;
      limits = subst (AreLimitsDone train tables number plan.horizon) (sym has.1) done.limits;
      due = due_after w.stops stops train done.stops stops_done done.due;
    }
done_after plan (change.Stop number (Some area)) w stops limits train h k tables has not_touched done =
    let stops_done = stop_begun train tables number area.now w.stops stops h not_touched has.0 done.stops in
    record {
      stops = stops_done;
      limits = subst (AreLimitsDone train tables number plan.horizon) (sym has.1) done.limits;
      due = due_after w.stops stops train done.stops stops_done done.due;
    }
done_after plan (change.Limit number None) w stops limits train h k tables has not_touched done = record {
  stops = subst (AreStopsDone train tables number) (sym has.0) done.stops;
  limits = limit_ended train tables number plan.horizon w.limits limits not_touched has.1 done.limits;
  due = subst (λ (active : Stops). IsNoneDueOrFull active train.stops) (sym has.0) done.due;
}
done_after plan (change.Limit number (Some limit)) w stops limits train h k tables has not_touched done = record {
  stops = subst (AreStopsDone train tables number) (sym has.0) done.stops;
  limits = limit_begun train tables number plan.horizon limit.now w.limits limits k not_touched has.1 done.limits;
  due = subst (λ (active : Stops). IsNoneDueOrFull active train.stops) (sym has.0) done.due;
}

-- it does not stop at once for a stop that ends
pub not_forced : (plan : Plan) (changed : Change) (train : TrainRec) → touches plan changed train ≡ false → is_forced_by (released_by changed) train ≡ false
not_forced plan (change.Stop number None) train e = (or_parts (is_told train.stops number) (has_number train.forced number) e).1
not_forced plan (change.Stop number (Some area)) train e = refl
not_forced plan (change.Limit number None) train e = refl
not_forced plan (change.Limit number (Some limit)) train e = refl

-- nothing is done to it, if nothing was to be done before, or no stamp was left
pub no_actions_after : (plan : Plan) (changed : Change) (w : World) (stops : Stops) (limits : Limits) (train : TrainRec) → AreNumbered w.stops → AreNumbered w.limits → HasTables train
    → actions_with_stamp plan w.stops w.limits train ≡ [] → HasChanged changed w stops limits → touches plan changed train ≡ false → actions_with_stamp plan stops limits train ≡ []
no_actions_after plan changed w stops limits train h k tables settled has not_touched =
    nothing_taken (last_stamp - train.stamp) (actions plan w.stops w.limits train) (actions plan stops limits train) settled
    (λ none. no_actions plan stops limits train (done_after plan changed w stops limits train h k tables has not_touched (done_before plan w.stops w.limits train tables h none)))

-- so it stays as it is, and nothing is sent to it
pub untouched : (plan : Plan) (changed : Change) (w : World) (stops : Stops) (limits : Limits) (train : TrainRec)
    → AreNumbered w.stops → AreNumbered w.limits → HasTables train
    → actions_with_stamp plan w.stops w.limits train ≡ []
    → HasChanged changed w stops limits → touches plan changed train ≡ false
    → (is_same plan stops limits (released_by changed) train ≡ true) × (sent_of plan stops limits (released_by changed) train ≡ [])
untouched plan changed w stops limits train h k tables settled has not_touched =
    let none = no_actions_after plan changed w stops limits train h k tables settled has not_touched in
    let unforced = not_forced plan changed train not_touched in (
      and_from (not (is_forced_by (released_by changed) train)) (eqb (length (actions_with_stamp plan stops limits train)) 0) (ap not unforced) (ap (λ (acts : List Action). eqb (length acts) 0) none),
      ap (λ (other : TrainRec). to_engine train.engine (messages_of plan stops limits other)) (forgotten_same (released_by changed) train unforced)
          ∙ ap (λ (acts : List Action). to_engine train.engine (scan carried_out message_of train acts)) none,
    )
