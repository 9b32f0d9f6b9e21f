-- What settling a train keeps in its slots: each message leaves its marks.
use Rattle.std.proofs.Common.{◌≡◌, ℕ, ◌+◌, ◌-◌, ◌<◌, ◌≤◌, Bool, true, false, not, cond, ◌||◌, ◌&&◌, eqb, leb, List, [], ◌∷◌, ◌++◌, map, take, drop, Some, refl, sym, ap, ◌∙◌, subst, arith, inl, inr}
use Rattle.std.specs.List.{AllByRecursion, filter, flat_map, fold, range_with_len, scan, zip}
use Rattle.std.proofs.lemmas.Bool.{both_ways, false_from_ne_true, or_cases, or_from, or_left, or_parts, or_right, and_from, and_parts, leb-true, eqb-true, eq-eqb, ne_eqb}
use Rattle.std.proofs.lemmas.Grind.{flat_map-append}
use Rattle.std.proofs.lemmas.List.{take-append-drop}
use Rattle.rbc_track.specs.Plan.{Plan}
use Rattle.rbc_maps.specs.Maps.{has, value_of, with_value, keys, rises_from}
use Rattle.rbc_maps.proofs.MapFacts.{rises_from-filter}
use Rattle.rbc_ids.specs.declared.slot.Slot.TheVariants.{Revoking}
use Rattle.rbc_ids.specs.declared.slot.Kind.TheVariants.{Restriction}
use Rattle.rbc_ids.specs.Table.{Slots, IsTable, told_now, is_used, is_used_at, free_identifiers}
use Rattle.rbc_ids.proofs.Tables.{has-any}
use Rattle.rbc_settle.specs.declared.train.TrainRec.{TrainRec}
use Rattle.rbc_settle.specs.declared.change.StopChange.{StopChange}
use Rattle.rbc_settle.specs.declared.change.StopChange.TheVariants as stop_change
use Rattle.rbc_settle.specs.declared.change.LimitChange.{LimitChange}
use Rattle.rbc_settle.specs.declared.change.LimitChange.TheVariants as limit_change
use Rattle.rbc_settle.specs.declared.change.ToldStop.{ToldStop}
use Rattle.rbc_settle.specs.declared.change.ToldStop.TheVariants.{AtOnce, Before}
use Rattle.rbc_settle.specs.Told.{Part}
use Rattle.rbc_settle.specs.Actions.{Action, ChangesStop, ChangesLimits, groups}
use Rattle.rbc_settle.specs.Numbers.{has_number}
use Rattle.rbc_settle.specs.WellFormed.{AreDistinct}
use Rattle.rbc_settle.specs.UpToDate.{HasTables}
use Rattle.rbc_settle.specs.Settling.{Stops, Limits, last_stamp, revoke_stop, tell_stop, tell_limit, is_used_by, to_revoke, is_limit_gone, escalated, is_stop_revoked, stops_revoked, stops_told, limits_revoked, limits_told, limit_changed, packet_of, carried_out, message_of, messages_of, settled, actions, actions_with_stamp}
use Rattle.rbc_settle.proofs.Groups.{groups_cons, by_groups}
use Rattle.rbc_settle.proofs.Revoking.{to_revoke-rises, to_revoke-used}
use Rattle.rbc_rule.specs.Told.{PacketsMark, number_told, AllMarked}
use Rattle.rbc_rule.proofs.WorldMaps.{value_of-with_value}

-- ---- a map with one value more

module _ {V : Type 0} (key : ℕ) (value : V) (pairs : List (ℕ × V)) where
  value-here : value_of (with_value key value pairs) key ≡ Some value
  value-here = value_of-with_value key value pairs key ∙ ap (λ (b : Bool). cond b (Some value) (value_of pairs key)) (eq-eqb key key refl)

  value-other : (q : ℕ) → eqb key q ≡ false → value_of (with_value key value pairs) q ≡ value_of pairs q
  value-other q other = value_of-with_value key value pairs q ∙ ap (λ (b : Bool). cond b (Some value) (value_of pairs q)) other

-- ---- numbers that are distinct

not_in_either : (xs ys : List ℕ) (n : ℕ) → has_number (xs ++ ys) n ≡ false → (has_number xs n ≡ false) × (has_number ys n ≡ false)
not_in_either [] ys n absent = (refl, absent)
not_in_either (x ∷ xs) ys n absent =
    let parts = or_parts (eqb x n) (has_number (xs ++ ys) n) absent in
    let rest = not_in_either xs ys n parts.1 in
    (or_from (eqb x n) (has_number xs n) parts.0 rest.0, rest.1)

distinct_first : (xs ys : List ℕ) → AreDistinct (xs ++ ys) → AreDistinct xs
distinct_first [] ys distinct = tt
distinct_first (x ∷ xs) ys distinct = ((not_in_either xs ys x distinct.0).0, distinct_first xs ys distinct.1)

distinct_then : (xs ys : List ℕ) → AreDistinct (xs ++ ys) → AreDistinct ys
distinct_then [] ys distinct = distinct
distinct_then (x ∷ xs) ys distinct = distinct_then xs ys distinct.1

distinct_apart : (xs ys : List ℕ) → AreDistinct (xs ++ ys) → (n : ℕ) → has_number xs n ≡ true → has_number ys n ≡ false
distinct_apart [] ys distinct n there = absurd (let bad : false ≡ true = there in cc)
distinct_apart (x ∷ xs) ys distinct n there = elim (or_cases (eqb x n) (has_number xs n) there) [
  | inl here ↦ subst (λ (k : ℕ). has_number ys k ≡ false) (eqb-true x n here) (not_in_either xs ys x distinct.0).1
  | inr more ↦ distinct_apart xs ys distinct.1 n more
]

in_both : (xs ys : List ℕ) (n : ℕ) → has_number xs n ≡ false → has_number ys n ≡ false → has_number (xs ++ ys) n ≡ false
in_both [] ys n first then = then
in_both (x ∷ xs) ys n first then =
    let parts = or_parts (eqb x n) (has_number xs n) first in
    or_from (eqb x n) (has_number (xs ++ ys) n) parts.0 (in_both xs ys n parts.1 then)

distinct_both : (xs ys : List ℕ) → AreDistinct xs → AreDistinct ys → ((n : ℕ) → has_number xs n ≡ true → has_number ys n ≡ false) → AreDistinct (xs ++ ys)
distinct_both [] ys first then apart = then
distinct_both (x ∷ xs) ys first then apart = (
  in_both xs ys x first.0 (apart x (or_left (eqb x x) (has_number xs x) (eq-eqb x x refl))),
  distinct_both xs ys first.1 then (λ n there. apart n (or_right (eqb x n) (has_number xs n) there)),
)

-- numbers that ascend are distinct
below_all : (least : ℕ) (xs : List ℕ) (n : ℕ) → rises_from least xs ≡ true → n < least → has_number xs n ≡ false
below_all least [] n rises below = refl
below_all least (x ∷ xs) n rises below =
    let parts = and_parts (leb least x) (rises_from (x + 1) xs) rises in
    let above : least ≤ x = leb-true least x parts.0 in
    or_from (eqb x n) (has_number xs n) (ne_eqb x n (λ same. absurd (omega (arith, same, above, below)))) (below_all (x + 1) xs n parts.1 (omega (arith, above, below)))

distinct_rising : (least : ℕ) (xs : List ℕ) → rises_from least xs ≡ true → AreDistinct xs
distinct_rising least [] rises = tt
distinct_rising least (x ∷ xs) rises =
    let parts = and_parts (leb least x) (rises_from (x + 1) xs) rises in
    (below_all (x + 1) xs x parts.1 (omega arith), distinct_rising (x + 1) xs parts.1)

-- ---- the identifiers of changes and of actions

abbrev stop_id : StopChange → ℕ
stop_id (stop_change.Revoke id number) = id
stop_id (stop_change.Tell id number told) = id

abbrev limit_id : LimitChange → ℕ
limit_id (limit_change.Revoke id) = id
limit_id (limit_change.Tell id number told) = id

abbrev stop_ids : Action → List ℕ
stop_ids (ChangesStop change) = stop_id change ∷ []
stop_ids (ChangesLimits changes) = []

abbrev limit_ids : Action → List ℕ
limit_ids (ChangesStop change) = []
limit_ids (ChangesLimits changes) = map limit_id changes

-- ---- what actions leave as it is, and what they leave

change_passes : (stamp : ℕ) (slots : Slots) (change : LimitChange) (q : ℕ) → eqb (limit_id change) q ≡ false → value_of (limit_changed stamp slots change) q ≡ value_of slots q
change_passes stamp slots (limit_change.Revoke id) q other = value-other id (Revoking stamp) slots q other
change_passes stamp slots (limit_change.Tell id number told) q other = value-other id (told_now number stamp Restriction) slots q other

changes_pass : (stamp : ℕ) (changes : List LimitChange) (slots : Slots) (q : ℕ) → has_number (map limit_id changes) q ≡ false → value_of (fold (limit_changed stamp) slots changes) q ≡ value_of slots q
changes_pass stamp [] slots q absent = refl
changes_pass stamp (change ∷ changes) slots q absent =
    let parts = or_parts (eqb (limit_id change) q) (has_number (map limit_id changes) q) absent in
    changes_pass stamp changes (limit_changed stamp slots change) q parts.1 ∙ change_passes stamp slots change q parts.0

stops_pass : (acts : List Action) (train : TrainRec) (q : ℕ) → has_number (flat_map stop_ids acts) q ≡ false → value_of (fold carried_out train acts).stops q ≡ value_of train.stops q
stops_pass [] train q absent = refl
stops_pass (ChangesStop (stop_change.Revoke id number) ∷ acts) train q absent =
    let parts = or_parts (eqb id q) (has_number (flat_map stop_ids acts) q) absent in
    stops_pass acts (carried_out train (ChangesStop (stop_change.Revoke id number))) q parts.1 ∙ value-other id _ train.stops q parts.0
stops_pass (ChangesStop (stop_change.Tell id number told) ∷ acts) train q absent =
    let parts = or_parts (eqb id q) (has_number (flat_map stop_ids acts) q) absent in
    stops_pass acts (carried_out train (ChangesStop (stop_change.Tell id number told))) q parts.1 ∙ value-other id _ train.stops q parts.0
stops_pass (ChangesLimits changes ∷ acts) train q absent = stops_pass acts (carried_out train (ChangesLimits changes)) q absent

limits_pass : (acts : List Action) (train : TrainRec) (q : ℕ) → has_number (flat_map limit_ids acts) q ≡ false → value_of (fold carried_out train acts).limits q ≡ value_of train.limits q
limits_pass [] train q absent = refl
limits_pass (ChangesStop (stop_change.Revoke id number) ∷ acts) train q absent = limits_pass acts (carried_out train (ChangesStop (stop_change.Revoke id number))) q absent
limits_pass (ChangesStop (stop_change.Tell id number told) ∷ acts) train q absent = limits_pass acts (carried_out train (ChangesStop (stop_change.Tell id number told))) q absent
limits_pass (ChangesLimits changes ∷ acts) train q absent =
    let parts = not_in_either (map limit_id changes) (flat_map limit_ids acts) q absent in
    limits_pass acts (carried_out train (ChangesLimits changes)) q parts.1 ∙ changes_pass (train.stamp + 1) changes train.limits q parts.0

packets_mark : (now : Slots) (stamp : ℕ) (changes : List LimitChange) (slots : Slots) → AreDistinct (map limit_id changes)
    → ((q : ℕ) → has_number (map limit_id changes) q ≡ true → value_of now q ≡ value_of (fold (limit_changed stamp) slots changes) q) → PacketsMark now stamp (map number_told changes) (map packet_of changes)
packets_mark now stamp [] slots distinct same = tt
packets_mark now stamp (limit_change.Revoke id ∷ changes) slots distinct same =
    let next = limit_changed stamp slots (limit_change.Revoke id) in (
      same id (or_left (eqb id id) (has_number (map limit_id changes) id) (eq-eqb id id refl)) ∙ changes_pass stamp changes next id distinct.0 ∙ value-here id (Revoking stamp) slots,
      packets_mark now stamp changes next distinct.1 (λ q there. same q (or_right (eqb id q) (has_number (map limit_id changes) q) there)),
    )
packets_mark now stamp (limit_change.Tell id number told ∷ changes) slots distinct same =
    let next = limit_changed stamp slots (limit_change.Tell id number told) in (
      same id (or_left (eqb id id) (has_number (map limit_id changes) id) (eq-eqb id id refl)) ∙ changes_pass stamp changes next id distinct.0 ∙ value-here id (told_now number stamp Restriction) slots,
      packets_mark now stamp changes next distinct.1 (λ q there. same q (or_right (eqb id q) (has_number (map limit_id changes) q) there)),
    )

all_marked : (acts : List Action) (train : TrainRec) → AreDistinct (flat_map stop_ids acts) → AreDistinct (flat_map limit_ids acts) → AllMarked (fold carried_out train acts) acts (scan carried_out message_of train acts)
all_marked [] train stops limits = tt
all_marked (ChangesStop (stop_change.Revoke id number) ∷ acts) train stops limits =
    let next = carried_out train (ChangesStop (stop_change.Revoke id number)) in
    (stops_pass acts next id stops.0 ∙ value-here id _ train.stops, all_marked acts next stops.1 limits)
all_marked (ChangesStop (stop_change.Tell id number AtOnce) ∷ acts) train stops limits =
    let next = carried_out train (ChangesStop (stop_change.Tell id number AtOnce)) in
    (stops_pass acts next id stops.0 ∙ value-here id _ train.stops, all_marked acts next stops.1 limits)
all_marked (ChangesStop (stop_change.Tell id number (Before edge)) ∷ acts) train stops limits =
    let next = carried_out train (ChangesStop (stop_change.Tell id number (Before edge))) in
    (stops_pass acts next id stops.0 ∙ value-here id _ train.stops, all_marked acts next stops.1 limits)
all_marked (ChangesLimits changes ∷ acts) train stops limits =
    let next = carried_out train (ChangesLimits changes) in
    let ids = map limit_id changes in
    let later = flat_map limit_ids acts in (
      packets_mark (fold carried_out next acts).limits (train.stamp + 1) changes train.limits (distinct_first ids later limits)
          (λ q there. limits_pass acts next q (distinct_apart ids later limits q there)),
      all_marked acts next stops (distinct_then ids later limits),
    )

-- ---- the identifiers that settling changes are distinct

some_distinct : (f : Action → List ℕ) (n : ℕ) (acts : List Action) → AreDistinct (flat_map f acts) → AreDistinct (flat_map f (take n acts))
some_distinct f n acts distinct =
    distinct_first (flat_map f (take n acts)) (flat_map f (drop n acts))
    (subst AreDistinct (flat_map-append f (take n acts) (drop n acts)) (subst (λ (some : List Action). AreDistinct (flat_map f some)) (sym (take-append-drop n acts)) distinct))

ids_of_stops : (changes : List StopChange) (gs : List (List LimitChange)) → flat_map stop_ids (map ChangesStop changes ++ map ChangesLimits gs) ≡ map stop_id changes
ids_of_stops [] [] = refl
ids_of_stops [] (g ∷ gs) = ids_of_stops [] gs
ids_of_stops (change ∷ changes) gs = ap (λ (ids : List ℕ). stop_id change ∷ ids) (ids_of_stops changes gs)

no_stops : (changes : List StopChange) (acts : List Action) → flat_map limit_ids (map ChangesStop changes ++ acts) ≡ flat_map limit_ids acts
no_stops [] acts = refl
no_stops (change ∷ changes) acts = no_stops changes acts

maps_both : {A B : Type 0} (f : A → B) (xs ys : List A) → map f (xs ++ ys) ≡ map f xs ++ map f ys
maps_both f [] ys = refl
maps_both f (x ∷ xs) ys = λ i. f x ∷ maps_both f xs ys i

ids_of_groups : (changes : List LimitChange) → flat_map limit_ids (map ChangesLimits (groups changes)) ≡ map limit_id changes
ids_of_groups changes = by_groups (λ (cs : List LimitChange). flat_map limit_ids (map ChangesLimits (groups cs)) ≡ map limit_id cs) refl step changes
  where
    step : (change : LimitChange) (changes : List LimitChange) → flat_map limit_ids (map ChangesLimits (groups (drop 100 (change ∷ changes)))) ≡ map limit_id (drop 100 (change ∷ changes))
        → flat_map limit_ids (map ChangesLimits (groups (change ∷ changes))) ≡ map limit_id (change ∷ changes)
    step change changes rest =
        let all = change ∷ changes in
        ap (λ (gs : List (List LimitChange)). flat_map limit_ids (map ChangesLimits gs)) (groups_cons change changes)
        ∙ ap (λ (ids : List ℕ). map limit_id (take 100 all) ++ ids) rest
        ∙ sym (maps_both limit_id (take 100 all) (drop 100 all))
        ∙ ap (map limit_id) (take-append-drop 100 all)

-- the identifiers of what is told are the first ones that are free
module _ {T A : Type 0} (tell : (ℕ × T) × ℕ → A) (id_of : A → ℕ) (is : (w : ℕ × T) (id : ℕ) → id_of (tell (w, id)) ≡ id) where
  told_rise : (least : ℕ) (wanted : List (ℕ × T)) (ids : List ℕ) → rises_from least ids ≡ true → rises_from least (map id_of (map tell (zip wanted ids))) ≡ true
  told_rise least [] ids rises = refl
  told_rise least (w ∷ wanted) [] rises = refl
  told_rise least (w ∷ wanted) (id ∷ ids) rises =
      let parts = and_parts (leb least id) (rises_from (id + 1) ids) rises in
      subst (λ (k : ℕ). (leb least k && rises_from (k + 1) (map id_of (map tell (zip wanted ids)))) ≡ true) (sym (is w id))
      (and_from (leb least id) (rises_from (id + 1) (map id_of (map tell (zip wanted ids)))) parts.0 (told_rise (id + 1) wanted ids parts.1))

  told_free : (wanted : List (ℕ × T)) (ids : List ℕ) (n : ℕ) → has_number (map id_of (map tell (zip wanted ids))) n ≡ true → has_number ids n ≡ true
  told_free [] ids n there = absurd (let bad : false ≡ true = there in cc)
  told_free (w ∷ wanted) [] n there = absurd (let bad : false ≡ true = there in cc)
  told_free (w ∷ wanted) (id ∷ ids) n there =
      let first : (eqb id n || has_number (map id_of (map tell (zip wanted ids))) n) ≡ true = subst (λ (k : ℕ). (eqb k n || has_number (map id_of (map tell (zip wanted ids))) n) ≡ true) (is w id) there in
      elim (or_cases (eqb id n) (has_number (map id_of (map tell (zip wanted ids))) n) first) [
        | inl here ↦ or_left (eqb id n) (has_number ids n) here
        | inr more ↦ or_right (eqb id n) (has_number ids n) (told_free wanted ids n more)
      ]

-- what passes a test passes it
passes : (test : ℕ → Bool) (xs : List ℕ) (n : ℕ) → has_number (filter test xs) n ≡ true → test n ≡ true
passes test [] n there = absurd (let bad : false ≡ true = there in cc)
passes test (x ∷ xs) n there =
    (elim (test x) as (λ b. test x ≡ b → has_number (cond b (x ∷ filter test xs) (filter test xs)) n ≡ true → test n ≡ true) [
      | true ↦ λ is both. elim (or_cases (eqb x n) (has_number (filter test xs) n) both) [
        | inl here ↦ subst (λ (k : ℕ). test k ≡ true) (eqb-true x n here) is
        | inr more ↦ passes test xs n more
      ]
      | false ↦ λ is more. passes test xs n more
    ]) refl there

-- what each of some numbers is, one that is among them is
each_is : (P : ℕ → Type 0) (xs : List ℕ) (n : ℕ) → AllByRecursion P xs → has_number xs n ≡ true → P n
each_is P [] n all there = absurd (let bad : false ≡ true = there in cc)
each_is P (x ∷ xs) n all there = elim (or_cases (eqb x n) (has_number xs n) there) [
  | inl here ↦ subst P (eqb-true x n here) all.0
  | inr more ↦ each_is P xs n all.1 more
]

-- those that are revoked are held, and those under which something is told are free
module _ {T A : Type 0} (tell : (ℕ × T) × ℕ → A) (id_of : A → ℕ) (is : (w : ℕ × T) (id : ℕ) → id_of (tell (w, id)) ≡ id) (gone : ℕ → Bool) (count : ℕ) (slots : Slots) (table : IsTable count slots) (wanted : List (ℕ × T)) where
  ids_distinct : AreDistinct (to_revoke gone slots ++ map id_of (map tell (zip wanted (free_identifiers count slots))))
  ids_distinct =
      let free = free_identifiers count slots in
      let told = map id_of (map tell (zip wanted free)) in
      distinct_both (to_revoke gone slots) told (distinct_rising 0 (to_revoke gone slots) (to_revoke-rises gone 0 slots table.ascending))
      (distinct_rising 0 told (told_rise tell id_of is 0 wanted free (rises_from-filter (λ id. not (has slots id)) 0 count)))
      (λ n revoked. false_from_ne_true (has_number told n) (λ there.
      let used : is_used_at slots n ≡ true = each_is (λ id. is_used_at slots id ≡ true) (to_revoke gone slots) n (to_revoke-used gone slots) revoked in
      let held : has slots n ≡ true = has-any n (λ held. is_used held.1) slots used in
      let not_held : not (has slots n) ≡ true = passes (λ id. not (has slots id)) (range_with_len 0 count) n (told_free tell id_of is wanted free n there) in
      both_ways (not (has slots n)) (ap not held) not_held))

stop_id_is : (w : ℕ × ToldStop) (id : ℕ) → stop_id (tell_stop (w, id)) ≡ id
stop_id_is (number, told) id = refl

limit_id_is : (w : ℕ × Part) (id : ℕ) → limit_id (tell_limit (w, id)) ≡ id
limit_id_is (number, told) id = refl

ids_revoked : (forced_now : List ℕ) (slots : Slots) → map stop_id (map (revoke_stop forced_now) slots) ≡ keys slots
ids_revoked forced_now [] = refl
ids_revoked forced_now ((id, slot) ∷ slots) = ap (λ (ids : List ℕ). id ∷ ids) (ids_revoked forced_now slots)

ids_lifted : (ids : List ℕ) → map limit_id (map limit_change.Revoke ids) ≡ ids
ids_lifted [] = refl
ids_lifted (id ∷ ids) = ap (λ (more : List ℕ). id ∷ more) (ids_lifted ids)

module _ (plan : Plan) (stops : Stops) (limits : Limits) (train : TrainRec) (tables : HasTables train) where
  stops_distinct : AreDistinct (flat_map stop_ids (actions plan stops limits train))
  stops_distinct =
      let forced_now = escalated stops train in
      let revoked = is_stop_revoked stops forced_now in
      let first = stops_revoked forced_now stops train in
      let second = stops_told forced_now stops train in
      let told = map stop_id second in
      let is : map stop_id (first ++ second) ≡ to_revoke revoked train.stops ++ told = maps_both stop_id first second ∙ ap (λ (ids : List ℕ). ids ++ told) (ids_revoked forced_now (filter (λ held. is_used_by revoked held.1) train.stops)) in
      subst AreDistinct (sym (ids_of_stops (first ++ second) (groups (limits_revoked limits train ++ limits_told plan.horizon limits train)) ∙ is))
      (ids_distinct tell_stop stop_id stop_id_is revoked 15 train.stops tables.stops _)

  limits_distinct : AreDistinct (flat_map limit_ids (actions plan stops limits train))
  limits_distinct =
      let gone = is_limit_gone limits train.place in
      let changes = stops_revoked (escalated stops train) stops train ++ stops_told (escalated stops train) stops train in
      let third = limits_revoked limits train in
      let fourth = limits_told plan.horizon limits train in
      let is : map limit_id (third ++ fourth) ≡ to_revoke gone train.limits ++ map limit_id fourth = maps_both limit_id third fourth ∙ ap (λ (ids : List ℕ). ids ++ map limit_id fourth) (ids_lifted (to_revoke gone train.limits)) in
      subst AreDistinct (sym (no_stops changes (map ChangesLimits (groups (third ++ fourth))) ∙ ids_of_groups (third ++ fourth) ∙ is))
      (ids_distinct tell_limit limit_id limit_id_is gone 255 train.limits tables.limits _)

  -- so each message that settling sends left its marks
  pub settling_marks : AllMarked (settled plan stops limits train) (actions_with_stamp plan stops limits train) (messages_of plan stops limits train)
  settling_marks =
      let n = last_stamp - train.stamp in
      all_marked (actions_with_stamp plan stops limits train) train (some_distinct stop_ids n (actions plan stops limits train) stops_distinct) (some_distinct limit_ids n (actions plan stops limits train) limits_distinct)
