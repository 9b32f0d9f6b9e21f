-- The step of an input that changes the stops or the restrictions: each train is settled, and one more record is written.
use Rattle.std.proofs.Common.{◌≡◌, ℕ, suc, ◌+◌, ◌≤◌, Bool, true, false, not, cond, eqb, leb, List, [], ◌∷◌, ◌++◌, map, length, Option, Some, None, option_map, Result, Ok, Err, All, refl, sym, ap, subst, ◌∙◌, arith, zero-add}
use Rattle.std.specs.List.{AllByRecursion}
use Rattle.std.specs.Option.{option_map_or}
use Rattle.rbc_place.specs.Placing.{Place}
use Rattle.std.proofs.lemmas.Bool.{and_parts, leb-true}
use Rattle.std.proofs.lemmas.Bool.Decides.{nat_tests}
use Rattle.std.proofs.lemmas.List.Elements.{recursion_from_All, All-weaker, All-head}
use Rattle.rbc_track.specs.Plan.{Plan}
use Rattle.rbc_maps.specs.Maps.{has, value_or, value_of, keys, rises_from}
use Rattle.rbc_maps.specs.Numbered.{Numbered, AreNumbered}
use Rattle.rbc_zones.specs.declared.segment.Segment.{Segment}
use Rattle.rbc_zones.specs.declared.limit.Dirs.{Dirs}
use Rattle.rbc_settle.specs.declared.train.TrainRec.{TrainRec}
use Rattle.rbc_settle.specs.Settling.{Stops, Limits, actions_with_stamp, settled, messages_of}
use Rattle.rbc_settle.proofs.NumberLists.{without-absent}
use Rattle.rbc_records.specs.declared.record.Key.{Key}
use Rattle.rbc_records.specs.declared.record.Key.TheVariants as key
use Rattle.rbc_records.specs.declared.record.Rec.{Rec}
use Rattle.rbc_records.specs.declared.record.Rec.TheVariants as rec
use Rattle.rbc_records.specs.Notes.{same_key}
use Rattle.rbc_records.specs.Writes.{written}
use Rattle.rbc_rule.specs.declared.input.Input.{Input}
use Rattle.rbc_rule.specs.declared.input.Input.TheVariants.{Stop, Release, Restrict, Lift}
use Rattle.rbc_rule.specs.declared.outcome.Outcome.{Outcome}
use Rattle.rbc_rule.specs.declared.outcome.Reply.TheVariants.{Done}
use Rattle.rbc_rule.specs.World.{World}
use Rattle.rbc_rule.specs.Effect.{effect, then_do, with_next, with_less, after_adding, stops_after, limits_after, after_removing, forget_all}
use Rattle.rbc_rule.specs.Step.{settled_trains, settle_all, sent_to, count_sent}
use Rattle.rbc_rule.specs.Records.{engines_record, engines_listed, list_of, record_of}
use Rattle.rbc_rule.specs.WellFormed.{IsGoodTrain, IsWellFormed}
use Rattle.rbc_rule.specs.Right.{IsStep, messages_to}
use Rattle.rbc_rule.specs.Gathered.{forgotten, is_forced_by, is_same, settled_train, writes_of, all_sent, settled_outcome}
use Rattle.rbc_rule.proofs.WorldMaps.{keys-map, value_of-map}
use Rattle.rbc_rule.proofs.WorldSettling.{settled_same, taken}
use Rattle.rbc_rule.proofs.AllGathered.{written-append, changed, changes_stay, changes_at, changed_records, messages_at, messages_count}
use Rattle.rbc_rule.proofs.Listed.{listed_map}
use Rattle.rbc_rule.proofs.SettledPlaces.{settled_train_place}
use Rattle.rbc_rule.specs.Bounds.{max_stops, max_limits}
use Rattle.rbc_rule.specs.Codes.{code_of}
use Rattle.rbc_rule.specs.declared.refuse.Refusal.TheVariants.{NumberUsed, BadArea, TooManyActive, NoSuchNumber}

-- ---- a train that stays as it is

-- a stop for which a train does not stop at once need not be forgotten
pub forgotten_same : (released : Option ℕ) (train : TrainRec) → is_forced_by released train ≡ false → forgotten released train ≡ train
forgotten_same None train e = refl
forgotten_same (Some number) train e = λ i. record train { forced = without-absent number train.forced e i }

pub nothing_counted : {A : Type 0} (xs : List A) → eqb (length xs) 0 ≡ true → xs ≡ []
nothing_counted [] e = refl
nothing_counted (x ∷ xs) e = absurd (not_zero (length xs) e)
  where
    not_zero : (n : ℕ) → eqb (suc n) 0 ≡ true → ⊥
    not_zero n h = grind (arith, nat_tests)

turned_false : (b : Bool) → not b ≡ true → b ≡ false
turned_false true e = absurd (let bad : false ≡ true = e in cc)
turned_false false e = refl

pub same_stays : (plan : Plan) (stops : Stops) (limits : Limits) (released : Option ℕ) (train : TrainRec) → is_same plan stops limits released train ≡ true → settled_train plan stops limits released train ≡ train
same_stays plan stops limits released train e =
    let parts = and_parts (not (is_forced_by released train)) (eqb (length (actions_with_stamp plan stops limits train)) 0) e in
    ap (settled plan stops limits) (forgotten_same released train (turned_false (is_forced_by released train) parts.0))
    ∙ settled_same plan stops limits train (nothing_counted (actions_with_stamp plan stops limits train) parts.1)

-- ---- all trains

abbrev forgotten_by : Option ℕ → List (ℕ × TrainRec) → List (ℕ × TrainRec)
forgotten_by released trains = map (λ train. (train.0, forgotten released train.1)) trains

none_forgotten : (trains : List (ℕ × TrainRec)) → trains ≡ forgotten_by None trains
none_forgotten [] = refl
none_forgotten (train ∷ trains) = ap (λ (rest : List (ℕ × TrainRec)). train ∷ rest) (none_forgotten trains)

map_twice : {A B C : Type 0} (f : A → B) (g : B → C) (pairs : List (ℕ × A))
    → map {B = ℕ × C} (λ pair. (pair.0, g pair.1)) (map {B = ℕ × B} (λ pair. (pair.0, f pair.1)) pairs) ≡ map {B = ℕ × C} (λ pair. (pair.0, g (f pair.1))) pairs
map_twice f g [] = refl
map_twice {C = C} f g (pair ∷ pairs) = ap (λ (rest : List (ℕ × C)). (pair.0, g (f pair.1)) ∷ rest) (map_twice f g pairs)

pub own_engines : (plan : Plan) (w : World) → IsWellFormed plan w → AllByRecursion (λ train. train.1.engine ≡ train.0) w.trains
own_engines plan w well =
    let P : ℕ × TrainRec → Type 0 = λ train. train.1.engine ≡ train.0 in
    let own : (train : ℕ × TrainRec) → IsGoodTrain plan w.stops w.limits train → P train = λ train h. h.engine in
    recursion_from_All P w.trains (All-weaker (IsGoodTrain plan w.stops w.limits) P own w.trains well.trains)

module _ (plan : Plan) (stops : Stops) (limits : Limits) (released : Option ℕ) (trains : List (ℕ × TrainRec)) where
  settles : settled_trains plan stops limits (forgotten_by released trains) ≡ map (λ train. (train.0, settled_train plan stops limits released train.1)) trains
  settles = map_twice (forgotten released) (settled plan stops limits) trains

  sends : sent_to plan stops limits (forgotten_by released trains) ≡ map (λ train. (train.0, messages_of plan stops limits (forgotten released train.1))) trains
  sends = map_twice (forgotten released) (messages_of plan stops limits) trains

  keys_after : keys (settled_trains plan stops limits (forgotten_by released trains)) ≡ keys trains
  keys_after = ap keys settles ∙ keys-map (settled_train plan stops limits released) trains

  other_after : (base : Key → Option Rec) (k : Key) → ((engine : ℕ) → same_key k (key.Train engine) ≡ false) → written (writes_of plan stops limits released trains) base k ≡ base k
  other_after base k other = changes_stay (is_same plan stops limits released) (settled_train plan stops limits released) trains base k other

  listed_after : (list : Key) → engines_listed list (settled_trains plan stops limits (forgotten_by released trains)) ≡ engines_listed list trains
  listed_after list =
      ap (engines_listed list) settles
      ∙ listed_map (λ (train : TrainRec). same_key list (list_of train)) (settled_train plan stops limits released)
      (λ train. ap (λ place. same_key list (option_map_or (λ (p : Place). key.Line p.line) place key.Unplaced)) (settled_train_place plan stops limits released train)) trains

  count_after : length (all_sent plan stops limits released trains) ≡ count_sent (sent_to plan stops limits (forgotten_by released trains))
  count_after =
      sym (zero-add (length (all_sent plan stops limits released trains)))
      ∙ messages_count (λ train. messages_of plan stops limits (forgotten released train)) 0 trains
      ∙ ap count_sent (sym sends)

  module _ (rises : rises_from 0 (keys trains) ≡ true) (own : AllByRecursion (λ train. train.1.engine ≡ train.0) trains) where
    train_after : (base : Key → Option Rec) (engine : ℕ) → base (key.Train engine) ≡ option_map rec.Train (value_of trains engine)
        → written (writes_of plan stops limits released trains) base (key.Train engine) ≡ option_map rec.Train (value_of (settled_trains plan stops limits (forgotten_by released trains)) engine)
    train_after base engine before =
        let f = settled_train plan stops limits released in
        let same = is_same plan stops limits released in
        changes_at same f 0 trains base engine rises own
        ∙ ap (changed same f (value_of trains engine)) before
        ∙ changed_records same f (value_of trains engine) (same_stays plan stops limits released)
        ∙ ap (option_map rec.Train) (sym (ap (λ xs. value_of xs engine) settles ∙ value_of-map f trains engine))

    sent_after : (engine : ℕ) → messages_to engine (all_sent plan stops limits released trains) ≡ value_or [] (sent_to plan stops limits (forgotten_by released trains)) engine
    sent_after engine =
        messages_at (λ train. messages_of plan stops limits (forgotten released train)) 0 trains engine rises own
        ∙ ap (λ xs. value_or [] xs engine) (sym sends)

-- ---- the step

module _ (plan : Plan) (input : Input) (w : World) (released : Option ℕ) (well : IsWellFormed plan w) (outcome : Outcome) where
  -- with other stops
  stops_step : (stops : Stops) → outcome ≡ settled_outcome plan stops w.limits released w.trains key.Stops (rec.Stops stops)
      → effect plan input w ≡ Ok (record w { stops = stops; trains = forgotten_by released w.trains }) → eqb stops.last 0 ≡ false
      → IsStep plan input w outcome.result outcome.writes outcome.messages
  stops_step stops is e above =
      let P : Outcome → Type 0 = λ o. IsStep plan input w o.result o.writes o.messages in
      let own = own_engines plan w well in
      subst P (sym is)
      (taken plan input w (record w { stops = stops; trains = forgotten_by released w.trains }) _ _ _ e after
      (ap Done (count_after plan stops w.limits released w.trains))
      (sent_after plan stops w.limits released w.trains well.ascending own))
    where
      after : (k : Key) → written (writes_of plan stops w.limits released w.trains ++ (key.Stops, Some (rec.Stops stops)) ∷ []) (record_of w) k
          ≡ record_of (settle_all plan (record w { stops = stops; trains = forgotten_by released w.trains })) k
      after key.Roster =
          written-append (writes_of plan stops w.limits released w.trains) _ (record_of w) key.Roster
          ∙ other_after plan stops w.limits released w.trains (record_of w) key.Roster (λ engine. refl)
          ∙ ap engines_record (sym (keys_after plan stops w.limits released w.trains))
      after (key.Train engine) =
          written-append (writes_of plan stops w.limits released w.trains) _ (record_of w) (key.Train engine)
          ∙ train_after plan stops w.limits released w.trains well.ascending (own_engines plan w well) (record_of w) engine refl
      after key.Stops =
          written-append (writes_of plan stops w.limits released w.trains) _ (record_of w) key.Stops
          ∙ ap (λ b. cond b None (Some (rec.Stops stops))) (sym above)
      after key.Limits =
          written-append (writes_of plan stops w.limits released w.trains) _ (record_of w) key.Limits
          ∙ other_after plan stops w.limits released w.trains (record_of w) key.Limits (λ engine. refl)
      after (key.Line line) =
          written-append (writes_of plan stops w.limits released w.trains) _ (record_of w) (key.Line line)
          ∙ other_after plan stops w.limits released w.trains (record_of w) (key.Line line) (λ engine. refl)
          ∙ ap engines_record (sym (listed_after plan stops w.limits released w.trains (key.Line line)))
      after key.Unplaced =
          written-append (writes_of plan stops w.limits released w.trains) _ (record_of w) key.Unplaced
          ∙ other_after plan stops w.limits released w.trains (record_of w) key.Unplaced (λ engine. refl)
          ∙ ap engines_record (sym (listed_after plan stops w.limits released w.trains key.Unplaced))

  -- with other restrictions
  limits_step : (limits : Limits) → outcome ≡ settled_outcome plan w.stops limits released w.trains key.Limits (rec.Limits limits)
      → effect plan input w ≡ Ok (record w { limits = limits; trains = forgotten_by released w.trains }) → eqb limits.last 0 ≡ false
      → IsStep plan input w outcome.result outcome.writes outcome.messages
  limits_step limits is e above =
      let P : Outcome → Type 0 = λ o. IsStep plan input w o.result o.writes o.messages in
      let own = own_engines plan w well in
      subst P (sym is)
      (taken plan input w (record w { limits = limits; trains = forgotten_by released w.trains }) _ _ _ e after
      (ap Done (count_after plan w.stops limits released w.trains))
      (sent_after plan w.stops limits released w.trains well.ascending own))
    where
      after : (k : Key) → written (writes_of plan w.stops limits released w.trains ++ (key.Limits, Some (rec.Limits limits)) ∷ []) (record_of w) k
          ≡ record_of (settle_all plan (record w { limits = limits; trains = forgotten_by released w.trains })) k
      after key.Roster =
          written-append (writes_of plan w.stops limits released w.trains) _ (record_of w) key.Roster
          ∙ other_after plan w.stops limits released w.trains (record_of w) key.Roster (λ engine. refl)
          ∙ ap engines_record (sym (keys_after plan w.stops limits released w.trains))
      after (key.Train engine) =
          written-append (writes_of plan w.stops limits released w.trains) _ (record_of w) (key.Train engine)
          ∙ train_after plan w.stops limits released w.trains well.ascending (own_engines plan w well) (record_of w) engine refl
      after key.Stops =
          written-append (writes_of plan w.stops limits released w.trains) _ (record_of w) key.Stops
          ∙ other_after plan w.stops limits released w.trains (record_of w) key.Stops (λ engine. refl)
      after key.Limits =
          written-append (writes_of plan w.stops limits released w.trains) _ (record_of w) key.Limits
          ∙ ap (λ b. cond b None (Some (rec.Limits limits))) (sym above)
      after (key.Line line) =
          written-append (writes_of plan w.stops limits released w.trains) _ (record_of w) (key.Line line)
          ∙ other_after plan w.stops limits released w.trains (record_of w) (key.Line line) (λ engine. refl)
          ∙ ap engines_record (sym (listed_after plan w.stops limits released w.trains (key.Line line)))
      after key.Unplaced =
          written-append (writes_of plan w.stops limits released w.trains) _ (record_of w) key.Unplaced
          ∙ other_after plan w.stops limits released w.trains (record_of w) key.Unplaced (λ engine. refl)
          ∙ ap engines_record (sym (listed_after plan w.stops limits released w.trains key.Unplaced))

-- ---- the last number is above 0

above_last : (last number : ℕ) → leb number last ≡ false → eqb number 0 ≡ false
above_last last number e = grind (arith, nat_tests)

pub one_or_more : (n : ℕ) → 1 ≤ n → eqb n 0 ≡ false
one_or_more n h = grind (arith, nat_tests)

module _ {V : Type 0} where
  IsAboveNone : Result (Numbered V) ℕ → Type 0
  IsAboveNone (Ok numbered) = eqb numbered.last 0 ≡ false
  IsAboveNone (Err code) = Unit

  adding_above : (most : ℕ) (is_good : Bool) (number : ℕ) (value : V) (old new : Numbered V) → after_adding most is_good number value old ≡ Ok new → eqb new.last 0 ≡ false
  unfolding IsAboveNone
  adding_above most is_good number value old new is =
      subst IsAboveNone is (by (leb number old.last) is_good (leb most (length old.active)) refl)
    where
      by : (a b c : Bool) → leb number old.last ≡ a → IsAboveNone (cond a (Err (code_of NumberUsed)) (cond b (cond c (Err (code_of TooManyActive)) (Ok (with_next number value old))) (Err (code_of BadArea))))
      by true b c e = tt
      by false true true e = tt
      by false true false e = above_last old.last number e
      by false false c e = tt

  some_above : (number least last : ℕ) (pairs : List (ℕ × V)) → rises_from least (keys pairs) ≡ true → All (λ n. n ≤ last) (keys pairs) → has pairs number ≡ true → least ≤ last
  some_above number least last [] rises within there = absurd (let bad : false ≡ true = there in cc)
  some_above number least last (pair ∷ pairs) rises within there =
      let above = leb-true least pair.0 (and_parts (leb least pair.0) (rises_from (pair.0 + 1) (keys pairs)) rises).0 in
      let below = All-head (λ n. n ≤ last) pair.0 (keys pairs) within in
      omega (arith, above, below)

  removing_above : (number : ℕ) (old new : Numbered V) → AreNumbered old → after_removing number old ≡ Ok new → eqb new.last 0 ≡ false
  unfolding IsAboveNone
  removing_above number old new numbered is =
      subst IsAboveNone is (by (has old.active number) refl)
    where
      by : (b : Bool) → has old.active number ≡ b → IsAboveNone (cond b (Ok (with_less number old)) (Err (code_of NoSuchNumber)))
      by true e = one_or_more old.last (some_above number 1 old.last old.active numbered.ascending numbered.within e)
      by false e = tt

-- ---- the four inputs

module _ (plan : Plan) (w : World) (number : ℕ) where
  module _ (segments : List Segment) where
    pub stop_refused : (code : ℕ) → Err code ≡ stops_after plan number segments w.stops → effect plan (Stop number segments) w ≡ Err code
    stop_refused code is = ap (then_do (λ stops. record w { stops = stops })) (sym is)

    pub stop_right : (new : Stops) (outcome : Outcome) → Ok new ≡ stops_after plan number segments w.stops → outcome ≡ settled_outcome plan new w.limits None w.trains key.Stops (rec.Stops new) → IsWellFormed plan w
        → IsStep plan (Stop number segments) w outcome.result outcome.writes outcome.messages
    stop_right new outcome new_is is well =
        stops_step plan (Stop number segments) w None well outcome new is
        (ap (then_do (λ stops. record w { stops = stops })) (sym new_is) ∙ ap (λ trains. Ok (record w { stops = new; trains = trains })) (none_forgotten w.trains))
        (adding_above max_stops _ number segments w.stops new (sym new_is))

  pub release_refused : (code : ℕ) → Err code ≡ after_removing number w.stops → effect plan (Release number) w ≡ Err code
  release_refused code is = ap (then_do (λ stops. record w { stops = stops; trains = forget_all number w.trains })) (sym is)

  pub release_right : (new : Stops) (outcome : Outcome) → Ok new ≡ after_removing number w.stops → outcome ≡ settled_outcome plan new w.limits (Some number) w.trains key.Stops (rec.Stops new) → IsWellFormed plan w
      → IsStep plan (Release number) w outcome.result outcome.writes outcome.messages
  release_right new outcome new_is is well =
      stops_step plan (Release number) w (Some number) well outcome new is
      (ap (then_do (λ stops. record w { stops = stops; trains = forget_all number w.trains })) (sym new_is))
      (removing_above number w.stops new well.stops.numbered (sym new_is))

  module _ (segment : Segment) (dirs : Dirs) (speed : ℕ) (front : Bool) where
    pub restrict_refused : (code : ℕ) → Err code ≡ limits_after plan number segment dirs speed front w.limits → effect plan (Restrict number segment dirs speed front) w ≡ Err code
    restrict_refused code is = ap (then_do (λ limits. record w { limits = limits })) (sym is)

    pub restrict_right : (new : Limits) (outcome : Outcome) → Ok new ≡ limits_after plan number segment dirs speed front w.limits → outcome ≡ settled_outcome plan w.stops new None w.trains key.Limits (rec.Limits new) → IsWellFormed plan w
        → IsStep plan (Restrict number segment dirs speed front) w outcome.result outcome.writes outcome.messages
    restrict_right new outcome new_is is well =
        limits_step plan (Restrict number segment dirs speed front) w None well outcome new is
        (ap (then_do (λ limits. record w { limits = limits })) (sym new_is) ∙ ap (λ trains. Ok (record w { limits = new; trains = trains })) (none_forgotten w.trains))
        (adding_above max_limits _ number _ w.limits new (sym new_is))

  pub lift_refused : (code : ℕ) → Err code ≡ after_removing number w.limits → effect plan (Lift number) w ≡ Err code
  lift_refused code is = ap (then_do (λ limits. record w { limits = limits })) (sym is)

  pub lift_right : (new : Limits) (outcome : Outcome) → Ok new ≡ after_removing number w.limits → outcome ≡ settled_outcome plan w.stops new None w.trains key.Limits (rec.Limits new) → IsWellFormed plan w
      → IsStep plan (Lift number) w outcome.result outcome.writes outcome.messages
  lift_right new outcome new_is is well =
      limits_step plan (Lift number) w None well outcome new is
      (ap (then_do (λ limits. record w { limits = limits })) (sym new_is) ∙ ap (λ trains. Ok (record w { limits = new; trains = trains })) (none_forgotten w.trains))
      (removing_above number w.limits new well.limits.numbered (sym new_is))

-- ---- what was gathered, by engines
