-- Each input that is not refused leaves a world that settling makes well-formed.
use Rattle.std.proofs.Common.{◌≡◌, ℕ, suc, ◌<◌, ◌≤◌, Bool, true, false, not, cond, eqb, leb, List, [], ◌∷◌, length, map, Option, Some, None, Result, Ok, Err, refl, sym, ap, ◌∙◌, subst, arith, IsTrue}
use Rattle.std.specs.List.{All, scan}
use Rattle.std.proofs.lemmas.Bool.{leb-false}
use Rattle.std.proofs.lemmas.List.Elements.{All-nil, All-cons, All-head, All-tail, All-weaker, All-filter, All-map}
use Rattle.ertms_codec.specs.declared.from_train.FromTrain.{FromTrain}
use Rattle.rbc_track.specs.Plan.{Plan, IsPlan}
use Rattle.rbc_maps.specs.Maps.{IsMap, has, keys, rises_from, value_of, with_value, without}
use Rattle.rbc_maps.specs.Numbered.{Numbered, AreNumbered}
use Rattle.rbc_maps.proofs.MapPlaces.{rises-with_value}
use Rattle.rbc_maps.proofs.MapValues.{rises-without, numbered-without}
use Rattle.rbc_zones.specs.declared.segment.Segment.{Segment}
use Rattle.rbc_zones.specs.Segments.{is_good_area}
use Rattle.rbc_zones.specs.Limits.{Limit, is_good_limit}
use Rattle.rbc_settle.specs.declared.train.TrainRec.{TrainRec}
use Rattle.rbc_settle.specs.Actions.{Action}
use Rattle.rbc_settle.specs.declared.change.StopChange.TheVariants as stop_change
use Rattle.rbc_settle.specs.Trains.{new_train}
use Rattle.rbc_settle.specs.Settling.{Stops, Limits, carried_out, message_of, actions_with_stamp, settled}
use Rattle.rbc_settle.specs.WellFormed.{IsWellFormedTrain, SettlingKeepsTrains}
use Rattle.rbc_settle.proofs.Achieves.{settled_twice}
use Rattle.rbc_rule.specs.declared.input.Input.{Input}
use Rattle.rbc_rule.specs.declared.input.Input.TheVariants.{Enrol, Withdraw, Stop, Release, Restrict, Lift, Received, Bad}
use Rattle.rbc_rule.specs.Inputs.{Fits}
use Rattle.rbc_rule.specs.World.{World}
use Rattle.rbc_rule.specs.Effect.{then_do, with_next, with_less, after_adding, after_removing, forget, forget_all, without_train, engine_of, heard_from, effect}
use Rattle.rbc_rule.specs.Step.{settle_all}
use Rattle.rbc_rule.specs.WellFormed.{IsGoodStop, AreGoodStops, AreGoodLimits, IsGoodTrain, IsWellFormed}
use Rattle.rbc_rule.proofs.KeepsLists.{length-filter, All-with_value, length-with_value, All-value_of, map-replaced}
use Rattle.rbc_rule_laws.proofs.KeepsTrains.{well_later, well_new, well_forgotten, WellIfOk, well_heard}
use Rattle.rbc_settle.specs.Trains.{max_engine, max_train_length}
use Rattle.rbc_settle.proofs.SettleLoop.{same_engine_after}
use Rattle.rbc_rule.specs.Bounds.{max_trains, max_stops, max_limits}
use Rattle.rbc_rule.specs.Codes.{code_of}
use Rattle.rbc_rule.specs.declared.refuse.Refusal.TheVariants.{AlreadyEnrolled, TooManyTrains, StopsOutstanding, NumberUsed, BadArea, TooManyActive, NoSuchNumber}

-- ---- maps whose values are changed each

module _ {V : Type 0} (f : V → V) where
  keys-each : (pairs : List (ℕ × V)) → keys (map (λ (pair : ℕ × V). (pair.0, f pair.1)) pairs) ≡ keys pairs
  keys-each [] = refl
  keys-each (pair ∷ pairs) = ap (λ (ks : List ℕ). pair.0 ∷ ks) (keys-each pairs)

  length-each : (pairs : List (ℕ × V)) → length {A = ℕ × V} (map (λ (pair : ℕ × V). (pair.0, f pair.1)) pairs) ≡ length pairs
  length-each [] = refl
  length-each (pair ∷ pairs) = ap suc (length-each pairs)

module _ {V : Type 0} where
  length-keys : (pairs : List (ℕ × V)) → length (keys pairs) ≡ length pairs
  length-keys [] = refl
  length-keys (pair ∷ pairs) = ap suc (length-keys pairs)

  All-by_keys : (P : ℕ → Type 0) (pairs : List (ℕ × V)) → All P (keys pairs) → All (λ pair. P pair.0) pairs
  All-by_keys P [] all = All-nil (λ (pair : ℕ × V). P pair.0)
  All-by_keys P (pair ∷ pairs) all = All-cons (λ (other : ℕ × V). P other.0) pair pairs (All-head P pair.0 (keys pairs) all) (All-by_keys P pairs (All-tail P pair.0 (keys pairs) all))

  -- one more number, above all
  numbered-next : (number : ℕ) (value : V) (n : Numbered V) → n.last < number → AreNumbered n → AreNumbered (with_next number value n)
  numbered-next number value n above h = record {
    ascending = rises-with_value number value 1 n.active (omega arith) h.ascending;
    within = All-map (λ k. k ≤ number) (λ (pair : ℕ × V). pair.0) (with_value number value n.active)
        (All-with_value (λ (pair : ℕ × V). pair.0 ≤ number) number value n.active (omega arith)
        (All-weaker (λ (pair : ℕ × V). pair.0 ≤ n.last) (λ (pair : ℕ × V). pair.0 ≤ number) (λ pair le. omega (arith, le, above)) n.active (All-by_keys (λ k. k ≤ n.last) n.active h.within)));
  }

-- ---- worlds before they are settled

-- a train stands under its own engine number, and is well-formed
pub record IsKept (plan : Plan) (stops : Stops) (limits : Limits) (train : ℕ × TrainRec) : Type 0 where
  pub engine : train.1.engine ≡ train.0
  pub well_formed : IsWellFormedTrain plan stops limits train.1

-- all of a well-formed world, but that the trains are settled
pub record IsReady (plan : Plan) (w : World) : Type 0 where
  pub stops : AreGoodStops plan w.stops
  pub limits : AreGoodLimits plan w.limits
  pub ascending : IsMap w.trains
  pub few : length w.trains ≤ max_trains
  pub trains : All (IsKept plan w.stops w.limits) w.trains

abbrev pub ReadyIfOk : Plan → Result World ℕ → Type 0
ReadyIfOk plan (Ok w) = IsReady plan w
ReadyIfOk plan (Err code) = Unit

-- no message, no action
none_sent : (train : TrainRec) (acts : List Action) → scan carried_out message_of train acts ≡ [] → acts ≡ []
none_sent train [] e = refl
none_sent train (act ∷ acts) e = absurd (let bad : message_of train act ∷ scan carried_out message_of (carried_out train act) acts ≡ [] = e in cc)

module _ (plan : Plan) where
  good_settled : SettlingKeepsTrains → (stops : Stops) (limits : Limits) → AreNumbered stops → AreNumbered limits → (train : ℕ × TrainRec) → IsKept plan stops limits train
      → IsGoodTrain plan stops limits (train.0, settled plan stops limits train.1)
  good_settled keeps stops limits h k train kept = record {
    engine = same_engine_after train.1 (actions_with_stamp plan stops limits train.1) ∙ kept.engine;
    well_formed = keeps plan stops limits train.1 h k kept.well_formed;
    settled = none_sent (settled plan stops limits train.1) (actions_with_stamp plan stops limits (settled plan stops limits train.1))
        (settled_twice plan stops limits train.1 kept.well_formed.tables h k).nothing;
  }

  -- once its trains are settled it is well-formed
  pub ready_settled : SettlingKeepsTrains → (w : World) → IsReady plan w → IsWellFormed plan (settle_all plan w)
  ready_settled keeps w ready = record {
    stops = ready.stops;
    limits = ready.limits;
    ascending = subst (λ (ks : List ℕ). rises_from 0 ks ≡ true) (sym (keys-each (settled plan w.stops w.limits) w.trains)) ready.ascending;
    few = subst (λ (n : ℕ). n ≤ max_trains) (sym (length-each (settled plan w.stops w.limits) w.trains)) ready.few;
    trains = All-map (IsGoodTrain plan w.stops w.limits) (λ (train : ℕ × TrainRec). (train.0, settled plan w.stops w.limits train.1)) w.trains
        (All-weaker (IsKept plan w.stops w.limits) (λ (train : ℕ × TrainRec). IsGoodTrain plan w.stops w.limits (train.0, settled plan w.stops w.limits train.1))
        (good_settled keeps w.stops w.limits ready.stops.numbered ready.limits.numbered) w.trains ready.trains);
  }

  module _ (w : World) (well : IsWellFormed plan w) where
    kept : All (IsKept plan w.stops w.limits) w.trains
    kept = All-weaker (IsGoodTrain plan w.stops w.limits) (IsKept plan w.stops w.limits) (λ train good. record { engine = good.engine; well_formed = good.well_formed }) w.trains well.trains

    kept_later : (stops : Stops) (limits : Limits) → w.stops.last ≤ stops.last → w.limits.last ≤ limits.last → All (IsKept plan stops limits) w.trains
    kept_later stops limits later_s later_l =
        All-weaker (IsGoodTrain plan w.stops w.limits) (IsKept plan stops limits)
        (λ train good. record { engine = good.engine; well_formed = well_later plan w.stops stops w.limits limits train.1 later_s later_l good.well_formed }) w.trains well.trains

    ready_trains : (trains : List (ℕ × TrainRec)) → IsMap trains → length trains ≤ max_trains → All (IsKept plan w.stops w.limits) trains → IsReady plan (record w { trains = trains })
    ready_trains trains ascending few all = record { stops = well.stops; limits = well.limits; ascending = ascending; few = few; trains = all }

    -- ---- one train

    ready_enrolled : (engine train_length : ℕ) → engine ≤ max_engine → (1 ≤ train_length) × (train_length ≤ max_train_length) → length w.trains < max_trains
        → IsReady plan (record w { trains = with_value engine (new_train engine train_length 0) w.trains })
    ready_enrolled engine train_length small lengths room =
        let train = new_train engine train_length 0 in
        ready_trains (with_value engine train w.trains) (rises-with_value engine train 0 w.trains (omega arith) well.ascending)
        (let more = length-with_value engine train w.trains in omega (arith, more, room))
        (All-with_value (IsKept plan w.stops w.limits) engine train w.trains (record { engine = refl; well_formed = well_new plan w.stops w.limits engine train_length small lengths }) kept)

    enrol_ready : (engine train_length : ℕ) → Fits (Enrol engine train_length) → ReadyIfOk plan (effect plan (Enrol engine train_length) w)
    enrol_ready engine train_length fits =
        let then_world : List (ℕ × TrainRec) → World = λ trains. record w { trains = trains } in
        elim (has w.trains engine) as (λ b. ReadyIfOk plan (then_do then_world (cond b (Err (code_of AlreadyEnrolled)) (cond (leb max_trains (length w.trains)) (Err (code_of TooManyTrains)) (Ok (with_value engine (new_train engine train_length 0) w.trains)))))) [
          | true ↦ tt
          | false ↦ (elim (leb max_trains (length w.trains)) as (λ b. leb max_trains (length w.trains) ≡ b → ReadyIfOk plan (then_do then_world (cond b (Err (code_of TooManyTrains)) (Ok (with_value engine (new_train engine train_length 0) w.trains))))) [
            | true ↦ λ is. tt
            | false ↦ λ is. ready_enrolled engine train_length fits.0 fits.1 (leb-false max_trains (length w.trains) is)
          ]) refl
        ]

    ready_withdrawn : (engine : ℕ) → IsReady plan (record w { trains = without engine w.trains })
    ready_withdrawn engine =
        ready_trains (without engine w.trains) (rises-without engine 0 w.trains well.ascending)
        (let fewer = length-filter (λ (pair : ℕ × TrainRec). not (eqb pair.0 engine)) w.trains in let few = well.few in omega (arith, fewer, few))
        (All-filter (λ (pair : ℕ × TrainRec). not (eqb pair.0 engine)) (IsKept plan w.stops w.limits) w.trains kept)

    withdraw_by : (engine : ℕ) (o : Option TrainRec) → ReadyIfOk plan (then_do (λ trains. record w { trains = trains }) (without_train engine w.trains o))
    withdraw_by engine None = tt
    withdraw_by engine (Some train) =
        elim (eqb (length train.stops) 0) as (λ b. ReadyIfOk plan (then_do (λ trains. record w { trains = trains }) (cond b (Ok (without engine w.trains)) (Err (code_of StopsOutstanding))))) [
          | true ↦ ready_withdrawn engine
          | false ↦ tt
        ]

    ready_heard : (engine : ℕ) (old new : TrainRec) → value_of w.trains engine ≡ Some old → (new.engine ≡ old.engine) × IsWellFormedTrain plan w.stops w.limits new
        → IsReady plan (record w { trains = with_value engine new w.trains })
    ready_heard engine old new found good =
        let same_keys = map-replaced (λ (pair : ℕ × TrainRec). pair.0) engine new old 0 w.trains refl well.ascending found in
        let was = All-value_of (IsKept plan w.stops w.limits) engine old w.trains kept found in
        let as_many : length (with_value engine new w.trains) ≡ length w.trains = sym (length-keys (with_value engine new w.trains)) ∙ ap length same_keys ∙ length-keys w.trains in
        ready_trains (with_value engine new w.trains) (subst (λ (ks : List ℕ). rises_from 0 ks ≡ true) (sym same_keys) well.ascending)
        (subst (λ (n : ℕ). n ≤ max_trains) (sym as_many) well.few)
        (All-with_value (IsKept plan w.stops w.limits) engine new w.trains (record { engine = good.0 ∙ was.engine; well_formed = good.1 }) kept)

    heard_as : (engine : ℕ) (old : TrainRec) (r : Result TrainRec ℕ) → value_of w.trains engine ≡ Some old → WellIfOk plan w.stops w.limits old.engine r
        → ReadyIfOk plan (then_do (λ trains. record w { trains = trains }) (then_do (λ train. with_value engine train w.trains) r))
    heard_as engine old (Ok new) found good = ready_heard engine old new found good
    heard_as engine old (Err code) found good = tt

    heard_by : (message : FromTrain) → IsPlan plan → (o : Option TrainRec) → value_of w.trains (engine_of message) ≡ o
        → ReadyIfOk plan (then_do (λ trains. record w { trains = trains }) (then_do (λ train. with_value (engine_of message) train w.trains) (heard_from plan message o)))
    heard_by message track None found = tt
    heard_by message track (Some old) found =
        let was = All-value_of (IsKept plan w.stops w.limits) (engine_of message) old w.trains kept found in
        heard_as (engine_of message) old (heard_from plan message (Some old)) found (well_heard plan w.stops w.limits old.engine message old track refl was.well_formed)

    -- ---- stops and restrictions

    ready_stop : (number : ℕ) (segments : List Segment) → 1 ≤ length segments → w.stops.last < number → is_good_area plan segments ≡ true → length w.stops.active < max_stops
        → IsReady plan (record w { stops = with_next number segments w.stops })
    ready_stop number segments some above good room = record {
      stops = record {
        numbered = numbered-next number segments w.stops above well.stops.numbered;
        few = (let more = length-with_value number segments w.stops.active in omega (arith, more, room));
        good = All-with_value (IsGoodStop plan) number segments w.stops.active (record { some = some; good = good }) well.stops.good;
      };
      limits = well.limits;
      ascending = well.ascending;
      few = well.few;
      trains = kept_later (with_next number segments w.stops) w.limits (omega (arith, above)) (omega arith);
    }

    ready_limit : (number : ℕ) (limit : Limit) → w.limits.last < number → is_good_limit plan limit.segment limit.speed ≡ true → length w.limits.active < max_limits
        → IsReady plan (record w { limits = with_next number limit w.limits })
    ready_limit number limit above good room = record {
      stops = well.stops;
      limits = record {
        numbered = numbered-next number limit w.limits above well.limits.numbered;
        few = (let more = length-with_value number limit w.limits.active in omega (arith, more, room));
        good = All-with_value (λ (one : ℕ × Limit). IsTrue (is_good_limit plan one.1.segment one.1.speed)) number limit w.limits.active good well.limits.good;
      };
      ascending = well.ascending;
      few = well.few;
      trains = kept_later w.stops (with_next number limit w.limits) (omega arith) (omega (arith, above));
    }

    -- what is added is ready where the tests pass
    added_ready : {V : Type 0} (most : ℕ) (good : Bool) (number : ℕ) (value : V) (n : Numbered V) (then_world : Numbered V → World)
        → (n.last < number → good ≡ true → length n.active < most → IsReady plan (then_world (with_next number value n)))
        → ReadyIfOk plan (then_do then_world (after_adding most good number value n))
    added_ready {V} most good number value n then_world f =
        (elim (leb number n.last) as (λ b. leb number n.last ≡ b → ReadyIfOk plan (then_do then_world (cond b (Err (code_of NumberUsed)) (cond good (cond (leb most (length n.active)) (Err (code_of TooManyActive)) (Ok (with_next number value n))) (Err (code_of BadArea)))))) [
          | true ↦ λ low. tt
          | false ↦ λ above. (elim good as (λ c. good ≡ c → ReadyIfOk plan (then_do then_world (cond c (cond (leb most (length n.active)) (Err (code_of TooManyActive)) (Ok (with_next number value n))) (Err (code_of BadArea))))) [
            | true ↦ λ is. (elim (leb most (length n.active)) as (λ d. leb most (length n.active) ≡ d → ReadyIfOk plan (then_do then_world (cond d (Err (code_of TooManyActive)) (Ok (with_next number value n))))) [
              | true ↦ λ full. tt
              | false ↦ λ room. f (leb-false number n.last above) is (leb-false most (length n.active) room)
            ]) refl
            | false ↦ λ is. tt
          ]) refl
        ]) refl

    ready_release : (number : ℕ) → IsReady plan (record w { stops = with_less number w.stops; trains = forget_all number w.trains })
    ready_release number = record {
      stops = record {
        numbered = numbered-without w.stops number well.stops.numbered;
        few = (let fewer = length-filter (λ (pair : ℕ × List Segment). not (eqb pair.0 number)) w.stops.active in let few = well.stops.few in omega (arith, fewer, few));
        good = All-filter (λ (pair : ℕ × List Segment). not (eqb pair.0 number)) (IsGoodStop plan) w.stops.active well.stops.good;
      };
      limits = well.limits;
      ascending = subst (λ (ks : List ℕ). rises_from 0 ks ≡ true) (sym (keys-each (forget number) w.trains)) well.ascending;
      few = subst (λ (n : ℕ). n ≤ max_trains) (sym (length-each (forget number) w.trains)) well.few;
      trains = All-map (IsKept plan (with_less number w.stops) w.limits) (λ (train : ℕ × TrainRec). (train.0, forget number train.1)) w.trains
          (All-weaker (IsKept plan (with_less number w.stops) w.limits) (λ (train : ℕ × TrainRec). IsKept plan (with_less number w.stops) w.limits (train.0, forget number train.1))
          (λ train was. record { engine = was.engine; well_formed = well_forgotten plan (with_less number w.stops) w.limits train.1 was.well_formed number })
          w.trains (kept_later (with_less number w.stops) w.limits (omega arith) (omega arith)));
    }

    ready_lift : (number : ℕ) → IsReady plan (record w { limits = with_less number w.limits })
    ready_lift number = record {
      stops = well.stops;
      limits = record {
        numbered = numbered-without w.limits number well.limits.numbered;
        few = (let fewer = length-filter (λ (pair : ℕ × Limit). not (eqb pair.0 number)) w.limits.active in let few = well.limits.few in omega (arith, fewer, few));
        good = All-filter (λ (pair : ℕ × Limit). not (eqb pair.0 number)) (λ (one : ℕ × Limit). IsTrue (is_good_limit plan one.1.segment one.1.speed)) w.limits.active well.limits.good;
      };
      ascending = well.ascending;
      few = well.few;
      trains = kept_later w.stops (with_less number w.limits) (omega arith) (omega arith);
    }

    removed_ready : {V : Type 0} (number : ℕ) (n : Numbered V) (then_world : Numbered V → World) → IsReady plan (then_world (with_less number n))
        → ReadyIfOk plan (then_do then_world (after_removing number n))
    removed_ready number n then_world ready = elim (has n.active number) as (λ b. ReadyIfOk plan (then_do then_world (cond b (Ok (with_less number n)) (Err (code_of NoSuchNumber))))) [
      | true ↦ ready
      | false ↦ tt
    ]

    -- ---- each input

    pub effect_ready : (input : Input) → IsPlan plan → Fits input → ReadyIfOk plan (effect plan input w)
    effect_ready (Enrol engine train_length) track fits = enrol_ready engine train_length fits
    effect_ready (Withdraw engine) track fits = withdraw_by engine (value_of w.trains engine)
    effect_ready (Stop number segments) track fits =
        added_ready max_stops (is_good_area plan segments) number segments w.stops (λ stops. record w { stops = stops }) (ready_stop number segments fits)
    effect_ready (Release number) track fits =
        removed_ready number w.stops (λ stops. record w { stops = stops; trains = forget_all number w.trains }) (ready_release number)
    effect_ready (Restrict number segment dirs speed front) track fits =
        let limit : Limit = record { segment = segment; dirs = dirs; speed = speed; front = front } in
        added_ready max_limits (is_good_limit plan segment speed) number limit w.limits (λ limits. record w { limits = limits }) (ready_limit number limit)
    effect_ready (Lift number) track fits = removed_ready number w.limits (λ limits. record w { limits = limits }) (ready_lift number)
    effect_ready (Received message) track fits = heard_by message track (value_of w.trains (engine_of message)) refl
    effect_ready (Bad code) track fits = tt
