-- Each message of a step is of a stop or of restrictions that are found, whatever the input.
use Rattle.std.proofs.Common.{◌≡◌, ℕ, ◌<◌, Bool, true, false, cond, eqb, leb, List, [], length, Option, Some, None, option_map, option_and_then, Result, Ok, Err, refl, sym, ap, ◌∙◌, subst, inr}
use Rattle.std.proofs.Math.Logic.{∥∥₁_elim}
use mathlib.Core.HLevel.{⊥_prop}
use Rattle.std.specs.List.{AllByRecursion}
use Rattle.std.proofs.lemmas.Bool.{leb-false}
use Rattle.std.proofs.lemmas.Option.{same_Some}
use Rattle.ertms_codec.specs.declared.from_train.FromTrain.{FromTrain}
use Rattle.rbc_track.specs.Plan.{Plan, IsPlan}
use Rattle.rbc_maps.specs.Maps.{has, value_of, value_or, with_value, without}
use Rattle.rbc_maps.specs.Numbered.{Numbered}
use Rattle.rbc_zones.specs.Segments.{is_good_area}
use Rattle.rbc_zones.specs.Limits.{Limit, is_good_limit}
use Rattle.rbc_settle.specs.declared.train.TrainRec.{TrainRec}
use Rattle.rbc_settle.specs.declared.sent.Sent.{Sent}
use Rattle.rbc_settle.specs.Trains.{new_train}
use Rattle.rbc_records.specs.declared.record.Key.{Key}
use Rattle.rbc_records.specs.declared.record.Key.TheVariants as key
use Rattle.rbc_records.specs.declared.record.Rec.{Rec}
use Rattle.rbc_records.specs.Notes.{record_in}
use Rattle.rbc_rule.specs.declared.input.Input.{Input}
use Rattle.rbc_rule.specs.declared.input.Input.TheVariants as input
use Rattle.rbc_rule.specs.declared.outcome.Reply.{Reply}
use Rattle.rbc_rule.specs.Inputs.{Fits}
use Rattle.rbc_rule.specs.World.{World}
use Rattle.rbc_rule.specs.Bounds.{max_trains, max_stops, max_limits}
use Rattle.rbc_rule.specs.Codes.{code_of}
use Rattle.rbc_rule.specs.declared.refuse.Refusal.TheVariants.{AlreadyEnrolled, TooManyTrains, StopsOutstanding, NumberUsed, BadArea, TooManyActive, NoSuchNumber}
use Rattle.rbc_rule.specs.Effect.{then_do, with_next, with_less, after_adding, after_removing, forget, forget_all, without_train, engine_of, heard_from, effect}
use Rattle.rbc_rule.specs.Step.{after}
use Rattle.rbc_rule.specs.Right.{messages_to}
use Rattle.rbc_rule.specs.WellFormed.{IsGoodTrain, IsWellFormed}
use Rattle.rbc_rule.proofs.KeepsLists.{All-value_of}
use Rattle.rbc_rule.proofs.WorldMaps.{value_of-with_value, value_of-without}
use Rattle.rbc_rule_laws.proofs.KeepsWorlds.{IsKept, ReadyIfOk, effect_ready}
use Rattle.rbc_live.specs.Held.{AreRecordsOf}
use Rattle.rbc_live.specs.DeskSerial.{serial, new_desk}
use Rattle.rbc_live.specs.Serial.{IsSerial}
use Rattle.rbc_live.specs.History.{IsStepOf}
use Rattle.rbc_live.specs.Known.{train_of, number_under}
use Rattle.rbc_account.specs.Coming.{sender_in}
use Rattle.rbc_account.specs.Found.{IsFound}
use Rattle.rbc_account.proofs.Found.{value_of-each, each_by_engine, AreRevokedBy, all_found}
use Rattle.rbc_account.proofs.Revoked.{at_others, at_lift, at_release, at_restrict, at_stop}
use Rattle.rbc_account.proofs.Heard.{WasToldIfOk, heard_told, not_some}
use Rattle.rbc_live.proofs.NothingWaits.{train_there}

-- what holds of the world after an input, unless that is refused
abbrev pub ForOk : (World → Type 0) → Result World ℕ → Type 0
ForOk Holds (Ok changed) = Holds changed
ForOk Holds (Err code) = Unit

-- what is added and what is removed, where the tests pass
added : {V : Type 0} (Holds : World → Type 0) (most : ℕ) (good : Bool) (number : ℕ) (value : V) (n : Numbered V) (then_world : Numbered V → World)
    → (n.last < number → Holds (then_world (with_next number value n))) → ForOk Holds (then_do then_world (after_adding most good number value n))
added {V} Holds most good number value n then_world f =
    (elim (leb number n.last) as (λ b. leb number n.last ≡ b
    → ForOk Holds (then_do then_world (cond b (Err (code_of NumberUsed)) (cond good (cond (leb most (length n.active)) (Err (code_of TooManyActive)) (Ok (with_next number value n))) (Err (code_of BadArea)))))) [
      | true ↦ λ low. tt
      | false ↦ λ above. elim good as (λ c. ForOk Holds (then_do then_world (cond c (cond (leb most (length n.active)) (Err (code_of TooManyActive)) (Ok (with_next number value n))) (Err (code_of BadArea))))) [
        | true ↦ elim (leb most (length n.active)) as (λ d. ForOk Holds (then_do then_world (cond d (Err (code_of TooManyActive)) (Ok (with_next number value n))))) [
          | true ↦ tt
          | false ↦ f (leb-false number n.last above)
        ]
        | false ↦ tt
      ]
    ]) refl

removed : {V : Type 0} (Holds : World → Type 0) (number : ℕ) (n : Numbered V) (then_world : Numbered V → World) → Holds (then_world (with_less number n))
    → ForOk Holds (then_do then_world (after_removing number n))
removed Holds number n then_world h = elim (has n.active number) as (λ b. ForOk Holds (then_do then_world (cond b (Ok (with_less number n)) (Err (code_of NoSuchNumber))))) [
  | true ↦ h
  | false ↦ tt
]

module _ (plan : Plan) (w : World) (well : IsWellFormed plan w) (before : Option TrainRec) where
  -- what is to hold of the world after an input: each train is sent nothing, or what is revoked of it is so by the input
  abbrev pub IsRevokedOfEach : Input → World → Type 0
  IsRevokedOfEach one changed = (engine : ℕ) (train : TrainRec) → value_of changed.trains engine ≡ Some train → AreRevokedBy plan one before changed.stops changed.limits train

  good : (engine : ℕ) (train : TrainRec) → value_of w.trains engine ≡ Some train → IsGoodTrain plan w.stops w.limits (engine, train)
  good engine train found = All-value_of (IsGoodTrain plan w.stops w.limits) engine train w.trains well.trains found

  -- a train that was there, where nothing else is active
  other : (one : Input) (engine : ℕ) (train : TrainRec) → value_of w.trains engine ≡ Some train → AreRevokedBy plan one before w.stops w.limits train
  other one engine train found = at_others plan before w.stops w.limits train (good engine train found).settled one

  -- one train more, or another one in its place
  with_one : (one : Input) (engine : ℕ) (new : TrainRec) → AreRevokedBy plan one before w.stops w.limits new → IsRevokedOfEach one (record w { trains = with_value engine new w.trains })
  with_one one engine new it k train found =
      (elim (eqb engine k) as (λ b. cond b (Some new) (value_of w.trains k) ≡ Some train → AreRevokedBy plan one before w.stops w.limits train) [
        | true ↦ λ e. subst (AreRevokedBy plan one before w.stops w.limits) (same_Some new train e) it
        | false ↦ λ e. other one k train e
      ]) (sym (value_of-with_value engine new w.trains k) ∙ found)

  without_one : (one : Input) (engine : ℕ) → IsRevokedOfEach one (record w { trains = without engine w.trains })
  without_one one engine k train found =
      (elim (eqb engine k) as (λ b. cond b None (value_of w.trains k) ≡ Some train → AreRevokedBy plan one before w.stops w.limits train) [
        | true ↦ λ e. absurd (not_some train e)
        | false ↦ λ e. other one k train e
      ]) (sym (value_of-without engine w.trains k) ∙ found)

  at_enrol : (engine train_length : ℕ) → ForOk (IsRevokedOfEach (input.Enrol engine train_length)) (effect plan (input.Enrol engine train_length) w)
  at_enrol engine train_length =
      let Holds = IsRevokedOfEach (input.Enrol engine train_length) in
      let new = new_train engine train_length 0 in
      let then_world : List (ℕ × TrainRec) → World = λ trains. record w { trains = trains } in
      elim (has w.trains engine) as (λ b. ForOk Holds (then_do then_world (cond b (Err (code_of AlreadyEnrolled)) (cond (leb max_trains (length w.trains)) (Err (code_of TooManyTrains)) (Ok (with_value engine new w.trains)))))) [
        | true ↦ tt
        | false ↦ elim (leb max_trains (length w.trains)) as (λ b. ForOk Holds (then_do then_world (cond b (Err (code_of TooManyTrains)) (Ok (with_value engine new w.trains))))) [
          | true ↦ tt
          | false ↦ with_one (input.Enrol engine train_length) engine new (inr ((λ id g. absurd (not_some g.0 g.1)), (λ id g. absurd (not_some g.0 g.1))))
        ]
      ]

  at_withdraw : (engine : ℕ) (found : Option TrainRec) → ForOk (IsRevokedOfEach (input.Withdraw engine)) (then_do (λ trains. record w { trains = trains }) (without_train engine w.trains found))
  at_withdraw engine None = tt
  at_withdraw engine (Some train) =
      elim (eqb (length train.stops) 0) as (λ b. ForOk (IsRevokedOfEach (input.Withdraw engine)) (then_do (λ trains. record w { trains = trains }) (cond b (Ok (without engine w.trains)) (Err (code_of StopsOutstanding))))) [
        | true ↦ without_one (input.Withdraw engine) engine
        | false ↦ tt
      ]

  released : (number : ℕ) → IsRevokedOfEach (input.Release number) (record w { stops = with_less number w.stops; trains = forget_all number w.trains })
  released number k train found = of_found (value_of w.trains k) refl (sym (value_of-each (forget number) w.trains k) ∙ found)
    where
      of_found : (there : Option TrainRec) → value_of w.trains k ≡ there → option_map (forget number) there ≡ Some train
          → AreRevokedBy plan (input.Release number) before (with_less number w.stops) w.limits train
      of_found None is e = absurd (not_some train e)
      of_found (Some old) is e =
          subst (AreRevokedBy plan (input.Release number) before (with_less number w.stops) w.limits) (same_Some (forget number old) train e)
          (at_release plan before w.stops w.limits old (good k old is).settled number)

  heard_one : (one : FromTrain) (old new : TrainRec) → before ≡ Some old → WasToldIfOk old (Ok new) → AreRevokedBy plan (input.Received one) before w.stops w.limits new
  heard_one one old new sender was = inr (
    (λ id g. (g.0, ap (λ (o : Option TrainRec). option_and_then (λ train. number_under train.stops id) o) sender ∙ was.0 id g.0 g.1)),
    (λ id g. (g.0, ap (λ (o : Option TrainRec). option_and_then (λ train. number_under train.limits id) o) sender ∙ was.1 id g.0 g.1, g.2)),
  )

  heard_as : (one : FromTrain) (old : TrainRec) (result : Result TrainRec ℕ) → before ≡ Some old → WasToldIfOk old result
      → ForOk (IsRevokedOfEach (input.Received one)) (then_do (λ trains. record w { trains = trains }) (then_do (λ train. with_value (engine_of one) train w.trains) result))
  heard_as one old (Ok new) sender was = with_one (input.Received one) (engine_of one) new (heard_one one old new sender was)
  heard_as one old (Err code) sender was = tt

  at_received : (one : FromTrain) (found : Option TrainRec) → value_of w.trains (engine_of one) ≡ found → before ≡ found
      → ForOk (IsRevokedOfEach (input.Received one)) (then_do (λ trains. record w { trains = trains }) (then_do (λ train. with_value (engine_of one) train w.trains) (heard_from plan one found)))
  at_received one None is sender = tt
  at_received one (Some old) is sender =
      heard_as one old (heard_from plan one (Some old)) sender (heard_told plan one old (good (engine_of one) old is).well_formed.tables)

  -- the train that sent the input
  abbrev IsSender : Input → Type 0
  IsSender (input.Received one) = before ≡ value_of w.trains (engine_of one)
  IsSender (input.Enrol engine train_length) = Unit
  IsSender (input.Withdraw engine) = Unit
  IsSender (input.Stop number segments) = Unit
  IsSender (input.Release number) = Unit
  IsSender (input.Restrict number segment dirs speed front) = Unit
  IsSender (input.Lift number) = Unit
  IsSender (input.Bad code) = Unit

  -- ---- each input

  pub each_input : (one : Input) → IsSender one → ForOk (IsRevokedOfEach one) (effect plan one w)
  each_input (input.Enrol engine train_length) sender = at_enrol engine train_length
  each_input (input.Withdraw engine) sender = at_withdraw engine (value_of w.trains engine)
  each_input (input.Stop number segments) sender =
      added (IsRevokedOfEach (input.Stop number segments)) max_stops (is_good_area plan segments) number segments w.stops (λ stops. record w { stops = stops })
      (λ above k train found. at_stop plan before w.stops w.limits train (good k train found).settled number segments well.stops.numbered above)
  each_input (input.Release number) sender =
      removed (IsRevokedOfEach (input.Release number)) number w.stops (λ stops. record w { stops = stops; trains = forget_all number w.trains }) (released number)
  each_input (input.Restrict number segment dirs speed front) sender =
      let limit : Limit = record { segment = segment; dirs = dirs; speed = speed; front = front } in
      added (IsRevokedOfEach (input.Restrict number segment dirs speed front)) max_limits (is_good_limit plan segment speed) number limit w.limits (λ limits. record w { limits = limits })
      (λ above k train found. at_restrict plan before w.stops w.limits train (good k train found).settled number segment dirs speed front limit well.limits.numbered above)
  each_input (input.Lift number) sender =
      removed (IsRevokedOfEach (input.Lift number)) number w.limits (λ limits. record w { limits = limits })
      (λ k train found. at_lift plan before w.stops w.limits train (good k train found).settled number)
  each_input (input.Received one) sender = at_received one (value_of w.trains (engine_of one)) refl sender
  each_input (input.Bad code) sender = tt

-- ---- the messages of a step

sender_is : (plan : Plan) (old : List (Key × Rec)) (w : World) (well : IsWellFormed plan w) → AreRecordsOf plan (record_in old) w → (one : Input) → IsSender plan w well (sender_in old one) one
sender_is plan old w well are (input.Received one) = ap train_of (are.same (key.Train (engine_of one))) ∙ train_there (value_of w.trains (engine_of one))
sender_is plan old w well are (input.Enrol engine train_length) = tt
sender_is plan old w well are (input.Withdraw engine) = tt
sender_is plan old w well are (input.Stop number segments) = tt
sender_is plan old w well are (input.Release number) = tt
sender_is plan old w well are (input.Restrict number segment dirs speed front) = tt
sender_is plan old w well are (input.Lift number) = tt
sender_is plan old w well are (input.Bad code) = tt

module _ (plan : Plan) (one : Input) (w : World) (well : IsWellFormed plan w) (before : Option TrainRec) (new : List (Key × Rec)) (messages : List Sent) where
  -- each message is found after a step with that effect
  found_after : (result : Result World ℕ) → ForOk (IsRevokedOfEach plan w well before one) result → ReadyIfOk plan result → AreRecordsOf plan (record_in new) (after plan w result).world
      → ((engine : ℕ) → messages_to engine messages ≡ value_or [] (after plan w result).sent engine) → AllByRecursion (λ sent. IsFound new one before sent.engine sent.message) messages
  found_after (Ok changed) revoked ready are same =
      all_found plan changed new are one before
      (λ engine train found. (All-value_of (IsKept plan changed.stops changed.limits) engine train changed.trains ready.trains found).well_formed.tables) revoked messages same
  found_after (Err code) revoked ready are same =
      each_by_engine (IsFound new one before) messages (λ engine. subst (AllByRecursion (IsFound new one before engine)) (sym (same engine)) tt)

-- The train of each message of a step is enrolled after it, and the stop or the restrictions of the message are found.
pub step_found : (plan : Plan) (one : Input) (old new : List (Key × Rec)) (reply : Reply) (messages : List Sent) (w : World) → IsPlan plan → Fits one → AreRecordsOf plan (record_in old) w
    → IsStepOf plan one old new reply messages → AllByRecursion (λ sent. IsFound new one (sender_in old one) sent.engine sent.message) messages
step_found plan one old new reply messages w track fits are step =
    let is = step w are in
    let well = are.well_formed in
    found_after plan one w well (sender_in old one) new messages (effect plan one w) (each_input plan w well (sender_in old one) one (sender_is plan old w well are one))
    (effect_ready plan w well one track fits) is.0 is.2

-- So a test that fails where they are found fails after each step of a live desk.
pub fails_after_step : (plan : Plan) (one : Input) (old new : List (Key × Rec)) (reply : Reply) (messages : List Sent) (test : Bool) → IsPlan plan → Fits one → ∥ IsSerial plan old ∥₁
    → IsStepOf plan one old new reply messages → (AllByRecursion (λ sent. IsFound new one (sender_in old one) sent.engine sent.message) messages → test ≡ false) → test ≡ false
fails_after_step plan one old new reply messages false track fits is step fails = refl
fails_after_step plan one old new reply messages true track fits is step fails =
    absurd (∥∥₁_elim is ⊥_prop (λ run.
    let bad : true ≡ false = fails (step_found plan one old new reply messages (serial plan new_desk run.0).world track fits run.1 step) in
    cc))
