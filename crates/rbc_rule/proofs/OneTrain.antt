-- The step of an input of one train: every other train is settled already.
use Rattle.std.proofs.Common.{◌≡◌, ◌⊎◌, ℕ, ◌<◌, ◌≤◌, ◌++◌, Bool, true, false, cond, eqb, leb, List, [], ◌∷◌, length, Option, Some, None, Result, Ok, Err, refl, sym, ap, subst, ◌∙◌, arith, zero-add, max}
use Rattle.std.proofs.lemmas.Bool.{le-leb, eqb-true}
use Rattle.std.specs.List.{AllByRecursion, All}
use Rattle.std.specs.Option.{option_map_or}
use Rattle.std.proofs.lemmas.List.Elements.{recursion_from_All, All-weaker}
use Rattle.std.proofs.lemmas.Bool.Decides.{nat_tests}
use Rattle.rbc_track.specs.Plan.{Plan}
use Rattle.ertms_codec.specs.declared.from_train.FromTrain.{FromTrain}
use Rattle.ertms_codec.specs.declared.from_train.FromTrain.TheVariants.{Report, Ack, StopAck}
use Rattle.rbc_ids.specs.Table.{Slots, after_stamp_ack, after_id_ack}
use Rattle.rbc_place.specs.Placing.{Place}
use Rattle.rbc_maps.proofs.MapValues.{value_of-absent}
use Rattle.rbc_maps.specs.Maps.{has, value_or, value_of, with_value, without, keys}
use Rattle.rbc_settle.specs.declared.train.TrainRec.{TrainRec}
use Rattle.rbc_settle.specs.Numbers.{has_number}
use Rattle.rbc_settle.specs.Trains.{new_train}
use Rattle.rbc_settle.specs.Settling.{Stops, Limits, settled, messages_of, to_engine}
use Rattle.rbc_records.specs.declared.record.Key.{Key}
use Rattle.rbc_records.specs.declared.record.Key.TheVariants as key
use Rattle.rbc_records.specs.declared.record.Rec.TheVariants as rec
use Rattle.rbc_records.specs.Writes.{written}
use Rattle.rbc_rule.specs.declared.outcome.Outcome.{Outcome}
use Rattle.rbc_rule.specs.declared.outcome.Reply.TheVariants.{Done}
use Rattle.rbc_rule.specs.declared.input.Input.TheVariants.{Enrol, Withdraw, Received}
use Rattle.rbc_rule.specs.World.{World}
use Rattle.rbc_rule.specs.Effect.{effect, unknown_stamp, is_too_high, raised, placed, limits_acked, acknowledged, stop_acked, answered, told_by, stamp_of, engine_of, heard, without_train, then_do, heard_from}
use Rattle.rbc_rule.specs.Step.{settled_trains, sent_to, count_sent}
use Rattle.rbc_rule.specs.Records.{list_of, record_of}
use Rattle.rbc_rule.specs.WellFormed.{IsGoodTrain, IsWellFormed}
use Rattle.rbc_rule.specs.Right.{IsStep, IsChange, IsOfSender, messages_to}
use Rattle.rbc_rule.specs.Lists.{engines_at, moves}
use Rattle.rbc_rule.specs.Gathered.{enrolled_outcome, withdrawn_outcome, heard_outcome}
use Rattle.rbc_rule.proofs.WorldMaps.{map-with_value, has_keys, length_keys, has_value}
use Rattle.rbc_rule.proofs.Moved.{enrolled_records, withdrawn_records, heard_records}
use Rattle.rbc_rule.proofs.EachChanges.{enrol_changes}
use Rattle.rbc_rule.proofs.Engines.{stands_in, unplaced_has, IsTrainList, train_list_has}
use Rattle.rbc_records.specs.Notes.{same_key}
use Rattle.rbc_records.proofs.Keys.{same_key_sym}
use Rattle.rbc_rule.proofs.SettledPlaces.{settled_place}
use Rattle.rbc_rule.proofs.WorldSettling.{map-done, sent-done, count-done, done-without, sent-with, count-with, trains_done, messages_to-engine, taken}
use Rattle.rbc_rule.specs.Bounds.{max_trains}
use Rattle.rbc_rule.specs.Codes.{code_of}
use Rattle.rbc_rule.specs.declared.refuse.Refusal.TheVariants.{AlreadyEnrolled, TooManyTrains, StopsOutstanding, StampTooHigh, NothingToAcknowledge}

-- ---- worlds in which one train changes

module _ (plan : Plan) (w : World) (well : IsWellFormed plan w) where
  settled_with : (engine : ℕ) (train : TrainRec)
      → settled_trains plan w.stops w.limits (with_value engine train w.trains) ≡ with_value engine (settled plan w.stops w.limits train) w.trains
  settled_with engine train =
      map-with_value (settled plan w.stops w.limits) engine train w.trains
      ∙ ap (with_value engine (settled plan w.stops w.limits train)) (map-done (settled plan w.stops w.limits) (messages_of plan w.stops w.limits) w.trains (trains_done plan w.stops w.limits w.trains well.trains))

  sent_with : (engine : ℕ) (train : TrainRec) (k : ℕ)
      → messages_to k (to_engine engine (messages_of plan w.stops w.limits train)) ≡ value_or [] (sent_to plan w.stops w.limits (with_value engine train w.trains)) k
  sent_with engine train k =
      messages_to-engine k engine (messages_of plan w.stops w.limits train)
      ∙ sym (sent-with (settled plan w.stops w.limits) (messages_of plan w.stops w.limits) engine train w.trains k (trains_done plan w.stops w.limits w.trains well.trains))

  count_with : (engine : ℕ) (train : TrainRec) → length (messages_of plan w.stops w.limits train) ≡ count_sent (sent_to plan w.stops w.limits (with_value engine train w.trains))
  count_with engine train =
      sym (zero-add (length (messages_of plan w.stops w.limits train)))
      ∙ sym (count-with (settled plan w.stops w.limits) (messages_of plan w.stops w.limits) 0 engine train w.trains (trains_done plan w.stops w.limits w.trains well.trains))

-- ---- a train that is enrolled

below : (most n : ℕ) → n < most → leb most n ≡ false
below most n lt = grind (arith, nat_tests)

enrol_is_step : (plan : Plan) (w : World) (engine train_length : ℕ) → IsWellFormed plan w → has w.trains engine ≡ false → leb max_trains (length w.trains) ≡ false → (outcome : Outcome)
    → outcome ≡ enrolled_outcome plan w.stops w.limits engine train_length (keys w.trains) (engines_at w key.Unplaced) → IsStep plan (Enrol engine train_length) w outcome.result outcome.writes outcome.messages
enrol_is_step plan w engine train_length well new room outcome is =
    let train = new_train engine train_length 0 in
    let P : Outcome → Type 0 = λ o. IsStep plan (Enrol engine train_length) w o.result o.writes o.messages in
    let unplaced : list_of (settled plan w.stops w.limits train) ≡ key.Unplaced = ap (λ place. option_map_or (λ (p : Place). key.Line p.line) place key.Unplaced) (settled_place plan w.stops w.limits train) in
    subst P (sym is)
    (taken plan (Enrol engine train_length) w (record w { trains = with_value engine train w.trains }) _ _ _
    (λ i. then_do (λ trains. record w { trains = trains }) (cond (new i) (Err (code_of AlreadyEnrolled)) (cond (room i) (Err (code_of TooManyTrains)) (Ok (with_value engine train w.trains)))))
    (λ k. enrolled_records w engine (settled plan w.stops w.limits train) well.ascending new unplaced k ∙ ap (λ trains. record_of (record w { trains = trains }) k) (sym (settled_with plan w well engine train)))
    (ap Done (count_with plan w well engine train))
    (sent_with plan w well engine train))

-- by what was read
module _ (plan : Plan) (w : World) (engine train_length : ℕ) (engines : List ℕ) (engines_are : engines ≡ keys w.trains) where
  enrolled_already : (found b : Bool) → found ≡ has_number engines engine → found ≡ b → has w.trains engine ≡ b
  enrolled_already found b is e = sym (is ∙ ap (λ ns. has_number ns engine) engines_are ∙ has_keys w.trains engine) ∙ e

  how_many : length engines ≡ length w.trains
  how_many = ap length engines_are ∙ length_keys w.trains

  pub enrol_known : (found : Bool) → found ≡ has_number engines engine → found ≡ true → effect plan (Enrol engine train_length) w ≡ Err (code_of AlreadyEnrolled)
  enrol_known found is there = λ i. then_do (λ trains. record w { trains = trains }) (cond (enrolled_already found true is there i) (Err (code_of AlreadyEnrolled)) (cond (leb max_trains (length w.trains)) (Err (code_of TooManyTrains)) (Ok (with_value engine (new_train engine train_length 0) w.trains))))

  pub enrol_full : (found : Bool) → found ≡ has_number engines engine → found ≡ false → max_trains ≤ length engines → effect plan (Enrol engine train_length) w ≡ Err (code_of TooManyTrains)
  enrol_full found is new full =
      let many : leb max_trains (length w.trains) ≡ true = le-leb max_trains (length w.trains) (let count = how_many in omega (arith, count)) in
      λ i. then_do (λ trains. record w { trains = trains }) (cond (enrolled_already found false is new i) (Err (code_of AlreadyEnrolled)) (cond (many i) (Err (code_of TooManyTrains)) (Ok (with_value engine (new_train engine train_length 0) w.trains))))

  pub enrol_right : (stops : Stops) (limits : Limits) (unplaced : List ℕ) (outcome : Outcome) (found : Bool) → outcome ≡ enrolled_outcome plan stops limits engine train_length engines unplaced
      → stops ≡ w.stops → limits ≡ w.limits → unplaced ≡ engines_at w key.Unplaced → IsWellFormed plan w → found ≡ has_number engines engine → found ≡ false → length engines < max_trains
      → IsStep plan (Enrol engine train_length) w outcome.result outcome.writes outcome.messages
  enrol_right stops limits unplaced outcome found is stops_are limits_are unplaced_are well found_is new few =
      enrol_is_step plan w engine train_length well (enrolled_already found false found_is new) (below max_trains (length w.trains) (let count = how_many in omega (arith, count))) outcome
      (is ∙ (λ i. enrolled_outcome plan (stops_are i) (limits_are i) engine train_length (engines_are i) (unplaced_are i)))

  pub enrol_each_changes : (stops : Stops) (limits : Limits) (unplaced : List ℕ) (outcome : Outcome) (found : Bool) → outcome ≡ enrolled_outcome plan stops limits engine train_length engines unplaced
      → stops ≡ w.stops → limits ≡ w.limits → unplaced ≡ engines_at w key.Unplaced → found ≡ has_number engines engine → found ≡ false
      → All (λ write. IsChange w write ⊎ IsOfSender (Enrol engine train_length) write.0) outcome.writes
  enrol_each_changes stops limits unplaced outcome found is stops_are limits_are unplaced_are found_is new =
      enrol_changes plan w engine train_length (enrolled_already found false found_is new) outcome
      (is ∙ (λ i. enrolled_outcome plan (stops_are i) (limits_are i) engine train_length (engines_are i) (unplaced_are i)))

  -- an engine that is not enrolled stands in no list
  pub enrol_unlisted : (found : Bool) → IsWellFormed plan w → found ≡ has_number engines engine → found ≡ false → has_number (engines_at w key.Unplaced) engine ≡ false
  enrol_unlisted found well found_is new =
      unplaced_has w well.ascending engine
      ∙ ap (λ train. option_map_or (stands_in key.Unplaced) train false) (value_of-absent engine w.trains (enrolled_already found false found_is new))

-- ---- a train that leaves

module _ (plan : Plan) (w : World) (engine : ℕ) (train : TrainRec) (found : Some train ≡ value_of w.trains engine) where
  withdraw_effect : eqb (length train.stops) 0 ≡ true → effect plan (Withdraw engine) w ≡ Ok (record w { trains = without engine w.trains })
  withdraw_effect free =
      (λ i. then_do (λ trains. record w { trains = trains }) (without_train engine w.trains (sym found i)))
      ∙ (λ i. then_do (λ trains. record w { trains = trains }) (cond (free i) (Ok (without engine w.trains)) (Err (code_of StopsOutstanding))))

  pub withdraw_outstanding : eqb (length train.stops) 0 ≡ false → effect plan (Withdraw engine) w ≡ Err (code_of StopsOutstanding)
  withdraw_outstanding held =
      (λ i. then_do (λ trains. record w { trains = trains }) (without_train engine w.trains (sym found i)))
      ∙ (λ i. then_do (λ trains. record w { trains = trains }) (cond (held i) (Ok (without engine w.trains)) (Err (code_of StopsOutstanding))))

  pub withdraw_right : (outcome : Outcome) → outcome ≡ withdrawn_outcome engine (keys w.trains) (list_of train) (engines_at w (list_of train))
      → IsWellFormed plan w → eqb (length train.stops) 0 ≡ true → IsStep plan (Withdraw engine) w outcome.result outcome.writes outcome.messages
  withdraw_right outcome is well free =
      let f = settled plan w.stops w.limits in
      let m = messages_of plan w.stops w.limits in
      let left = without engine w.trains in
      let done = done-without f m engine w.trains (trains_done plan w.stops w.limits w.trains well.trains) in
      let same : settled_trains plan w.stops w.limits left ≡ left = map-done f m left done in
      let P : Outcome → Type 0 = λ o. IsStep plan (Withdraw engine) w o.result o.writes o.messages in
      subst P (sym is)
      (taken plan (Withdraw engine) w (record w { trains = left }) _ _ _
      (withdraw_effect free)
      (λ k. withdrawn_records w engine train well.ascending (sym found) k ∙ ap (λ trains. record_of (record w { trains = trains }) k) (sym same))
      (ap Done (sym (count-done f m 0 left done)))
      (λ k. sym (sent-done f m left k done)))

-- ---- a message from a train

-- what is made of a train's message keeps its engine
KeepsEngine : ℕ → Result TrainRec ℕ → Type 0
KeepsEngine engine (Ok train) = train.engine ≡ engine
KeepsEngine engine (Err code) = Unit

raised_engine : (stamp : ℕ) (train : TrainRec) → (raised stamp train).engine ≡ train.engine
raised_engine stamp train = elim (eqb stamp unknown_stamp) as (λ b. (cond b train (record train { stamp = max train.stamp stamp })).engine ≡ train.engine) [ true ↦ refl | false ↦ refl ]

-- so does a change of its tables, where there is one, or else what keeps it
or_else_engine : (train : TrainRec) (change : Slots → TrainRec) (after : Option Slots) (otherwise : Result TrainRec ℕ) → ((slots : Slots) → (change slots).engine ≡ train.engine) → KeepsEngine train.engine otherwise → KeepsEngine train.engine (option_map_or (λ slots. Ok (change slots)) after otherwise)
unfolding KeepsEngine
or_else_engine train change None otherwise keeps kept = kept
or_else_engine train change (Some slots) otherwise keeps kept = keeps slots

acknowledged_engine : (acked : ℕ) (train : TrainRec) → KeepsEngine train.engine (acknowledged acked train)
unfolding KeepsEngine
acknowledged_engine acked train =
    or_else_engine train (λ slots. record train { stops = slots }) (after_stamp_ack train.stops acked) (limits_acked acked train) (λ slots. refl)
    (or_else_engine train (λ slots. record train { limits = slots }) (after_stamp_ack train.limits acked) (Err (code_of NothingToAcknowledge)) (λ slots. refl) tt)

answered_engine : (id answer : ℕ) (train : TrainRec) → KeepsEngine train.engine (answered id answer train)
unfolding KeepsEngine
answered_engine id answer train =
    or_else_engine train (stop_acked id answer train) (after_id_ack train.stops id answer) (Err (code_of NothingToAcknowledge)) (λ slots. refl) tt

told_engine : (plan : Plan) (message : FromTrain) (train : TrainRec) → KeepsEngine train.engine (told_by plan message train)
unfolding KeepsEngine
told_engine plan (Report stamp engine position) train = raised_engine stamp train
told_engine plan (Ack stamp engine acked) train =
    subst (λ e. KeepsEngine e (acknowledged acked (raised stamp train))) (raised_engine stamp train)
    (acknowledged_engine acked (raised stamp train))
told_engine plan (StopAck stamp engine id answer position) train =
    subst (λ e. KeepsEngine e (answered id answer (placed plan position (raised stamp train)))) (raised_engine stamp train)
    (answered_engine id answer (placed plan position (raised stamp train)))

either_engine : (engine : ℕ) (b : Bool) (after : Result TrainRec ℕ) → KeepsEngine engine after → KeepsEngine engine (cond b (Err (code_of StampTooHigh)) after)
unfolding KeepsEngine
either_engine engine true after h = tt
either_engine engine false after h = h

heard_engine : (plan : Plan) (message : FromTrain) (old new : TrainRec) → heard plan message old ≡ Ok new → new.engine ≡ old.engine
unfolding KeepsEngine
heard_engine plan message old new is =
    subst (KeepsEngine old.engine) is (either_engine old.engine (is_too_high (stamp_of message)) (told_by plan message old) (told_engine plan message old))

-- a train that is found has the engine number that it was looked for by
HasEngine : ℕ → Option TrainRec → Type 0
HasEngine engine None = Unit
HasEngine engine (Some train) = train.engine ≡ engine

has_engine : (trains : List (ℕ × TrainRec)) (engine : ℕ) → AllByRecursion (λ train. train.1.engine ≡ train.0) trains → HasEngine engine (value_of trains engine)
unfolding HasEngine
has_engine [] engine h = tt
has_engine (train ∷ trains) engine h = by (eqb train.0 engine) refl (has_engine trains engine h.1)
  where
    by : (b : Bool) → eqb train.0 engine ≡ b → HasEngine engine (value_of trains engine) → HasEngine engine (cond b (Some train.1) (value_of trains engine))
    by true q rest = h.0 ∙ eqb-true train.0 engine q
    by false q rest = rest

pub engine_found : (plan : Plan) (w : World) (engine : ℕ) (train : TrainRec) → IsWellFormed plan w → Some train ≡ value_of w.trains engine → train.engine ≡ engine
unfolding HasEngine
engine_found plan w engine train well found =
    let P : ℕ × TrainRec → Type 0 = λ other. other.1.engine ≡ other.0 in
    let own : (other : ℕ × TrainRec) → IsGoodTrain plan w.stops w.limits other → P other = λ other h. h.engine in
    subst (HasEngine engine) (sym found)
    (has_engine w.trains engine (recursion_from_All P w.trains (All-weaker (IsGoodTrain plan w.stops w.limits) P own w.trains well.trains)))

module _ (plan : Plan) (message : FromTrain) (w : World) (old : TrainRec) (found : Some old ≡ value_of w.trains (engine_of message)) where
  pub receive_refused : (code : ℕ) → Err code ≡ heard plan message old → effect plan (Received message) w ≡ Err code
  receive_refused code code_is =
      let is : heard plan message old ≡ Err code = sym code_is in
      (λ i. then_do (λ trains. record w { trains = trains }) (then_do (λ train. with_value (engine_of message) train w.trains) (heard_from plan message (sym found i))))
      ∙ (λ i. then_do (λ trains. record w { trains = trains }) (then_do (λ train. with_value (engine_of message) train w.trains) (is i)))

  receive_effect : (train : TrainRec) → heard plan message old ≡ Ok train → effect plan (Received message) w ≡ Ok (record w { trains = with_value (engine_of message) train w.trains })
  receive_effect train is =
      (λ i. then_do (λ trains. record w { trains = trains }) (then_do (λ other. with_value (engine_of message) other w.trains) (heard_from plan message (sym found i))))
      ∙ (λ i. then_do (λ trains. record w { trains = trains }) (then_do (λ other. with_value (engine_of message) other w.trains) (is i)))

  pub receive_right : (train : TrainRec) (outcome : Outcome) → Ok train ≡ heard plan message old
      → outcome ≡ heard_outcome plan w.stops w.limits (engine_of message) train (moves w (engine_of message) (list_of old) (list_of train))
      → IsWellFormed plan w → IsStep plan (Received message) w outcome.result outcome.writes outcome.messages
  receive_right train outcome train_is is well =
      let heard_is : heard plan message old ≡ Ok train = sym train_is in
      let engine = engine_of message in
      let there = has_value w.trains engine old (sym found) in
      let same : train.engine ≡ engine = heard_engine plan message old train heard_is ∙ engine_found plan w engine old well found in
      let after = settled plan w.stops w.limits train in
      let list : list_of after ≡ list_of train = ap (λ place. option_map_or (λ (p : Place). key.Line p.line) place key.Unplaced) (settled_place plan w.stops w.limits train) in
      let P : Outcome → Type 0 = λ o. IsStep plan (Received message) w o.result o.writes o.messages in
      subst P (sym is)
      (taken plan (Received message) w (record w { trains = with_value engine train w.trains }) _ _ _
      (receive_effect train heard_is)
      (λ k.
      ap (λ entered. written (moves w engine (list_of old) entered ++ (key.Train engine, Some (rec.Train after)) ∷ []) (record_of w) k) (sym list)
      ∙ heard_records w engine old after well.ascending (sym found) there k
      ∙ ap (λ trains. record_of (record w { trains = trains }) k) (sym (settled_with plan w well engine train)))
      (ap Done (count_with plan w well engine train))
      (λ k. ap (λ e. messages_to k (to_engine e (messages_of plan w.stops w.limits train))) same ∙ sent_with plan w well engine train k))

  -- a train that leaves its list does not stand in the one into which it comes
  pub comes_anew : (list : Key) → IsWellFormed plan w → IsTrainList list → same_key (list_of old) list ≡ false → has_number (engines_at w list) (engine_of message) ≡ false
  comes_anew list well is apart =
      train_list_has w list well.ascending is (engine_of message) ∙ ap (λ o. option_map_or (stands_in list) o false) (sym found) ∙ same_key_sym list (list_of old) ∙ apart
