-- Messages that are taken in by their trains leave what the rules give.
use Rattle.std.proofs.Common.{◌≡◌, ℕ, List, [], ◌∷◌, Option, Some, None, option_map, Result, Ok, Err, refl, sym, ap, subst, ◌∙◌, All}
use Rattle.std.proofs.lemmas.List.Elements.{All-head, All-tail}
use Rattle.ertms_codec.specs.declared.from_train.FromTrain.{FromTrain}
use Rattle.rbc_track.specs.Plan.{Plan, IsPlan}
use Rattle.rbc_maps.specs.Maps.{value_of, with_value}
use Rattle.rbc_settle.specs.declared.train.TrainRec.{TrainRec}
use Rattle.rbc_records.specs.declared.record.Key.{Key}
use Rattle.rbc_records.specs.declared.record.Rec.TheVariants as rec
use Rattle.rbc_rule.specs.declared.input.Input.{Input}
use Rattle.rbc_rule.specs.declared.input.Input.TheVariants.{Enrol, Withdraw, Stop, Release, Restrict, Lift, Received, Bad}
use Rattle.rbc_rule.specs.declared.outcome.Outcome.{Outcome}
use Rattle.rbc_rule.specs.declared.refuse.Refusal.TheVariants.{UnknownTrain}
use Rattle.rbc_rule.specs.Codes.{code_of}
use Rattle.rbc_rule.specs.Inputs.{Fits}
use Rattle.rbc_rule.specs.World.{World}
use Rattle.rbc_rule.specs.Effect.{effect, engine_of, heard, heard_from, received, then_do}
use Rattle.rbc_rule.specs.Step as rule
use Rattle.rbc_rule.specs.Records.{record_of}
use Rattle.rbc_rule.specs.Right.{IsStep}
use Rattle.rbc_rule.specs.WellFormed.{IsWellFormed}
use Rattle.rbc_rule.proofs.Worlds.{refused_right}
use Rattle.rbc_rule.proofs.OneTrain.{receive_refused, receive_right}
use Rattle.rbc_desk.specs.declared.answer.Answer.{Answer}
use Rattle.rbc_desk.specs.Held.{Standing, Holds, AreOutboxes}
use Rattle.rbc_desk.specs.Answers.{after_answer, after_each}
use Rattle.rbc_desk.specs.Serial.{Desk, step, serial}
use Rattle.rbc_desk.proofs.EachAnswer.{with_records, one_answered, boxes_after_answer}
use Rattle.rbc_window.specs.Messages.{Records, Setting, train_in, outcome_of, outcome_of_message, outcome_of_train, next_records, records_after}
use Rattle.rbc_window.specs.Kept.{IsAnswerOf}
use Rattle.rbc_window.specs.Gathering.{IsMessage, AreAnswers}

-- the train in a record of a world
found_in : (train : Option TrainRec) → train_in (option_map rec.Train train) ≡ train
found_in None = refl
found_in (Some train) = refl

-- ---- the outcome of a message is the step's

module _ (plan : Plan) (w : World) (well : IsWellFormed plan w) (message : FromTrain) where
  abbrev setting : Setting
  setting = record { track = plan; stops = w.stops; limits = w.limits }

  unknown : value_of w.trains (engine_of message) ≡ None → effect plan (Received message) w ≡ Err (code_of UnknownTrain)
  unknown none = λ i. then_do (λ (trains : List (ℕ × TrainRec)). record w { trains = trains }) (then_do (λ train. with_value (engine_of message) train w.trains) (heard_from plan message (none i)))

  accepted : (old : TrainRec) → value_of w.trains (engine_of message) ≡ Some old → (after : Result TrainRec ℕ) → heard plan message old ≡ after → (outcome : Outcome)
      → outcome ≡ outcome_of_train setting (record_of w) (engine_of message) old after
      → IsStep plan (Received message) w outcome.result outcome.writes outcome.messages
  accepted old found (Err code) is outcome e = refused_right plan (Received message) w code outcome e (receive_refused plan message w old (sym found) code (sym is))
  accepted old found (Ok train) is outcome e = receive_right plan message w old (sym found) train outcome (sym is) e well

  by_train : (train : Option TrainRec) → value_of w.trains (engine_of message) ≡ train → (outcome : Outcome) → outcome ≡ outcome_of_message setting (record_of w) message train
      → IsStep plan (Received message) w outcome.result outcome.writes outcome.messages
  by_train None found outcome e = refused_right plan (Received message) w (code_of UnknownTrain) outcome e (unknown found)
  by_train (Some old) found outcome e = accepted old found (heard plan message old) refl outcome e

  of_world : (outcome : Outcome) → outcome ≡ outcome_of setting (record_of w) (Received message) → IsStep plan (Received message) w outcome.result outcome.writes outcome.messages
  of_world outcome e = by_train (value_of w.trains (engine_of message)) refl outcome (e ∙ ap (outcome_of_message setting (record_of w) message) (found_in (value_of w.trains (engine_of message))))

pub message_is_step : (s : Setting) (w : World) (records : Records) (message : FromTrain) → IsWellFormed s.track w → ((k : Key) → records k ≡ record_of w k) → w.stops ≡ s.stops → w.limits ≡ s.limits
    → IsStep s.track (Received message) w (outcome_of s records (Received message)).result (outcome_of s records (Received message)).writes (outcome_of s records (Received message)).messages
message_is_step s w records message well same stops limits =
    of_world s.track w well message (outcome_of s records (Received message))
    (λ i. outcome_of (record { track = s.track; stops = sym stops i; limits = sym limits i }) (λ k. same k i) (Received message))

-- ---- no message changes the stops or the restrictions

stops_stay : (plan : Plan) (w : World) (message : FromTrain) → (rule.step plan w (Received message)).world.stops ≡ w.stops
stops_stay plan w message = by (received plan message w.trains)
  where
    by : (trains : Result (List (ℕ × TrainRec)) ℕ) → (rule.after plan w (then_do (λ (all : List (ℕ × TrainRec)). record w { trains = all }) trains)).world.stops ≡ w.stops
    by (Ok trains) = refl
    by (Err code) = refl

limits_stay : (plan : Plan) (w : World) (message : FromTrain) → (rule.step plan w (Received message)).world.limits ≡ w.limits
limits_stay plan w message = by (received plan message w.trains)
  where
    by : (trains : Result (List (ℕ × TrainRec)) ℕ) → (rule.after plan w (then_do (λ (all : List (ℕ × TrainRec)). record w { trains = all }) trains)).world.limits ≡ w.limits
    by (Ok trains) = refl
    by (Err code) = refl

-- ---- messages, one after another

-- what stands after answers has the same results and outboxes, whatever records stood before
rest_same : (held : Standing) (records other : Records) (answers : List Answer) → with_records (after_each (with_records held records) answers) other ≡ with_records (after_each held answers) other
rest_same held records other [] = refl
rest_same held records other (answer ∷ answers) = rest_same (after_answer held answer) records other answers

-- the answer to a message, with what it writes, is the step's
answered : (s : Setting) (w : World) (records : Records) (input : Input) (answer : Answer) → IsMessage input → IsWellFormed s.track w → ((k : Key) → records k ≡ record_of w k) → w.stops ≡ s.stops → w.limits ≡ s.limits
    → IsAnswerOf (outcome_of s records input) answer → IsStep s.track input w answer.result (outcome_of s records input).writes answer.messages.items
answered s w records (Received message) answer is well same stops limits h =
    subst (λ r. IsStep s.track (Received message) w r (outcome_of s records (Received message)).writes answer.messages.items) (sym h.0)
    (subst (λ sent. IsStep s.track (Received message) w (outcome_of s records (Received message)).result (outcome_of s records (Received message)).writes sent) (sym h.1)
    (message_is_step s w records message well same stops limits))
answered s w records (Enrol engine train_length) answer is well same stops limits h = absurd is
answered s w records (Withdraw engine) answer is well same stops limits h = absurd is
answered s w records (Stop number segments) answer is well same stops limits h = absurd is
answered s w records (Release number) answer is well same stops limits h = absurd is
answered s w records (Restrict number segment dirs speed front) answer is well same stops limits h = absurd is
answered s w records (Lift number) answer is well same stops limits h = absurd is
answered s w records (Bad code) answer is well same stops limits h = absurd is

fits : (input : Input) → IsMessage input → Fits input
fits (Received message) is = tt
fits (Enrol engine train_length) is = absurd is
fits (Withdraw engine) is = absurd is
fits (Stop number segments) is = absurd is
fits (Release number) is = absurd is
fits (Restrict number segment dirs speed front) is = absurd is
fits (Lift number) is = absurd is
fits (Bad code) is = absurd is

same_stops : (plan : Plan) (w : World) (input : Input) → IsMessage input → (rule.step plan w input).world.stops ≡ w.stops
same_stops plan w (Received message) is = stops_stay plan w message
same_stops plan w (Enrol engine train_length) is = absurd is
same_stops plan w (Withdraw engine) is = absurd is
same_stops plan w (Stop number segments) is = absurd is
same_stops plan w (Release number) is = absurd is
same_stops plan w (Restrict number segment dirs speed front) is = absurd is
same_stops plan w (Lift number) is = absurd is
same_stops plan w (Bad code) is = absurd is

same_limits : (plan : Plan) (w : World) (input : Input) → IsMessage input → (rule.step plan w input).world.limits ≡ w.limits
same_limits plan w (Received message) is = limits_stay plan w message
same_limits plan w (Enrol engine train_length) is = absurd is
same_limits plan w (Withdraw engine) is = absurd is
same_limits plan w (Stop number segments) is = absurd is
same_limits plan w (Release number) is = absurd is
same_limits plan w (Restrict number segment dirs speed front) is = absurd is
same_limits plan w (Lift number) is = absurd is
same_limits plan w (Bad code) is = absurd is

module _ (s : Setting) (good : IsPlan s.track) where
  pub all_messages : (inputs : List Input) (held : Standing) (desk : Desk) (answers : List Answer) → All IsMessage inputs → AreOutboxes held.outboxes → Holds s.track held desk
      → desk.world.stops ≡ s.stops → desk.world.limits ≡ s.limits → AreAnswers s held.records inputs answers
      → Holds s.track (with_records (after_each held answers) (records_after s held.records inputs)) (serial s.track desk inputs)
  all_messages [] held desk answers all boxes h stops limits are =
      subst (λ (given : List Answer). Holds s.track (with_records (after_each held given) held.records) desk) (sym are) h
  all_messages (input ∷ inputs) held desk [] all boxes h stops limits are = absurd are
  all_messages (input ∷ inputs) held desk (answer ∷ answers) all boxes h stops limits are =
      let is : IsMessage input = All-head IsMessage input inputs all in
      let next = next_records s held.records input in
      let then_step = step s.track desk input in
      let held_next = with_records (after_answer held answer) next in
      let one : Holds s.track held_next then_step =
      one_answered s.track input held answer (outcome_of s held.records input).writes desk good (fits input is) boxes
      (answered s desk.world held.records input answer is h.world.well_formed h.world.same stops limits are.0) h
      in
      subst (λ (standing : Standing). Holds s.track standing (serial s.track then_step inputs)) (rest_same (after_answer held answer) next (records_after s next inputs) answers)
      (all_messages inputs held_next then_step answers (All-tail IsMessage input inputs all) (boxes_after_answer held answer boxes) one
      (same_stops s.track desk.world input is ∙ stops) (same_limits s.track desk.world input is ∙ limits) are.1)
