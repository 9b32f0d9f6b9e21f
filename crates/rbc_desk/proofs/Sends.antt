-- To whom a step sends: its messages are by engine, ascending.
use Rattle.std.proofs.Common.{◌≡◌, ℕ, true, false, cond, eqb, leb, List, [], ◌∷◌, map, length, Option, Some, None, Result, Ok, Err, refl, ap, ◌∙◌, arith}
use Rattle.rbc_track.specs.Plan.{Plan}
use Rattle.rbc_maps.specs.Maps.{keys, rises_from, has, value_of, with_value, without}
use Rattle.rbc_maps.proofs.MapPlaces.{rises-with_value}
use Rattle.rbc_maps.proofs.MapValues.{rises-without}
use Rattle.rbc_settle.specs.declared.train.TrainRec.{TrainRec}
use Rattle.rbc_settle.specs.Trains.{new_train}
use Rattle.rbc_rule.specs.declared.input.Input.{Input}
use Rattle.rbc_rule.specs.declared.input.Input.TheVariants.{Enrol, Withdraw, Stop, Release, Restrict, Lift, Received, Bad}
use Rattle.rbc_rule.specs.World.{World}
use Rattle.rbc_rule.specs.Effect.{effect, then_do, enrolled, without_train, withdrawn, received, heard_from, engine_of, forget_all, stops_after, limits_after, after_removing}
use Rattle.rbc_rule.specs.Step.{step, after}

module _ {V W : Type 0} (f : V → W) where
  -- the keys stay
  keys_stay : (pairs : List (ℕ × V)) → keys (map (λ pair. (pair.0, f pair.1)) pairs) ≡ keys pairs
  keys_stay [] = refl
  keys_stay (pair ∷ pairs) = ap (λ (ks : List ℕ). pair.0 ∷ ks) (keys_stay pairs)

  -- so they ascend as they did
  ascends_still : (pairs : List (ℕ × V)) → rises_from 0 (keys pairs) ≡ true → rises_from 0 (keys (map (λ pair. (pair.0, f pair.1)) pairs)) ≡ true
  ascends_still pairs rises = ap (rises_from 0) (keys_stay pairs) ∙ rises

-- what is made of the trains, if anything, ascends
abbrev Ascend : Result (List (ℕ × TrainRec)) ℕ → Type 0
Ascend (Ok trains) = rises_from 0 (keys trains) ≡ true
Ascend (Err code) = Unit

abbrev AscendIn : Result World ℕ → Type 0
AscendIn (Ok w) = rises_from 0 (keys w.trains) ≡ true
AscendIn (Err code) = Unit

enrolled_ascend : (engine train_length : ℕ) (trains : List (ℕ × TrainRec)) → rises_from 0 (keys trains) ≡ true → Ascend (enrolled engine train_length trains)
enrolled_ascend engine train_length trains rises = elim (has trains engine) as (λ b. Ascend (cond b (Err 8) (cond (leb 2000 (length trains)) (Err 9) (Ok (with_value engine (new_train engine train_length 0) trains))))) [
  | true ↦ tt
  | false ↦ elim (leb 2000 (length trains)) as (λ b. Ascend (cond b (Err 9) (Ok (with_value engine (new_train engine train_length 0) trains)))) [
    | true ↦ tt
    | false ↦ rises-with_value engine (new_train engine train_length 0) 0 trains (omega arith) rises
  ]
]

withdrawn_ascend : (engine : ℕ) (trains : List (ℕ × TrainRec)) (found : Option TrainRec) → rises_from 0 (keys trains) ≡ true → Ascend (without_train engine trains found)
withdrawn_ascend engine trains None rises = tt
withdrawn_ascend engine trains (Some train) rises = elim (eqb (length train.stops) 0) as (λ b. Ascend (cond b (Ok (without engine trains)) (Err 10))) [
  | true ↦ rises-without engine 0 trains rises
  | false ↦ tt
]

received_ascend : (engine : ℕ) (trains : List (ℕ × TrainRec)) (heard : Result TrainRec ℕ) → rises_from 0 (keys trains) ≡ true → Ascend (then_do (λ train. with_value engine train trains) heard)
received_ascend engine trains (Err code) rises = tt
received_ascend engine trains (Ok train) rises = rises-with_value engine train 0 trains (omega arith) rises

-- with new trains, or with these trains and something else new
with_trains : (w : World) (trains : Result (List (ℕ × TrainRec)) ℕ) → Ascend trains → AscendIn (then_do (λ trains. record w { trains = trains }) trains)
with_trains w (Err code) h = tt
with_trains w (Ok trains) h = h

with_more : {A : Type 0} (f : A → World) (made : Result A ℕ) → ((a : A) → rises_from 0 (keys (f a).trains) ≡ true) → AscendIn (then_do f made)
with_more f (Err code) h = tt
with_more f (Ok a) h = h a

-- after an effect the trains ascend as they did
effect_ascends : (plan : Plan) (input : Input) (w : World) → rises_from 0 (keys w.trains) ≡ true → AscendIn (effect plan input w)
effect_ascends plan (Enrol engine train_length) w rises = with_trains w (enrolled engine train_length w.trains) (enrolled_ascend engine train_length w.trains rises)
effect_ascends plan (Withdraw engine) w rises = with_trains w (withdrawn engine w.trains) (withdrawn_ascend engine w.trains (value_of w.trains engine) rises)
effect_ascends plan (Stop number segments) w rises = with_more (λ stops. record w { stops = stops }) (stops_after plan number segments w.stops) (λ stops. rises)
effect_ascends plan (Release number) w rises = with_more (λ stops. record w { stops = stops; trains = forget_all number w.trains }) (after_removing number w.stops) (λ stops. ascends_still _ w.trains rises)
effect_ascends plan (Restrict number segment dirs speed front) w rises = with_more (λ limits. record w { limits = limits }) (limits_after plan number segment dirs speed front w.limits) (λ limits. rises)
effect_ascends plan (Lift number) w rises = with_more (λ limits. record w { limits = limits }) (after_removing number w.limits) (λ limits. rises)
effect_ascends plan (Received message) w rises = with_trains w (received plan message w.trains) (received_ascend (engine_of message) w.trains (heard_from plan message (value_of w.trains (engine_of message))) rises)
effect_ascends plan (Bad code) w rises = tt

after_ascends : (plan : Plan) (w : World) (changed : Result World ℕ) → AscendIn changed → rises_from 0 (keys (after plan w changed).sent) ≡ true
after_ascends plan w (Err code) h = refl
after_ascends plan w (Ok changed) h = ascends_still _ changed.trains h

-- the messages of a step ascend by engine where the trains do
pub sent_ascends : (plan : Plan) (w : World) (input : Input) → rises_from 0 (keys w.trains) ≡ true → rises_from 0 (keys (step plan w input).sent) ≡ true
sent_ascends plan w input rises = after_ascends plan w (effect plan input w) (effect_ascends plan input w rises)
