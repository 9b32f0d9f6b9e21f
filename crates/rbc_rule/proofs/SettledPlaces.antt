-- A train that is settled stays where it is.
use Rattle.std.proofs.Common.{◌≡◌, ℕ, List, [], ◌∷◌, Option, Some, None, refl, ◌∙◌}
use Rattle.std.specs.List.{fold}
use Rattle.rbc_track.specs.Plan.{Plan}
use Rattle.rbc_settle.specs.declared.train.TrainRec.{TrainRec}
use Rattle.rbc_settle.specs.Actions.{Action, ChangesStop, ChangesLimits}
use Rattle.rbc_settle.specs.declared.change.StopChange.TheVariants as stop_change
use Rattle.rbc_settle.specs.Settling.{Stops, Limits, carried_out, actions_with_stamp, settled}
use Rattle.rbc_rule.specs.Gathered.{forgotten, settled_train}

-- actions leave a train at its place
pub place_after : (acts : List Action) (train : TrainRec) → (fold carried_out train acts).place ≡ train.place
place_after [] train = refl
place_after (ChangesStop (stop_change.Revoke id number) ∷ acts) train = place_after acts (carried_out train (ChangesStop (stop_change.Revoke id number)))
place_after (ChangesStop (stop_change.Tell id number told) ∷ acts) train = place_after acts (carried_out train (ChangesStop (stop_change.Tell id number told)))
place_after (ChangesLimits changes ∷ acts) train = place_after acts (carried_out train (ChangesLimits changes))

-- forgetting a stop that is released leaves a train at its place too
forgotten_place : (released : Option ℕ) (train : TrainRec) → (forgotten released train).place ≡ train.place
forgotten_place None train = refl
forgotten_place (Some number) train = refl

module _ (plan : Plan) (stops : Stops) (limits : Limits) where
  -- a train stays where it is
  pub settled_place : (train : TrainRec) → (settled plan stops limits train).place ≡ train.place
  settled_place train = place_after (actions_with_stamp plan stops limits train) train

  -- a train stays where it is also if a stop was released
  pub settled_train_place : (released : Option ℕ) (train : TrainRec) → (settled_train plan stops limits released train).place ≡ train.place
  settled_train_place released train = settled_place (forgotten released train) ∙ forgotten_place released train
