-- After each step every train is up to date.
use Rattle.std.proofs.Common.{◌≡◌, List, [], ap, subst}
use Rattle.std.specs.List.{fold}
use Rattle.std.proofs.lemmas.List.Elements.{All-weaker}
use Rattle.rbc_track.specs.Plan.{Plan}
use Rattle.rbc_settle.specs.declared.train.TrainRec.{TrainRec}
use Rattle.rbc_settle.specs.Actions.{Action}
use Rattle.rbc_settle.specs.Settling.{Stops, Limits, carried_out, actions_with_stamp, settled}
use Rattle.rbc_settle.specs.UpToDate.{IsUpToDateOrAtTheEnd}
use Rattle.rbc_settle.proofs.Achieves.{up_to_date}
use Rattle.rbc_settle.proofs.Keeps.{keeps_trains}
use Rattle.rbc_rule.specs.World.{World}
use Rattle.rbc_rule.specs.Step.{step}
use Rattle.rbc_rule.specs.WellFormed.{IsWellFormed, IsGoodTrain}
use Rattle.rbc_rule.specs.Told.{EachTrainIsUpToDate, EachStepTells}
use Rattle.rbc_rule_laws.proofs.Keeps.{step_keeps}

module _ (plan : Plan) where
  -- a train for which nothing is left to do is as it is after it is settled
  settled_is : (stops : Stops) (limits : Limits) (train : TrainRec) → actions_with_stamp plan stops limits train ≡ [] → settled plan stops limits train ≡ train
  settled_is stops limits train none = ap (λ (acts : List Action). fold carried_out train acts) none

  -- what is promised of each train
  abbrev IsNow : Stops → Limits → TrainRec → Type 0
  IsNow stops limits train = IsUpToDateOrAtTheEnd plan stops limits train

  -- each train of a well-formed world is up to date
  each_up_to_date : (w : World) → IsWellFormed plan w → EachTrainIsUpToDate plan w
  each_up_to_date w h = All-weaker (IsGoodTrain plan w.stops w.limits) (λ train. IsNow w.stops w.limits train.1)
      (λ train good. subst (IsNow w.stops w.limits) (settled_is w.stops w.limits train.1 good.settled)
      (up_to_date plan w.stops w.limits train.1 good.well_formed.tables h.stops.numbered h.limits.numbered))
      w.trains h.trains

pub each_step_tells : EachStepTells
each_step_tells plan w input track fits well = each_up_to_date plan (step plan w input).world (step_keeps keeps_trains plan w input track fits well)
