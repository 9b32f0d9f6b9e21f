-- A train that a change does not touch stays as it is, and is sent nothing.
use Rattle.std.proofs.Common.{◌≡◌, ℕ, true, false, [], Some, sym}
use Rattle.rbc_track.specs.Plan.{Plan}
use Rattle.rbc_maps.specs.Maps.{value_of}
use Rattle.rbc_settle.specs.declared.train.TrainRec.{TrainRec}
use Rattle.rbc_settle.specs.Settling.{Stops, Limits}
use Rattle.rbc_settle.specs.declared.single_change.Change.{Change}
use Rattle.rbc_rule.specs.World.{World}
use Rattle.rbc_rule.specs.WellFormed.{IsGoodTrain, IsWellFormed}
use Rattle.rbc_rule.specs.Touching.{touches, HasChanged, released_by}
use Rattle.rbc_rule.specs.Gathered.{is_same, sent_of}
use Rattle.rbc_rule.proofs.KeepsLists.{All-value_of}
use Rattle.rbc_rule.proofs.Untouched.{untouched}

module _ (plan : Plan) (change : Change) (w : World) (stops : Stops) (limits : Limits) (engine : ℕ) (train : TrainRec)
    (well : IsWellFormed plan w) (changed : HasChanged change w stops limits) (there : Some train ≡ value_of w.trains engine) (quiet : touches plan change train ≡ false) where
  pub stays : (is_same plan stops limits (released_by change) train ≡ true) × (sent_of plan stops limits (released_by change) train ≡ [])
  stays =
      let good : IsGoodTrain plan w.stops w.limits (engine, train) = All-value_of (IsGoodTrain plan w.stops w.limits) engine train w.trains well.trains (sym there) in
      untouched plan change w stops limits train well.stops.numbered well.limits.numbered good.well_formed.tables good.settled changed quiet
