-- What holds of the world after each step (own rule).
use Rattle.std.specs.Prelude.{◌≡◌, ℕ, ◌≤◌, List, [], length, IsTrue}
use Rattle.std.specs.List.{All}
use Rattle.rbc_track.specs.Plan.{Plan}
use Rattle.rbc_maps.specs.Maps.{IsMap}
use Rattle.rbc_maps.specs.Numbered.{AreNumbered}
use Rattle.rbc_zones.specs.declared.segment.Segment.{Segment}
use Rattle.rbc_zones.specs.Segments.{is_good_area}
use Rattle.rbc_zones.specs.Limits.{is_good_limit}
use Rattle.rbc_settle.specs.declared.train.TrainRec.{TrainRec}
use Rattle.rbc_settle.specs.Settling.{Stops, Limits, actions_with_stamp}
use Rattle.rbc_settle.specs.WellFormed.{IsWellFormedTrain}
use Rattle.rbc_rule.specs.Bounds.{max_trains, max_stops, max_limits}
use Rattle.rbc_rule.specs.World.{World}

-- an active stop has an area that is good for the track
pub record IsGoodStop (plan : Plan) (stop : ℕ × List Segment) : Type 0 where
  pub some : 1 ≤ length stop.1
  pub good : IsTrue (is_good_area plan stop.1)

-- the stops are numbered, not too many, and good for the track
pub record AreGoodStops (plan : Plan) (stops : Stops) : Type 0 where
  pub numbered : AreNumbered stops
  pub few : length stops.active ≤ max_stops
  pub good : All (IsGoodStop plan) stops.active

pub record AreGoodLimits (plan : Plan) (limits : Limits) : Type 0 where
  pub numbered : AreNumbered limits
  pub few : length limits.active ≤ max_limits
  pub good : All (λ limit. IsTrue (is_good_limit plan limit.1.segment limit.1.speed)) limits.active

-- a train stands under its own engine number, is well-formed, and settled
pub record IsGoodTrain (plan : Plan) (stops : Stops) (limits : Limits) (train : ℕ × TrainRec) : Type 0 where
  pub engine : train.1.engine ≡ train.0
  pub well_formed : IsWellFormedTrain plan stops limits train.1
  pub settled : actions_with_stamp plan stops limits train.1 ≡ []

pub record IsWellFormed (plan : Plan) (w : World) : Type 0 where
  pub stops : AreGoodStops plan w.stops
  pub limits : AreGoodLimits plan w.limits
  pub ascending : IsMap w.trains
  pub few : length w.trains ≤ max_trains
  pub trains : All (IsGoodTrain plan w.stops w.limits) w.trains
