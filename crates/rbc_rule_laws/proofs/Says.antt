-- Each step says what it has to.
use Rattle.std.proofs.Common.{ℕ, List, [], ◌∷◌, Result, Ok, Err, refl}
use Rattle.std.specs.List.{All}
use Rattle.std.proofs.lemmas.List.Elements.{All-head, All-tail}
use Rattle.rbc_track.specs.Plan.{Plan, IsPlan}
use Rattle.rbc_settle.specs.declared.train.TrainRec.{TrainRec}
use Rattle.rbc_settle.specs.Settling.{Stops, Limits}
use Rattle.rbc_rule.specs.World.{World}
use Rattle.rbc_rule.specs.Effect.{effect}
use Rattle.rbc_rule.specs.Step.{sent_to, after}
use Rattle.rbc_rule.specs.WellFormed.{AreGoodStops, AreGoodLimits}
use Rattle.rbc_rule.specs.SaidFor.{AllSayTo, IsSaidAfter, EachStepSays}
use Rattle.rbc_rule_laws.proofs.KeepsWorlds.{IsKept, ReadyIfOk, effect_ready}
use Rattle.rbc_rule_laws.proofs.SaysTold.{all_say}

module _ (plan : Plan) (track : IsPlan plan) where
  -- to each train
  all_say_to : (stops : Stops) (limits : Limits) → AreGoodStops plan stops → AreGoodLimits plan limits → (trains : List (ℕ × TrainRec))
      → All (IsKept plan stops limits) trains → AllSayTo plan stops limits trains (sent_to plan stops limits trains)
  all_say_to stops limits good_stops good_limits [] kept = tt
  all_say_to stops limits good_stops good_limits (train ∷ trains) kept =
      let first = All-head (IsKept plan stops limits) train trains kept in (
        refl,
        (
          all_say plan track stops limits good_stops good_limits train.1 first.well_formed.place first.well_formed.tables first.well_formed.stamp,
          all_say_to stops limits good_stops good_limits trains (All-tail (IsKept plan stops limits) train trains kept),
        ),
      )

  -- after an input, and after a refusal
  said_after : (w : World) (result : Result World ℕ) → ReadyIfOk plan result → IsSaidAfter plan result (after plan w result).sent
  said_after w (Ok changed) ready = all_say_to changed.stops changed.limits ready.stops ready.limits changed.trains ready.trains
  said_after w (Err code) ready = refl

pub step_says : EachStepSays
step_says plan w input track fits well = said_after plan track w (effect plan input w) (effect_ready plan w well input track fits)
