-- Why something waits at a train (own rule).
use Rattle.std.specs.Prelude.{◌≡◌, ◌≤◌, length}
use Rattle.std.specs.List.{All}
use Rattle.rbc_track.specs.Plan.{Plan}
use Rattle.rbc_settle.specs.declared.train.TrainRec.{TrainRec}
use Rattle.rbc_settle.specs.Trains.{stop_identifiers, limit_identifiers}
use Rattle.rbc_settle.specs.Settling.{last_stamp}
use Rattle.rbc_rule.specs.World.{World}
use Rattle.rbc_rule.specs.WellFormed.{IsWellFormed}
use Rattle.rbc_live.specs.declared.waiting.Waits.{Waits}
use Rattle.rbc_live.specs.declared.waiting.Waits.TheVariants.{Stop, Restriction, Again}
use Rattle.rbc_live.specs.declared.waiting.Cause.{Cause}
use Rattle.rbc_live.specs.declared.waiting.Cause.TheVariants.{NoIdentifier, NoStamp}
use Rattle.rbc_live.specs.Waits.{all_waiting}

-- A cause is true of a train: all its identifiers are held, or no stamp is left.
abbrev pub IsCauseOf : TrainRec → Waits → Cause → Type 0
IsCauseOf train (Stop number) NoIdentifier = length train.stops ≡ stop_identifiers
IsCauseOf train (Restriction number) NoIdentifier = length train.limits ≡ limit_identifiers
IsCauseOf train (Again number) NoIdentifier = length train.stops ≡ stop_identifiers
IsCauseOf train (Stop number) NoStamp = last_stamp ≤ train.stamp
IsCauseOf train (Restriction number) NoStamp = last_stamp ≤ train.stamp
IsCauseOf train (Again number) NoStamp = last_stamp ≤ train.stamp

-- Each cause that is given for something that waits at a train of a valid state is true: nothing waits for another reason.
abbrev pub EachCauseIsTrue : Type 0
EachCauseIsTrue =
    (plan : Plan) (w : World) → IsWellFormed plan w
    → All (λ train. All (λ waiting. IsCauseOf train.1 waiting.what waiting.cause) (all_waiting plan.horizon w.stops.active w.limits.active train.1)) w.trains
