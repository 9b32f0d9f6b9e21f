-- What an input did.
use Rattle.std.specs.Prelude.{◌≡◌, ℕ, ◌==◌, if◌then◌else◌, List, ◌++◌, Option, Some, None}
use Rattle.std.specs.List.{filter_map}
use Rattle.ertms_codec.specs.declared.from_train.Position.{Position}
use Rattle.ertms_codec.specs.declared.from_train.FromTrain.TheVariants.{Report, Ack, StopAck}
use Rattle.rbc_track.specs.Plan.{Plan}
use Rattle.rbc_ids.specs.declared.slot.Slot.{Slot}
use Rattle.rbc_ids.specs.declared.slot.Slot.TheVariants.{Used, Revoking}
use Rattle.rbc_settle.specs.declared.train.TrainRec.{TrainRec}
use Rattle.rbc_rule.specs.declared.input.Input.{Input}
use Rattle.rbc_rule.specs.declared.input.Input.TheVariants as input
use Rattle.rbc_account.specs.declared.deed.Deed.{Deed}
use Rattle.rbc_account.specs.declared.deed.Deed.TheVariants as deed
use Rattle.rbc_account.specs.declared.deed.Acked.{Acked}
use Rattle.rbc_account.specs.declared.deed.Acked.TheVariants as acked
use Rattle.rbc_account.specs.declared.placing.Placing.{Placing}
use Rattle.rbc_live.specs.Known.{number_under}
use Rattle.rbc_account.specs.Placed.{IsPlacing}

-- what the acknowledgement of the message with a stamp does to a stop identifier
abbrev pub stop_acked : ℕ → ℕ × Slot → Option Acked
stop_acked stamp (id, Used used) = None
stop_acked stamp (id, Revoking own) = if own == stamp then Some (acked.StopFreed id) else None

-- what that acknowledgement does to a restriction identifier
abbrev pub limit_acked : ℕ → ℕ × Slot → Option Acked
limit_acked stamp (id, Used used) = if used.stamp == stamp then Some (acked.Restriction id used.number) else None
limit_acked stamp (id, Revoking own) = if own == stamp then Some (acked.RestrictionFreed id) else None

-- what that acknowledgement does to all identifiers of a train
abbrev pub acked_by : ℕ → TrainRec → List Acked
acked_by stamp train = filter_map (stop_acked stamp) train.stops ++ filter_map (limit_acked stamp) train.limits

-- this is where the report places the train, by its length before the input
abbrev pub IsPlacedBy : Plan → Option TrainRec → Position → Placing → Type 0
IsPlacedBy plan before position placing = (train : TrainRec) × (before ≡ Some train) × IsPlacing plan position train.length placing

-- An input did this. `before` is the train that sent it, as it was before, if a train did.
abbrev pub IsDeed : Plan → Option TrainRec → Input → Deed → Type 0
IsDeed plan before one (deed.Enrolled engine train_length) = one ≡ input.Enrol engine train_length
IsDeed plan before one (deed.Withdrawn engine) = one ≡ input.Withdraw engine
IsDeed plan before one (deed.Stopped number segments) = one ≡ input.Stop number segments.items
IsDeed plan before one (deed.Restricted number segment dirs speed front) = one ≡ input.Restrict number segment dirs speed front
IsDeed plan before one (deed.Released number) = one ≡ input.Release number
IsDeed plan before one (deed.Lifted number) = one ≡ input.Lift number
IsDeed plan before one (deed.Reported engine stamp placing) =
    (position : Position) × (one ≡ input.Received (Report stamp engine position)) × IsPlacedBy plan before position placing
IsDeed plan before one (deed.Answered engine stamp id number answer placing) =
    (position : Position) × (one ≡ input.Received (StopAck stamp engine id answer position)) × IsPlacedBy plan before position placing
    × ((train : TrainRec) × (before ≡ Some train) × (number_under train.stops id ≡ Some number))
IsDeed plan before one (deed.Acknowledged engine stamp acked all) =
    (one ≡ input.Received (Ack stamp engine acked)) × ((train : TrainRec) × (before ≡ Some train) × (all.items ≡ acked_by acked train))
IsDeed plan before one (deed.Refused detail) = Unit
