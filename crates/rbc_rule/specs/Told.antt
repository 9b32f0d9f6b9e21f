-- What the rules promise every train after each step (own rule).
use Rattle.std.specs.Prelude.{◌≡◌, ◌⊎◌, ℕ, ◌<◌, Bool, true, false, not, ◌&&◌, List, [], ◌∷◌, length, map, Some, None, Ok}
use Rattle.std.specs.List.{All, filter}
use Rattle.ertms_codec.specs.declared.packets.Part.{Part as Packet}
use Rattle.ertms_codec.specs.declared.packets.Part.TheVariants as packet
use Rattle.ertms_codec.specs.declared.to_train.ToTrain.{ToTrain}
use Rattle.ertms_codec.specs.declared.to_train.ToTrain.TheVariants as message
use Rattle.rbc_track.specs.Plan.{Plan, IsPlan}
use Rattle.rbc_place.specs.Placing.{Place}
use Rattle.rbc_maps.specs.Maps.{value_of, value_or}
use Rattle.rbc_ids.specs.declared.slot.Slot.TheVariants.{Used, Revoking}
use Rattle.rbc_ids.specs.declared.slot.UsedSlot.{UsedSlot}
use Rattle.rbc_ids.specs.declared.slot.Kind.TheVariants.{Conditional, Unconditional, Restriction}
use Rattle.rbc_ids.specs.Table.{Slots, is_told, told_now, free_identifiers}
use Rattle.rbc_zones.specs.declared.segment.Segment.{Segment}
use Rattle.rbc_zones.specs.declared.stop_meaning.Concern.{Concern}
use Rattle.rbc_zones.specs.declared.stop_meaning.Concern.TheVariants as concern
use Rattle.rbc_zones.specs.Limits.{Limit, is_clear}
use Rattle.rbc_settle.specs.declared.train.TrainRec.{TrainRec}
use Rattle.rbc_settle.specs.declared.change.StopChange.TheVariants as stop_change
use Rattle.rbc_settle.specs.declared.change.LimitChange.{LimitChange}
use Rattle.rbc_settle.specs.declared.change.LimitChange.TheVariants as limit_change
use Rattle.rbc_settle.specs.Actions.{Action, ChangesStop, ChangesLimits}
use Rattle.rbc_settle.specs.Trains.{stop_identifiers}
use Rattle.rbc_settle.specs.Settling.{Stops, Limits, concern_to, actions_with_stamp}
use Rattle.rbc_settle.specs.UpToDate.{IsUpToDateOrAtTheEnd}
use Rattle.rbc_rule.specs.declared.input.Input.{Input}
use Rattle.rbc_rule.specs.Inputs.{Fits}
use Rattle.rbc_rule.specs.World.{World}
use Rattle.rbc_rule.specs.Effect.{effect}
use Rattle.rbc_rule.specs.Step.{step}
use Rattle.rbc_rule.specs.WellFormed.{IsWellFormed}

-- R-SETTLE-13. Each train is up to date, or its stamps have ended: each active stop or restriction that concerns it is
-- told, or finds no free identifier, and no slot is used by a number that is to be revoked.
abbrev pub EachTrainIsUpToDate : Plan → World → Type 0
EachTrainIsUpToDate plan w = All (λ train. IsUpToDateOrAtTheEnd plan w.stops w.limits train.1) w.trains

-- R-SETTLE-13: this holds after each step, from any well-formed world
abbrev pub EachStepTells : Type 0
EachStepTells =
    (plan : Plan) (w : World) (input : Input) → IsPlan plan → Fits input → IsWellFormed plan w → EachTrainIsUpToDate plan (step plan w input).world

-- ---- what is revoked

-- A stop that was told conditionally was left unanswered in three reports.
pub record IsLeftUnanswered (used : UsedSlot) : Type 0 where
  pub conditional : used.kind ≡ Conditional
  pub unanswered : used.acked ≡ false
  pub three_reports : used.count ≡ 3

-- a stop means something for a train
abbrev pub is_something : Concern → Bool
is_something concern.None = false
is_something concern.Now = true
is_something (concern.Before edge) = true

-- an active stop is still to be told: it means something for the train, and is not told to it
abbrev pub is_untold : TrainRec → ℕ × List Segment → Bool
is_untold train stop = not (is_told train.stops stop.0) && is_something (concern_to train stop)

-- more stop identifiers are free than stops are still to be told
abbrev pub HasOneToSpare : Stops → TrainRec → Type 0
HasOneToSpare stops train = length (filter (is_untold train) stops.active) < length (free_identifiers stop_identifiers train.stops)

-- A stop identifier may be revoked: it is used by a number that is not active; or the train left it unanswered in three reports, and has
-- an identifier to spare, under which it is told again.
pub record MayRevokeStop (stops : Stops) (train : TrainRec) (id : ℕ) : Type 0 where
  pub used : UsedSlot
  pub held : value_of train.stops id ≡ Some (Used used)
  pub why : (value_of stops.active used.number ≡ None) ⊎ (IsLeftUnanswered used × HasOneToSpare stops train)

-- an active restriction is clear of a train where it stands
pub record IsClearOfTrain (limits : Limits) (train : TrainRec) (number : ℕ) : Type 0 where
  pub limit : Limit
  pub active : value_of limits.active number ≡ Some limit
  pub p : Place
  pub placed : train.place ≡ Some p
  pub clear : is_clear limit p ≡ true

-- A restriction identifier may be revoked: it is used by a number that is not active, or by a restriction that is clear of the train.
pub record MayRevokeLimit (limits : Limits) (train : TrainRec) (id : ℕ) : Type 0 where
  pub used : UsedSlot
  pub held : value_of train.limits id ≡ Some (Used used)
  pub why : (value_of limits.active used.number ≡ None) ⊎ IsClearOfTrain limits train used.number

-- a packet revokes nothing, or what may be revoked
abbrev pub PacketRevokesRightly : Limits → TrainRec → Packet → Type 0
PacketRevokesRightly limits train (packet.Restrict dir scale id start length front speed) = Unit
PacketRevokesRightly limits train (packet.Lift dir id) = MayRevokeLimit limits train id

-- the same for a message
abbrev pub RevokesRightly : Stops → Limits → TrainRec → ToTrain → Type 0
RevokesRightly stops limits train (message.StopAt head id scale reference dir distance) = Unit
RevokesRightly stops limits train (message.Stop head id) = Unit
RevokesRightly stops limits train (message.Revoke head id) = MayRevokeStop stops train id
RevokesRightly stops limits train (message.General head packets) = All (PacketRevokesRightly limits train) packets

-- each message to each train, in each step from any well-formed world, as the train stands after the effect of the input
abbrev pub EachStepRevokesRightly : Type 0
EachStepRevokesRightly =
    (plan : Plan) (w : World) (input : Input) (changed : World) (engine : ℕ) (train : TrainRec) → IsPlan plan → Fits input → IsWellFormed plan w
    → effect plan input w ≡ Ok changed → value_of changed.trains engine ≡ Some train
    → All (RevokesRightly changed.stops changed.limits train) (value_or [] (step plan w input).sent engine)

-- ---- what the slots of a train keep

-- A message left its mark in the slot of its stop identifier. What it tells is kept as told by it, under this number
-- and with its stamp, and not answered yet; what it revokes is kept as being revoked, with its stamp.
abbrev pub MarksStop : Slots → ℕ → ToTrain → Type 0
MarksStop slots number (message.StopAt head id scale reference dir distance) = value_of slots id ≡ Some (told_now number head.stamp Conditional)
MarksStop slots number (message.Stop head id) = value_of slots id ≡ Some (told_now number head.stamp Unconditional)
MarksStop slots number (message.Revoke head id) = value_of slots id ≡ Some (Revoking head.stamp)
MarksStop slots number (message.General head packets) = Unit

-- the same for a packet, in the slot of its restriction identifier
abbrev pub MarksLimit : Slots → ℕ → ℕ → Packet → Type 0
MarksLimit slots stamp number (packet.Restrict dir scale id start length front speed) = value_of slots id ≡ Some (told_now number stamp Restriction)
MarksLimit slots stamp number (packet.Lift dir id) = value_of slots id ≡ Some (Revoking stamp)

-- the same for each packet of a message, each with its number
abbrev pub PacketsMark : Slots → ℕ → List ℕ → List Packet → Type 0
PacketsMark slots stamp [] [] = Unit
PacketsMark slots stamp (number ∷ numbers) (one ∷ packets) = MarksLimit slots stamp number one × PacketsMark slots stamp numbers packets
PacketsMark slots stamp [] (one ∷ packets) = ⊥
PacketsMark slots stamp (number ∷ numbers) [] = ⊥

abbrev pub MarksLimits : Slots → List ℕ → ToTrain → Type 0
MarksLimits slots numbers (message.StopAt head id scale reference dir distance) = Unit
MarksLimits slots numbers (message.Stop head id) = Unit
MarksLimits slots numbers (message.Revoke head id) = Unit
MarksLimits slots numbers (message.General head packets) = PacketsMark slots head.stamp numbers packets

-- the number that a change to the restrictions tells, or 0 if it tells none
abbrev pub number_told : LimitChange → ℕ
number_told (limit_change.Revoke id) = 0
number_told (limit_change.Tell id number told) = number

-- the message of an action left its marks in the slots of a train
abbrev pub IsMarked : TrainRec → Action → ToTrain → Type 0
IsMarked now (ChangesStop (stop_change.Revoke id forced)) sent = MarksStop now.stops 0 sent
IsMarked now (ChangesStop (stop_change.Tell id number told)) sent = MarksStop now.stops number sent
IsMarked now (ChangesLimits changes) sent = MarksLimits now.limits (map number_told changes) sent

-- the same for the message of each action
abbrev pub AllMarked : TrainRec → List Action → List ToTrain → Type 0
AllMarked now [] [] = Unit
AllMarked now (action ∷ actions) (sent ∷ more) = IsMarked now action sent × AllMarked now actions more
AllMarked now [] (sent ∷ more) = ⊥
AllMarked now (action ∷ actions) [] = ⊥

-- A train that was there before a step is there after it, and each message that was sent to it left its marks.
pub record KeepsWhatWasSent (plan : Plan) (changed : World) (train : TrainRec) (trains : List (ℕ × TrainRec)) (engine : ℕ) (sent : List ToTrain) : Type 0 where
  pub now : TrainRec
  pub is_now : value_of trains engine ≡ Some now
  pub marked : AllMarked now (actions_with_stamp plan changed.stops changed.limits train) sent

-- each train, in each step from any well-formed world, as it stands after the effect of the input
abbrev pub EachStepKeepsWhatWasSent : Type 0
EachStepKeepsWhatWasSent =
    (plan : Plan) (w : World) (input : Input) (changed : World) (engine : ℕ) (train : TrainRec) → IsPlan plan → Fits input → IsWellFormed plan w
    → effect plan input w ≡ Ok changed → value_of changed.trains engine ≡ Some train
    → KeepsWhatWasSent plan changed train (step plan w input).world.trains engine (value_or [] (step plan w input).sent engine)
