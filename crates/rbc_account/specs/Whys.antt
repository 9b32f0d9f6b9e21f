-- Why a message was sent: the case that holds of its train after the input.
use Rattle.std.specs.Prelude.{◌≡◌, ℕ, Bool, true, false, if◌then◌else◌, List, Option, Some, None, is_some, option_and_then}
use Rattle.std.specs.List.{All}
use Rattle.std.specs.Option.{option_map_or}
use Rattle.rbc_place.specs.Placing.{Place}
use Rattle.rbc_maps.specs.Maps.{value_of}
use Rattle.rbc_ids.specs.declared.slot.Slot.{Slot}
use Rattle.rbc_ids.specs.declared.slot.Slot.TheVariants.{Used, Revoking}
use Rattle.rbc_ids.specs.Table.{Slots, identifier_of}
use Rattle.rbc_zones.specs.declared.segment.Segment.{Segment}
use Rattle.rbc_zones.specs.Limits.{Limit}
use Rattle.rbc_settle.specs.declared.train.TrainRec.{TrainRec}
use Rattle.rbc_settle.specs.Numbers.{has_number}
use Rattle.rbc_records.specs.declared.record.Key.{Key}
use Rattle.rbc_records.specs.declared.record.Rec.{Rec}
use Rattle.rbc_account.specs.declared.reason.StopReason.{StopReason}
use Rattle.rbc_account.specs.declared.reason.StopReason.TheVariants as stop_reason
use Rattle.rbc_account.specs.declared.reason.LimitReason.TheVariants as limit_reason
use Rattle.rbc_account.specs.declared.told.Told.{Told}
use Rattle.rbc_account.specs.declared.told.ToldWhat.{ToldWhat}
use Rattle.rbc_account.specs.declared.told.ToldWhat.TheVariants as what
use Rattle.rbc_account.specs.declared.told.WhyAtOnce.{WhyAtOnce}
use Rattle.rbc_account.specs.declared.told.WhyAtOnce.TheVariants as at_once
use Rattle.rbc_account.specs.declared.told.ToldRestriction.{ToldRestriction}
use Rattle.rbc_account.specs.declared.told.RestrictionTold.{RestrictionTold}
use Rattle.rbc_account.specs.declared.told.RestrictionTold.TheVariants as packet
use Rattle.rbc_account.specs.declared.told.WhyTold.{WhyTold}
use Rattle.rbc_account.specs.declared.told.WhyTold.TheVariants as why_told
use Rattle.rbc_account.specs.declared.told.WhyRevoked.{WhyRevoked}
use Rattle.rbc_account.specs.declared.told.WhyRevoked.TheVariants as why_revoked
use Rattle.rbc_live.specs.Known.{train_in, active_stops, active_limits}
use Rattle.rbc_account.specs.Reasons.{IsStopReason, IsLimitReason}

-- this case of an active stop applies to a train
abbrev pub IsReasonOf : Option (List Segment) → Bool → Option Place → StopReason → Type 0
IsReasonOf area forced place reason = (segments : List Segment) × (area ≡ Some segments) × IsStopReason segments forced place reason

-- whether a slot is being revoked
abbrev pub is_revoked : Slot → Bool
is_revoked (Used used) = false
is_revoked (Revoking stamp) = true

-- whether an identifier is being revoked
abbrev pub is_revoking : Slots → ℕ → Bool
is_revoking slots id = option_map_or is_revoked (value_of slots id) false

-- the identifier that told a number before, if it is being revoked now
abbrev pub revoked_now : Slots → ℕ → Option ℕ
revoked_now slots id = if is_revoking slots id then Some id else None

abbrev pub revoked_from : Slots → Slots → ℕ → Option ℕ
revoked_from old new number = option_and_then (revoked_now new) (identifier_of old number)

-- The identifier under which a train that sent an input left a stop unanswered: it told the stop before the input, and is being revoked after it.
abbrev pub escalated_under : Option TrainRec → TrainRec → ℕ → Option ℕ
escalated_under before train number = option_and_then (λ old. revoked_from old.stops train.stops number) before

-- Why a train stops at once for a stop: it left the stop unanswered under this identifier; or, only if it did not, the
-- first case of the stop that applies to it.
abbrev pub IsWhyAtOnce : Option ℕ → (StopReason → Type 0) → WhyAtOnce → Type 0
IsWhyAtOnce escalated IsReason (at_once.Unanswered id) = escalated ≡ Some id
IsWhyAtOnce escalated IsReason at_once.NoPlace = (escalated ≡ None) × IsReason stop_reason.NoPlace
IsWhyAtOnce escalated IsReason at_once.Rejected = (escalated ≡ None) × IsReason stop_reason.Forced
IsWhyAtOnce escalated IsReason (at_once.Overlaps segment) = (escalated ≡ None) × IsReason (stop_reason.Overlaps segment)
IsWhyAtOnce escalated IsReason (at_once.BehindGroup edge) = (escalated ≡ None) × IsReason (stop_reason.BehindGroup edge)

-- this case of a restriction applies to a train at a place
abbrev pub IsLimitReasonOf : Option Limit → Option Place → (Limit → Place → Type 0) → Type 0
IsLimitReasonOf limit place Is = (l : Limit) × (limit ≡ Some l) × ((p : Place) × (place ≡ Some p) × Is l p)

-- why a restriction is told
abbrev pub IsWhyTold : Option Limit → Option Place → Segment → WhyTold → Type 0
IsWhyTold limit place segment why_told.Overlaps = IsLimitReasonOf limit place (λ l p. (segment ≡ l.segment) × IsLimitReason l p limit_reason.Overlaps)
IsWhyTold limit place segment (why_told.Ahead distance) = IsLimitReasonOf limit place (λ l p. (segment ≡ l.segment) × IsLimitReason l p (limit_reason.Ahead distance))

-- why a restriction is revoked
abbrev pub IsWhyRevoked : Option Limit → Option Place → WhyRevoked → Type 0
IsWhyRevoked limit place why_revoked.Lifted = limit ≡ None
IsWhyRevoked limit place (why_revoked.OtherLine train restriction) =
    IsLimitReasonOf limit place (λ l p. (train ≡ p.line) × (restriction ≡ l.segment.line) × IsLimitReason l p limit_reason.OtherLine)
IsWhyRevoked limit place (why_revoked.OtherWay facing dirs) =
    IsLimitReasonOf limit place (λ l p. (facing ≡ p.facing) × (dirs ≡ l.dirs) × IsLimitReason l p limit_reason.OtherWay)
IsWhyRevoked limit place why_revoked.Passed = IsLimitReasonOf limit place (λ l p. IsLimitReason l p limit_reason.Passed)

-- why a packet was sent, by the restriction of its number
abbrev pub IsPacketOf : Option Limit → Option Place → RestrictionTold → Type 0
IsPacketOf limit place (packet.Told segment begin end unit why) = IsWhyTold limit place segment why
IsPacketOf limit place (packet.Revoked why) = IsWhyRevoked limit place why
IsPacketOf limit place packet.Unknown = Unit

abbrev pub IsPacket : List (Key × Rec) → TrainRec → ToldRestriction → Type 0
IsPacket records train one = IsPacketOf (value_of (active_limits records) one.number) train.place one.what

-- this case of the stop with a number applies to a train
abbrev pub IsReasonTo : List (Key × Rec) → TrainRec → ℕ → StopReason → Type 0
IsReasonTo records train number reason = IsReasonOf (value_of (active_stops records) number) (has_number train.forced number) train.place reason

-- Why a message was sent to a train, which is `train` after the input. `before` is the train that sent the input, as it was before, if a train did.
abbrev pub IsWhat : List (Key × Rec) → Option TrainRec → TrainRec → ToldWhat → Type 0
IsWhat records before train (what.StopBefore number told edge unit) = IsReasonTo records train number (stop_reason.Before edge)
IsWhat records before train (what.StopAtOnce number why) = IsWhyAtOnce (escalated_under before train number) (IsReasonTo records train number) why
IsWhat records before train (what.StopRevoked number unanswered) = unanswered ≡ is_some (value_of (active_stops records) number)
IsWhat records before train (what.Restrictions all) = All (IsPacket records train) all.items
IsWhat records before train what.Unknown = Unit

-- A message tells this to its train, as the train is after the input.
abbrev pub IsTold : List (Key × Rec) → Option TrainRec → Told → Type 0
IsTold records before told = (train : TrainRec) → train_in records told.engine ≡ Some train → (told.place ≡ train.place) × IsWhat records before train told.what
