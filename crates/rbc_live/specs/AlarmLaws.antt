-- What alarms promise (own rule).
use Rattle.std.specs.Prelude.{◌≡◌, ◌⊎◌, ◌≤◌, ℕ, Bool, true, None, List, length}
use Rattle.std.specs.List.{All, list_any}
use Rattle.rbc_track.specs.Plan.{Plan}
use Rattle.rbc_zones.specs.declared.segment.Segment.{Segment}
use Rattle.rbc_zones.specs.declared.stop_meaning.Concern.TheVariants as concern
use Rattle.rbc_zones.specs.Limits.{Limit}
use Rattle.rbc_ids.specs.Table.{is_told}
use Rattle.rbc_settle.specs.declared.train.TrainRec.{TrainRec}
use Rattle.rbc_settle.specs.Trains.{stop_identifiers, limit_identifiers}
use Rattle.rbc_settle.specs.Settling.{concern_to, last_stamp, limit_told_to}
use Rattle.rbc_rule.specs.World.{World}
use Rattle.rbc_rule.specs.WellFormed.{IsWellFormed}
use Rattle.rbc_live.specs.declared.alarm.Alarm.{Alarm}
use Rattle.rbc_live.specs.declared.alarm.Alarm.TheVariants.{NoPlace, Untold}
use Rattle.rbc_live.specs.declared.waiting.Waits.TheVariants.{Stop, Restriction, Again}
use Rattle.rbc_live.specs.Alarms.{alarms_at, same_alarm}

-- all identifiers of the train for stops are held, or no stamp is left for it; the same for restrictions
abbrev pub HasNoStopLeft : TrainRec → Type 0
HasNoStopLeft train = (length train.stops ≡ stop_identifiers) ⊎ (last_stamp ≤ train.stamp)

abbrev pub HasNoLimitLeft : TrainRec → Type 0
HasNoLimitLeft train = (length train.limits ≡ limit_identifiers) ⊎ (last_stamp ≤ train.stamp)

-- an alarm has its reason: the train has no place, or could not be told
abbrev pub HasReason : TrainRec → Alarm → Type 0
HasReason train NoPlace = train.place ≡ None
HasReason train (Untold (Stop number)) = HasNoStopLeft train
HasReason train (Untold (Restriction number)) = HasNoLimitLeft train
HasReason train (Untold (Again number)) = HasNoStopLeft train

-- each alarm of each train of a valid state has its reason
abbrev pub EachAlarmHasReason : Type 0
EachAlarmHasReason =
    (plan : Plan) (w : World) → IsWellFormed plan w → All (λ train. All (HasReason train.1) (alarms_at plan.horizon w.stops.active w.limits.active train.1)) w.trains

-- whether an alarm is among others
abbrev pub is_among : List Alarm → Alarm → Bool
is_among alarms alarm = list_any (λ other. same_alarm other alarm) alarms

-- a stop does not concern the train, or it is told to it, or it has an alarm
abbrev pub IsStopToldOrAlarmed : TrainRec → List Alarm → ℕ × List Segment → Type 0
IsStopToldOrAlarmed train alarms stop = (concern_to train stop ≡ concern.None) ⊎ ((is_told train.stops stop.0 ≡ true) ⊎ (is_among alarms (Untold (Stop stop.0)) ≡ true))

-- the same for a restriction
abbrev pub IsLimitToldOrAlarmed : ℕ → TrainRec → List Alarm → ℕ × Limit → Type 0
IsLimitToldOrAlarmed horizon train alarms limit =
    (limit_told_to horizon train.place limit.1 ≡ None) ⊎ ((is_told train.limits limit.0 ≡ true) ⊎ (is_among alarms (Untold (Restriction limit.0)) ≡ true))

-- whatever is active, all that concerns a train is told to it or has an alarm
pub record NothingIsMissed (horizon : ℕ) (stops : List (ℕ × List Segment)) (limits : List (ℕ × Limit)) (train : TrainRec) : Type 0 where
  pub no_stop : All (IsStopToldOrAlarmed train (alarms_at horizon stops limits train)) stops
  pub no_limit : All (IsLimitToldOrAlarmed horizon train (alarms_at horizon stops limits train)) limits

abbrev pub NothingIsEverMissed : Type 0
NothingIsEverMissed = (horizon : ℕ) (stops : List (ℕ × List Segment)) (limits : List (ℕ × Limit)) (train : TrainRec) → NothingIsMissed horizon stops limits train
