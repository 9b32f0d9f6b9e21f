-- What settling a train achieves (own rule).
use Rattle.std.specs.Prelude.{◌≡◌, ◌⊎◌, ℕ, ◌≤◌, true, false, List, [], None, length}
use Rattle.std.specs.List.{All}
use Rattle.rbc_track.specs.Plan.{Plan}
use Rattle.rbc_maps.specs.Numbered.{AreNumbered}
use Rattle.rbc_ids.specs.Table.{IsTable, is_told}
use Rattle.rbc_zones.specs.declared.segment.Segment.{Segment}
use Rattle.rbc_zones.specs.declared.stop_meaning.Concern.TheVariants as concern
use Rattle.rbc_zones.specs.Limits.{Limit}
use Rattle.rbc_settle.specs.declared.train.TrainRec.{TrainRec}
use Rattle.rbc_settle.specs.Trains.{stop_identifiers, limit_identifiers}
use Rattle.rbc_settle.specs.Settling.{Stops, Limits, last_stamp, concern_to, limit_told_to, is_stop_gone, is_limit_gone, is_used_by, due_number, actions, settled, messages_of}

-- R-SETTLE-13. A stop does not concern the train, or is told to it, or all stop identifiers are held.
abbrev pub IsToldIfItCan : TrainRec → ℕ × List Segment → Type 0
IsToldIfItCan train stop = (concern_to train stop ≡ concern.None) ⊎ ((is_told train.stops stop.0 ≡ true) ⊎ (length train.stops ≡ stop_identifiers))

-- R-SETTLE-13. A restriction does not concern the train, or is told to it, or all restriction identifiers are held.
abbrev pub IsLimitToldIfItCan : ℕ → TrainRec → ℕ × Limit → Type 0
IsLimitToldIfItCan horizon train limit = (limit_told_to horizon train.place limit.1 ≡ None) ⊎ ((is_told train.limits limit.0 ≡ true) ⊎ (length train.limits ≡ limit_identifiers))

-- R-SETTLE-13. No slot is due, or all stop identifiers are held.
abbrev pub IsNoneDue : Stops → TrainRec → Type 0
IsNoneDue stops train = All (λ held. due_number stops held.1 ≡ None) train.stops ⊎ (length train.stops ≡ stop_identifiers)

-- R-SETTLE-13. A train is up to date: each active stop and each active restriction that concerns it is told, unless no
-- identifier is free; no slot is used by a number that has to be revoked; and if a stop identifier is free, no slot is
-- due.
pub record IsUpToDate (plan : Plan) (stops : Stops) (limits : Limits) (train : TrainRec) : Type 0 where
  pub told : All (IsToldIfItCan train) stops.active
  pub limits_told : All (IsLimitToldIfItCan plan.horizon train) limits.active
  pub no_stop_gone : All (λ held. is_used_by (is_stop_gone stops) held.1 ≡ false) train.stops
  pub no_limit_gone : All (λ held. is_used_by (is_limit_gone limits train.place) held.1 ≡ false) train.limits
  pub none_due : IsNoneDue stops train

-- R-SETTLE-13: a train is up to date, or no stamp is left for it
abbrev pub IsUpToDateOrAtTheEnd : Plan → Stops → Limits → TrainRec → Type 0
IsUpToDateOrAtTheEnd plan stops limits train = (last_stamp ≤ train.stamp) ⊎ IsUpToDate plan stops limits train

-- both tables of a train are sound
pub record HasTables (train : TrainRec) : Type 0 where
  pub stops : IsTable stop_identifiers train.stops
  pub limits : IsTable limit_identifiers train.limits

-- a train is not changed by settling it, and is sent nothing
pub record StaysAsItIs (plan : Plan) (stops : Stops) (limits : Limits) (train : TrainRec) : Type 0 where
  pub same : settled plan stops limits train ≡ train
  pub nothing : messages_of plan stops limits train ≡ []

-- A train that was settled stays as it is when it is settled again.
abbrev pub SettlingTwiceIsOnce : Type 0
SettlingTwiceIsOnce =
    (plan : Plan) (stops : Stops) (limits : Limits) (train : TrainRec) → HasTables train → AreNumbered stops → AreNumbered limits
    → StaysAsItIs plan stops limits (settled plan stops limits train)

-- Nothing has to be done to a train that is up to date.
abbrev pub NothingIsLeftToDo : Type 0
NothingIsLeftToDo =
    (plan : Plan) (stops : Stops) (limits : Limits) (train : TrainRec) → IsUpToDate plan stops limits train → HasTables train
    → actions plan stops limits train ≡ []
