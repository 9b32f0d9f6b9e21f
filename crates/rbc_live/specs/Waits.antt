-- What waits at a train: what concerns it and is not told to it, and the stops that are due and not told again.
use Rattle.std.specs.Prelude.{ℕ, Bool, ◌==◌, ◌&&◌, ◌||◌, nat_le, if◌then◌else◌, List, ◌++◌, map, length, is_some}
use Rattle.std.specs.List.{filter, list_any}
use Rattle.rbc_ids.specs.Table.{is_ripe, tells}
use Rattle.rbc_zones.specs.declared.segment.Segment.{Segment}
use Rattle.rbc_zones.specs.Limits.{Limit}
use Rattle.rbc_settle.specs.declared.train.TrainRec.{TrainRec}
use Rattle.rbc_settle.specs.Trains.{stop_identifiers, limit_identifiers}
use Rattle.rbc_settle.specs.Settling.{stop_to_tell, limit_to_tell, last_stamp}
use Rattle.rbc_records.specs.declared.record.Key.{Key}
use Rattle.rbc_records.specs.declared.record.Rec.{Rec}
use Rattle.rbc_live.specs.Known.{active_stops, active_limits}
use Rattle.rbc_live.specs.declared.waiting.Waiting.{Waiting}
use Rattle.rbc_live.specs.declared.waiting.Waits.{Waits}
use Rattle.rbc_live.specs.declared.waiting.Waits.TheVariants.{Stop, Restriction, Again}
use Rattle.rbc_live.specs.declared.waiting.Cause.{Cause}
use Rattle.rbc_live.specs.declared.waiting.Cause.TheVariants.{NoIdentifier, NoStamp}

-- a stop waits at a train: it has to be told, since it concerns the train and is not told to it
abbrev pub stop_waits : TrainRec → ℕ × List Segment → Bool
stop_waits train stop = is_some (stop_to_tell train stop)

-- a restriction waits at a train
abbrev pub limit_waits : ℕ → TrainRec → ℕ × Limit → Bool
limit_waits horizon train limit = is_some (limit_to_tell horizon train limit)

-- a stop is due at a train: it is told conditionally, and was left unanswered in three reports
abbrev pub is_due : TrainRec → ℕ → Bool
is_due train number = list_any (λ held. is_ripe held.1 && tells number held.1) train.stops

-- a train lacks something for a message: all identifiers of a kind are held, or no stamp is left
abbrev pub lacks_something : TrainRec → Bool
lacks_something train = length train.stops == stop_identifiers || (length train.limits == limit_identifiers || nat_le last_stamp train.stamp)

-- Why a stop or a restriction waits: no identifier is free or, if one is, the train has no stamp left.
abbrev pub stop_cause : TrainRec → Cause
stop_cause train = if length train.stops == stop_identifiers then NoIdentifier else NoStamp

abbrev pub limit_cause : TrainRec → Cause
limit_cause train = if length train.limits == limit_identifiers then NoIdentifier else NoStamp

-- a stop or a restriction that waits, and a stop that is due
abbrev pub waiting_stop : TrainRec → ℕ → Waiting
waiting_stop train number = record { what = Stop number; cause = stop_cause train }

abbrev pub waiting_limit : TrainRec → ℕ → Waiting
waiting_limit train number = record { what = Restriction number; cause = limit_cause train }

abbrev pub waiting_again : TrainRec → ℕ → Waiting
waiting_again train number = record { what = Again number; cause = stop_cause train }

-- the active stops that wait, by number
abbrev pub stops_waiting : List (ℕ × List Segment) → TrainRec → List Waiting
stops_waiting stops train = map (λ stop. waiting_stop train stop.0) (filter (stop_waits train) stops)

-- the active restrictions that wait, by number
abbrev pub limits_waiting : ℕ → List (ℕ × Limit) → TrainRec → List Waiting
limits_waiting horizon limits train = map (λ limit. waiting_limit train limit.0) (filter (limit_waits horizon train) limits)

-- the active stops that are due, by number
abbrev pub stops_due : List (ℕ × List Segment) → TrainRec → List Waiting
stops_due stops train = map (λ stop. waiting_again train stop.0) (filter (λ stop. is_due train stop.0) stops)

-- all that waits at a train
abbrev pub all_waiting : ℕ → List (ℕ × List Segment) → List (ℕ × Limit) → TrainRec → List Waiting
all_waiting horizon stops limits train = stops_waiting stops train ++ limits_waiting horizon limits train ++ stops_due stops train

-- the same, by the active stops and restrictions of records
abbrev pub waiting_at : ℕ → List (Key × Rec) → TrainRec → List Waiting
waiting_at horizon records train = all_waiting horizon (active_stops records) (active_limits records) train

-- whether two things that wait are the same
abbrev pub kind_and_number : Waits → ℕ × ℕ
kind_and_number (Stop number) = (0, number)
kind_and_number (Restriction number) = (1, number)
kind_and_number (Again number) = (2, number)

abbrev pub same_waits : Waits → Waits → Bool
same_waits one other = (kind_and_number one).0 == (kind_and_number other).0 && (kind_and_number one).1 == (kind_and_number other).1

-- whether something waits in a list
abbrev pub waits_in : List Waiting → Waits → Bool
waits_in all what = list_any (λ waiting. same_waits waiting.what what) all
