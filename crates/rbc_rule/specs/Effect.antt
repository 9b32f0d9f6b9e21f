-- What an input does to the world before the trains are settled, or the code that refuses it (own rule). If several codes apply, the
-- least one refuses it. A bad line comes with its code.
use Rattle.std.specs.Prelude.{ℕ, Bool, max, ◌==◌, nat_le, nat_lt, if◌then◌else◌, List, map, length, Option, Some, None, Result, Ok, Err}
use Rattle.std.specs.Option.{option_map_or}
use Rattle.ertms_codec.specs.declared.from_train.Position.{Position}
use Rattle.ertms_codec.specs.declared.from_train.FromTrain.{FromTrain}
use Rattle.ertms_codec.specs.declared.from_train.FromTrain.TheVariants.{Report, Ack, StopAck}
use Rattle.rbc_track.specs.Plan.{Plan}
use Rattle.rbc_place.specs.Placing.{place_of_report}
use Rattle.rbc_maps.specs.Maps.{has, value_of, with_value, without}
use Rattle.rbc_maps.specs.Numbered.{Numbered}
use Rattle.rbc_ids.specs.Table.{Slots, after_stamp_ack, after_id_ack, rejected, after_report}
use Rattle.rbc_zones.specs.declared.segment.Segment.{Segment}
use Rattle.rbc_zones.specs.declared.limit.Dirs.{Dirs}
use Rattle.rbc_zones.specs.Segments.{is_good_area}
use Rattle.rbc_zones.specs.Limits.{is_good_limit}
use Rattle.rbc_settle.specs.declared.train.TrainRec.{TrainRec}
use Rattle.rbc_settle.specs.Numbers.{without_number}
use Rattle.rbc_settle.specs.Trains.{new_train}
use Rattle.rbc_settle.specs.Settling.{Stops, Limits, and_forced}
use Rattle.rbc_rule.specs.declared.input.Input.{Input}
use Rattle.rbc_rule.specs.declared.input.Input.TheVariants.{Enrol, Withdraw, Stop, Release, Restrict, Lift, Received, Bad}
use Rattle.rbc_rule.specs.World.{World}
use Rattle.rbc_rule.specs.Bounds.{max_trains, max_stops, max_limits, max_stamp}
use Rattle.rbc_rule.specs.Codes.{code_of}
use Rattle.rbc_rule.specs.declared.refuse.Refusal.TheVariants.{UnknownTrain, AlreadyEnrolled, TooManyTrains, StopsOutstanding, NumberUsed, BadArea, TooManyActive, NoSuchNumber, StampTooHigh, NothingToAcknowledge}

-- a function of a result, unless the result is a refusal
abbrev pub then_do : {A B : Type 0} → (A → B) → Result A ℕ → Result B ℕ
then_do f (Ok answer) = Ok (f answer)
then_do f (Err code) = Err code

-- ---- the stops and the restrictions

-- R-INPUT-4: with one more that is active, under a new number
abbrev pub with_next : {V : Type 0} → ℕ → V → Numbered V → Numbered V
with_next number value numbered = record { last = number; active = with_value number value numbered.active }

-- R-INPUT-5: without the one under a number
abbrev pub with_less : {V : Type 0} → ℕ → Numbered V → Numbered V
with_less number numbered = record numbered { active = without number numbered.active }

-- R-REFUSE-11, R-REFUSE-12, R-REFUSE-13. One can be added if its number is above the last one, it is good for the
-- track, and there is room for one more.
abbrev pub after_adding : {V : Type 0} → ℕ → Bool → ℕ → V → Numbered V → Result (Numbered V) ℕ
after_adding most is_good number value numbered =
    if nat_le number numbered.last then Err (code_of NumberUsed)
    else (if is_good then (if nat_le most (length numbered.active) then Err (code_of TooManyActive) else Ok (with_next number value numbered))
    else Err (code_of BadArea))

abbrev pub stops_after : Plan → ℕ → List Segment → Stops → Result Stops ℕ
stops_after plan number segments stops = after_adding max_stops (is_good_area plan segments) number segments stops

abbrev pub limits_after : Plan → ℕ → Segment → Dirs → ℕ → Bool → Limits → Result Limits ℕ
limits_after plan number segment dirs speed front limits =
    after_adding max_limits (is_good_limit plan segment speed) number (record { segment = segment; dirs = dirs; speed = speed; front = front }) limits

-- R-REFUSE-14: one can be removed if its number is active
abbrev pub after_removing : {V : Type 0} → ℕ → Numbered V → Result (Numbered V) ℕ
after_removing number numbered = if has numbered.active number then Ok (with_less number numbered) else Err (code_of NoSuchNumber)

-- R-INPUT-5: a train no longer stops at once for a stop that is released
abbrev pub forget : ℕ → TrainRec → TrainRec
forget number train = record train { forced = without_number number train.forced }

-- R-INPUT-5.
abbrev pub forget_all : ℕ → List (ℕ × TrainRec) → List (ℕ × TrainRec)
forget_all number trains = map (λ train. (train.0, forget number train.1)) trains

-- ---- one train

abbrev pub unknown_stamp : ℕ
unknown_stamp = 4294967295

-- R-REFUSE-15: T_TRAIN of a message from a train is too high if it leaves no room for later stamps, unless it is
-- unknown
abbrev pub is_too_high : ℕ → Bool
is_too_high stamp = if stamp == unknown_stamp then nat_lt 1 0 else nat_lt max_stamp stamp

-- R-INPUT-6: a train's stamp rises to T_TRAIN of its message, unless that is unknown
abbrev pub raised : ℕ → TrainRec → TrainRec
raised stamp train = if stamp == unknown_stamp then train else record train { stamp = max train.stamp stamp }

-- R-INPUT-6, R-PLACE-5: a train's place is where it reports that it is
abbrev pub placed : Plan → Position → TrainRec → TrainRec
placed plan position train = record train { place = place_of_report plan position train.length }

-- R-INPUT-7, R-REFUSE-16. A train acknowledges a message by its stamp, which is looked up among its stops first, and
-- then among its restrictions.
abbrev pub limits_acked : ℕ → TrainRec → Result TrainRec ℕ
limits_acked acked train =
    option_map_or (λ slots. Ok (record train { limits = slots })) (after_stamp_ack train.limits acked) (Err (code_of NothingToAcknowledge))

-- R-INPUT-7.
abbrev pub acknowledged : ℕ → TrainRec → Result TrainRec ℕ
acknowledged acked train = option_map_or (λ slots. Ok (record train { stops = slots })) (after_stamp_ack train.stops acked) (limits_acked acked train)

-- R-INPUT-8: a stop is acknowledged by its identifier: a conditional one that is rejected stops the train at once
abbrev pub stop_acked : ℕ → ℕ → TrainRec → Slots → TrainRec
stop_acked id answer train slots = record train { stops = slots; forced = and_forced (rejected answer (value_of train.stops id)) train.forced }

-- R-INPUT-8, R-REFUSE-16.
abbrev pub answered : ℕ → ℕ → TrainRec → Result TrainRec ℕ
answered id answer train =
    option_map_or (λ slots. Ok (stop_acked id answer train slots)) (after_id_ack train.stops id answer) (Err (code_of NothingToAcknowledge))

-- R-ESCALATE-1, R-INPUT-6: a report counts for each stop that the train was told conditionally and has not acknowledged
abbrev pub counted : TrainRec → TrainRec
counted train = record train { stops = after_report train.stops }

-- R-INPUT-6: the train after its message, whatever the stamp
abbrev pub told_by : Plan → FromTrain → TrainRec → Result TrainRec ℕ
told_by plan (Report stamp engine position) train = Ok (counted (placed plan position (raised stamp train)))
told_by plan (Ack stamp engine acked) train = acknowledged acked (raised stamp train)
told_by plan (StopAck stamp engine id answer position) train = answered id answer (placed plan position (raised stamp train))

abbrev pub stamp_of : FromTrain → ℕ
stamp_of (Report stamp engine position) = stamp
stamp_of (Ack stamp engine acked) = stamp
stamp_of (StopAck stamp engine id answer position) = stamp

abbrev pub engine_of : FromTrain → ℕ
engine_of (Report stamp engine position) = engine
engine_of (Ack stamp engine acked) = engine
engine_of (StopAck stamp engine id answer position) = engine

-- R-REFUSE-15: the train after its message, unless the stamp is too high
abbrev pub heard : Plan → FromTrain → TrainRec → Result TrainRec ℕ
heard plan message train = if is_too_high (stamp_of message) then Err (code_of StampTooHigh) else told_by plan message train

-- ---- the trains

-- R-REFUSE-8, R-REFUSE-9, R-INPUT-2: a train can be enrolled if it is not enrolled yet and there is room for it
abbrev pub enrolled : ℕ → ℕ → List (ℕ × TrainRec) → Result (List (ℕ × TrainRec)) ℕ
enrolled engine train_length trains =
    if has trains engine then Err (code_of AlreadyEnrolled)
    else (if nat_le max_trains (length trains) then Err (code_of TooManyTrains)
    else Ok (with_value engine (new_train engine train_length 0) trains))

-- R-REFUSE-7, R-REFUSE-10: a train can be withdrawn if it is enrolled and holds no stop identifier
abbrev pub without_train : ℕ → List (ℕ × TrainRec) → Option TrainRec → Result (List (ℕ × TrainRec)) ℕ
without_train engine trains None = Err (code_of UnknownTrain)
without_train engine trains (Some train) = if length train.stops == 0 then Ok (without engine trains) else Err (code_of StopsOutstanding)

-- R-INPUT-3.
abbrev pub withdrawn : ℕ → List (ℕ × TrainRec) → Result (List (ℕ × TrainRec)) ℕ
withdrawn engine trains = without_train engine trains (value_of trains engine)

-- R-REFUSE-7: only a train that is enrolled can send a message
abbrev pub heard_from : Plan → FromTrain → Option TrainRec → Result TrainRec ℕ
heard_from plan message None = Err (code_of UnknownTrain)
heard_from plan message (Some train) = heard plan message train

abbrev pub received : Plan → FromTrain → List (ℕ × TrainRec) → Result (List (ℕ × TrainRec)) ℕ
received plan message trains =
    then_do (λ train. with_value (engine_of message) train trains) (heard_from plan message (value_of trains (engine_of message)))

-- ---- the world

-- R-INPUT-1.
abbrev pub effect : Plan → Input → World → Result World ℕ
effect plan (Enrol engine train_length) w = then_do (λ trains. record w { trains = trains }) (enrolled engine train_length w.trains)
effect plan (Withdraw engine) w = then_do (λ trains. record w { trains = trains }) (withdrawn engine w.trains)
effect plan (Stop number segments) w = then_do (λ stops. record w { stops = stops }) (stops_after plan number segments w.stops)
effect plan (Release number) w = then_do (λ stops. record w { stops = stops; trains = forget_all number w.trains }) (after_removing number w.stops)
effect plan (Restrict number segment dirs speed front) w = then_do (λ limits. record w { limits = limits }) (limits_after plan number segment dirs speed front w.limits)
effect plan (Lift number) w = then_do (λ limits. record w { limits = limits }) (after_removing number w.limits)
effect plan (Received message) w = then_do (λ trains. record w { trains = trains }) (received plan message w.trains)
effect plan (Bad code) w = Err code
