-- Worked lines for the law on what a live desk takes.
use Rattle.std.specs.Prelude.{ℕ, false, true, List, [], ◌∷◌, Some}
use Rattle.ertms_codec.specs.declared.to_train.ToTrain.TheVariants.{Stop}
use Rattle.rbc_settle.specs.declared.sent.Sent.{Sent}
use Rattle.rbc_track.specs.declared.group.Way.TheVariants.{Up}
use Rattle.rbc_zones.specs.declared.segment.Segment.{Segment}
use Rattle.rbc_settle.specs.declared.train.TrainRec.{TrainRec}
use Rattle.rbc_settle.specs.Trains.{new_train}
use Rattle.rbc_settle.specs.Settling.{last_stamp}
use Rattle.rbc_records.specs.declared.record.Key.{Key}
use Rattle.rbc_records.specs.declared.record.Key.TheVariants as key
use Rattle.rbc_records.specs.declared.record.Rec.{Rec}
use Rattle.rbc_records.specs.declared.record.Rec.TheVariants as rec
use Rattle.rbc_rule.specs.declared.outcome.Reply.{Reply}
use Rattle.rbc_rule.specs.declared.outcome.Reply.TheVariants.{Done, Refused}
use Rattle.rbc_live.specs.History.{Taken}

-- the line `x`, which is not an input, with an answer to it and messages
abbrev pub line_x : Reply → List Sent → Taken
line_x reply messages = record { line = 120 ∷ []; reply = reply; messages = messages }

-- it is refused with code 1, and nothing is sent
abbrev pub refused : Taken
refused = line_x (Refused 1) []

-- it is accepted
abbrev pub accepted : Taken
accepted = line_x (Done 0) []

-- it is refused, but a stop is sent to engine 7
abbrev pub sending : Taken
sending = line_x (Refused 1) (record { engine = 7; message = Stop (record { stamp = 1; ack = false; lrbg = 16777215 }) 0 } ∷ [])

-- engine 7 is enrolled
abbrev pub engines_there : List (Key × Rec)
engines_there = (key.Roster, rec.Engines (7 ∷ [])) ∷ []

-- train 7, 200 m long, to which nothing was told: at stamp 1000, and at the last stamp
abbrev pub train_7 : TrainRec
train_7 = new_train 7 2000 1000

abbrev pub train_7_at_the_end : TrainRec
train_7_at_the_end = new_train 7 2000 last_stamp

-- train 7 at a place on line 0, 200 m beyond balise group 5, facing up
abbrev pub train_7_placed : TrainRec
train_7_placed = record train_7 { place = Some (record { line = 0; lrbg = 5; at = 10000; same = true; facing = Up; lo = 9900; hi = 12100 }) }

-- stop 1 of 20000 to 21000 on line 0
abbrev pub stop_1 : ℕ × List Segment
stop_1 = (1, record { line = 0; from = 20000; to = 21000 } ∷ [])
