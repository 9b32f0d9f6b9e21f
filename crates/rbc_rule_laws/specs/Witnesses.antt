-- Worked cases of the laws, on one track, and of the records. Places and lengths are in units of 10 cm, speeds in km/h.
use Rattle.std.specs.Prelude.{ℕ, ℤ, Bool, true, false, List, [], ◌∷◌, map, Option, Some, None, pos}
use Rattle.std.specs.List.{range_with_len}
use Rattle.ertms_codec.specs.declared.to_train.Head.{Head}
use Rattle.ertms_codec.specs.declared.to_train.ToTrain.{ToTrain}
use Rattle.ertms_codec.specs.declared.to_train.ToTrain.TheVariants as message
use Rattle.ertms_codec.specs.declared.packets.Part.{Part as Packet}
use Rattle.ertms_codec.specs.declared.packets.Part.TheVariants as packet
use Rattle.rbc_track.specs.Plan.{Plan}
use Rattle.rbc_track.specs.declared.group.Way.TheVariants.{Up, Down}
use Rattle.rbc_place.specs.Placing.{Place}
use Rattle.rbc_maps.specs.Numbered.{none_numbered}
use Rattle.rbc_ids.specs.declared.slot.Slot.{Slot}
use Rattle.rbc_ids.specs.declared.slot.Slot.TheVariants.{Used, Revoking}
use Rattle.rbc_ids.specs.declared.slot.Kind.{Kind}
use Rattle.rbc_ids.specs.declared.slot.Kind.TheVariants.{Conditional, Restriction}
use Rattle.rbc_ids.specs.Table.{Slots, told_now}
use Rattle.rbc_zones.specs.declared.segment.Segment.{Segment}
use Rattle.rbc_zones.specs.declared.limit.Dirs.TheVariants as dirs
use Rattle.rbc_zones.specs.Limits.{Limit}
use Rattle.rbc_settle.specs.declared.train.TrainRec.{TrainRec}
use Rattle.rbc_settle.specs.declared.change.StopChange.TheVariants as stop_change
use Rattle.rbc_settle.specs.declared.change.LimitChange.{LimitChange}
use Rattle.rbc_settle.specs.declared.change.LimitChange.TheVariants as limit_change
use Rattle.rbc_settle.specs.Actions.{ChangesStop, ChangesLimits}
use Rattle.rbc_settle.specs.declared.change.ToldStop.{ToldStop}
use Rattle.rbc_settle.specs.declared.change.ToldStop.TheVariants.{AtOnce, Before}
use Rattle.rbc_settle.specs.Told.{Part as ToldPart}
use Rattle.rbc_settle.specs.Settling.{Stops, Limits, last_stamp}
use Rattle.rbc_records.specs.declared.record.Key.{Key}
use Rattle.rbc_records.specs.declared.record.Key.TheVariants as key
use Rattle.rbc_records.specs.declared.record.Rec.{Rec}
use Rattle.rbc_records.specs.declared.record.Rec.TheVariants as rec
use Rattle.rbc_records.specs.Notes.{Notes, Part}
use Rattle.rbc_rule.specs.declared.input.Input.{Input}
use Rattle.rbc_rule.specs.declared.input.Input.TheVariants.{Enrol, Stop, Restrict}
use Rattle.rbc_rule.specs.World.{World}
use Rattle.rbc_rule.specs.Effect.{effect}
use Rattle.rbc_rule.specs.Saying.{Spot, both_ways}
use Rattle.rbc_rule.specs.Told.{RevokesRightly, IsMarked}
use Rattle.rbc_rule.specs.SaidFor.{IsSaidAfter, SaysByPlace, SaysFor, after_sending, as_told}

-- ---- the track, and a train on it

-- two lines, of 30 km and of 300 km, with two balise groups on the first and one on the second
abbrev pub track_a : Plan
track_a = record {
  horizon = 100000;
  lines = 300000 ∷ 3000000 ∷ [];
  groups = (5, record { line = 0; at = 10000; nominal = Up }) ∷ (6, record { line = 0; at = 200000; nominal = Down }) ∷ (7, record { line = 1; at = 0; nominal = Up }) ∷ [];
}

-- 200 m beyond balise group 5, facing up
abbrev pub facing_up : Place
facing_up = record { line = 0; lrbg = 5; at = 10000; same = true; facing = Up; lo = 9900; hi = 12100 }

-- 200 m before balise group 5, facing up
abbrev pub short_of_5 : Place
short_of_5 = record { line = 0; lrbg = 5; at = 10000; same = true; facing = Up; lo = 5900; hi = 8100 }

-- 200 m before balise group 5, facing down
abbrev pub facing_down : Place
facing_down = record { line = 0; lrbg = 5; at = 10000; same = true; facing = Down; lo = 7900; hi = 10100 }

-- train 7 of 200 m at a place, with its last stamp, and what is told to it under stop identifiers
abbrev pub train_7 : Option Place → ℕ → Slots → TrainRec
train_7 place stamp slots = record { engine = 7; length = 2000; stamp = stamp; place = place; forced = []; stops = slots; limits = [] }

-- a stretch of line 0
abbrev pub on_line_0 : ℕ → ℕ → Segment
on_line_0 from to = record { line = 0; from = from; to = to }

-- stop 1 on such a stretch, and a restriction there to 80 km/h
abbrev pub stop_1 : Segment → Stops
stop_1 segment = record { last = 1; active = (1, segment ∷ []) ∷ [] }

abbrev pub limit_80 : Segment → Limit
limit_80 segment = record { segment = segment; dirs = dirs.Both; speed = 80; front = false }

abbrev pub restriction_1 : Segment → Limits
restriction_1 segment = record { last = 1; active = (1, limit_80 segment) ∷ [] }

-- a world of one train
abbrev pub world_of : TrainRec → Stops → Limits → World
world_of train stops limits = record { trains = (7, train) ∷ []; stops = stops; limits = limits }

-- ---- messages

-- the head of a message under a stamp, from balise group 5
abbrev pub head_at : ℕ → Bool → Head
head_at stamp ack = record { stamp = stamp; ack = ack; lrbg = 5 }

-- message 15 under identifier 0, with Q_DIR, Q_SCALE and D_EMERGENCYSTOP
abbrev pub stop_before : ℕ → ℕ → ℕ → ToTrain
stop_before dir scale distance = message.StopAt (head_at 1001 false) 0 scale (pos 0) dir distance

-- message 24 with packet 65 under identifier 0, with Q_DIR, Q_SCALE, D_TSR, L_TSR and V_TSR
abbrev pub restrict_to : ℕ → ℕ → ℕ → ℕ → ℕ → ToTrain
restrict_to dir scale start length speed = message.General (head_at 1001 true) (packet.Restrict dir scale 0 start length false speed ∷ [])

-- message 15 by 10000 units of 10 cm, with NID_EM and D_REF
abbrev pub stop_before_as : ℕ → ℤ → ToTrain
stop_before_as id reference = message.StopAt (head_at 1001 false) id 0 reference 1 10000

-- message 24 with packet 65 on a part of 1000 units that begins 1050 units ahead, to 80 km/h, with NID_TSR and Q_FRONT
abbrev pub restrict_as : ℕ → Bool → ToTrain
restrict_as id front = message.General (head_at 1001 true) (packet.Restrict 1 0 id 1050 1000 front 16 ∷ [])

-- message 16 to a train without a place, and message 18
abbrev pub stop_now : ℕ → ℕ → ToTrain
stop_now stamp id = message.Stop (record { stamp = stamp; ack = false; lrbg = 16777215 }) id

abbrev pub revoke : ℕ → ToTrain
revoke id = message.Revoke (head_at 1002 true) id

-- message 24 with packet 66, with Q_DIR
abbrev pub lift : ℕ → ℕ → ToTrain
lift dir id = message.General (head_at 1002 true) (packet.Lift dir id ∷ [])

-- message 16 to a train at balise group 5
abbrev pub stop_at_once : ToTrain
stop_at_once = message.Stop (head_at 1001 false) 0

-- a message with another number in NID_LRBG
abbrev pub naming : ℕ → ToTrain → ToTrain
naming lrbg (message.StopAt head id scale reference dir distance) = message.StopAt (record head { lrbg = lrbg }) id scale reference dir distance
naming lrbg (message.Stop head id) = message.Stop (record head { lrbg = lrbg }) id
naming lrbg (message.Revoke head id) = message.Revoke (record head { lrbg = lrbg }) id
naming lrbg (message.General head packets) = message.General (record head { lrbg = lrbg }) packets

-- a message with another stamp, and with another M_ACK
abbrev pub stamped : ℕ → ToTrain → ToTrain
stamped stamp (message.StopAt head id scale reference dir distance) = message.StopAt (record head { stamp = stamp }) id scale reference dir distance
stamped stamp (message.Stop head id) = message.Stop (record head { stamp = stamp }) id
stamped stamp (message.Revoke head id) = message.Revoke (record head { stamp = stamp }) id
stamped stamp (message.General head packets) = message.General (record head { stamp = stamp }) packets

abbrev pub asking : Bool → ToTrain → ToTrain
asking ack (message.StopAt head id scale reference dir distance) = message.StopAt (record head { ack = ack }) id scale reference dir distance
asking ack (message.Stop head id) = message.Stop (record head { ack = ack }) id
asking ack (message.Revoke head id) = message.Revoke (record head { ack = ack }) id
asking ack (message.General head packets) = message.General (record head { ack = ack }) packets

-- ---- what is said

-- what the law says of the messages of a step
abbrev pub IsSaidIn : World → Input → List (ℕ × List ToTrain) → Type 0
IsSaidIn w input sent = IsSaidAfter track_a (effect track_a input w) sent

-- train 7 at a place, to which nothing was told
abbrev pub only_train_7 : Place → World
only_train_7 place = world_of (train_7 (Some place) 1000 []) none_numbered none_numbered

-- what the law says of the messages to it in the step in which stop 1 becomes active on a stretch of line 0
abbrev pub IsSaidOfStop : Place → ℕ → ℕ → List ToTrain → Type 0
IsSaidOfStop place from to sent = IsSaidIn (only_train_7 place) (Stop 1 (on_line_0 from to ∷ [])) ((7, sent) ∷ [])

-- the same for the step in which a restriction to 80 km/h becomes active there
abbrev pub IsSaidOfLimit : Place → ℕ → ℕ → List ToTrain → Type 0
IsSaidOfLimit place from to sent = IsSaidIn (only_train_7 place) (Restrict 1 (on_line_0 from to) dirs.Both 80 false) ((7, sent) ∷ [])

-- what the law says of message 18 for identifier 16, which has no room in its variable, if that is to be revoked
abbrev pub IsSaidOfIdentifier16 : Type 0
IsSaidOfIdentifier16 = SaysFor track_a none_numbered none_numbered (train_7 (Some facing_up) 1001 []) (ChangesStop (stop_change.Revoke 16 None)) (revoke 16)

-- how stop 1 of 50005 to 60000 is told, and what the law says of a message for it by the place alone
abbrev pub edge_from_5 : ToldStop
edge_from_5 = Before (record { dir = 1; scale = 1; distance = 4000 })

-- how stop 1 of 20000 to 21000 is told, and what the law says of a message for it to a train whose last stamp is the last that there is
abbrev pub edge_at_20000 : ToldStop
edge_at_20000 = Before (record { dir = 1; scale = 0; distance = 10000 })

abbrev pub IsSaidAtTheEnd : ToTrain → Type 0
IsSaidAtTheEnd sent =
    SaysFor track_a (stop_1 (on_line_0 20000 21000)) none_numbered (train_7 (Some facing_up) last_stamp []) (ChangesStop (stop_change.Tell 0 1 edge_at_20000)) sent

abbrev pub SaysByPlaceOf : ToTrain → Type 0
SaysByPlaceOf sent = SaysByPlace track_a (stop_1 (on_line_0 50005 60000)) none_numbered (train_7 (Some facing_up) 1000 []) (ChangesStop (stop_change.Tell 0 1 edge_from_5)) sent

-- nobody is enrolled, and two stops are active
abbrev pub two_stops : World
two_stops = record { trains = []; stops = record { last = 2; active = (1, on_line_0 20000 21000 ∷ []) ∷ (2, on_line_0 40000 41000 ∷ []) ∷ [] }; limits = none_numbered }

-- what the law says of the messages to train 7 in the step in which it is enrolled in that world
abbrev pub IsSaidAtEnrolment : List ToTrain → Type 0
IsSaidAtEnrolment sent = IsSaidIn two_stops (Enrol 7 2000) ((7, sent) ∷ [])

-- a place of line 0 beyond balise group 5, counted in units of 10 cm
abbrev pub spot_at : ℕ → Spot
spot_at place = record { line = 0; origin = 10000; way = Up; place = place; unit = 1 }

-- ---- worlds in which stop 1 is active from 20000 to 21000

-- identifier 0 is used by a stop, told under stamp 1001
abbrev pub told_as_0 : ℕ → Slots
told_as_0 number = (0, told_now number 1001 Conditional) ∷ []

-- train 7 with its last stamp, which was told what its slots say
abbrev pub world_told : Option Place → ℕ → Slots → World
world_told place stamp slots = world_of (train_7 place stamp slots) (stop_1 (on_line_0 20000 21000)) none_numbered

-- the train faces up, and was told the stop under stamp 1001, its last
abbrev pub told_world : World
told_world = world_told (Some facing_up) 1001 (told_as_0 1)

-- train 7 as its second action sees it, once it has reported this often after it was told the stop under identifier 0, without an answer
abbrev pub unanswered : ℕ → TrainRec
unanswered reports =
    let told = Used (record { number = 1; stamp = 1001; kind = Conditional; acked = false; count = reports }) in
    after_sending 1 (as_told (stop_1 (on_line_0 20000 21000)) (train_7 (Some facing_up) 1001 ((0, told) ∷ [])))

-- what the law says of message 16 for the stop under identifier 1 then
abbrev pub IsSaidAgain : ℕ → Type 0
IsSaidAgain reports = SaysFor track_a (stop_1 (on_line_0 20000 21000)) none_numbered (unanswered reports) (ChangesStop (stop_change.Tell 1 1 AtOnce)) (message.Stop (head_at 1003 false) 1)

-- what the law says of message 15 in its place
abbrev pub IsSaidBeforeAgain : ℕ → Type 0
IsSaidBeforeAgain reports =
    SaysFor track_a (stop_1 (on_line_0 20000 21000)) none_numbered (unanswered reports) (ChangesStop (stop_change.Tell 1 1 AtOnce)) (message.StopAt (head_at 1003 false) 1 0 (pos 0) 1 10000)

-- the train was told the stop under two identifiers
abbrev pub told_twice : World
told_twice = world_told (Some facing_up) 1002 ((0, told_now 1 1001 Conditional) ∷ (1, told_now 1 1002 Conditional) ∷ [])

-- ---- other worlds

-- the train was told a stop that is no longer active
abbrev pub world_released : World
world_released = world_of (train_7 (Some facing_up) 1001 (told_as_0 1)) (record { last = 1; active = [] }) none_numbered

-- a restriction ahead is active, and not told
abbrev pub world_restricted : World
world_restricted = world_of (train_7 (Some facing_up) 1000 []) none_numbered (restriction_1 (on_line_0 11050 12050))

-- it was told a restriction to 80 km/h of 20000 to 21000, which is active
abbrev pub world_limited : World
world_limited =
    world_of (record (train_7 (Some facing_up) 1001 []) { limits = (0, told_now 1 1001 Restriction) ∷ [] }) none_numbered (restriction_1 (on_line_0 20000 21000))

-- the train may stand beyond the end of its line
abbrev pub world_off_line : World
world_off_line = world_of (train_7 (Some (record facing_up { hi = 300001 })) 1000 []) none_numbered none_numbered

-- stop 2 is active and told, and the last number of a stop is 1
abbrev pub world_numbered_high : World
world_numbered_high =
    world_of (train_7 (Some facing_up) 1001 (told_as_0 2)) (record { last = 1; active = (2, on_line_0 20000 21000 ∷ []) ∷ [] }) none_numbered

-- ---- records

-- a train of 200 m under an engine number, at a place or without one, to which nothing was told
abbrev pub enrolled_as : ℕ → Option Place → TrainRec
enrolled_as engine place = record (train_7 place 1000 []) { engine = engine }

-- train 7 stands on line 0, train 8 has no place, train 9 stands on line 2, and nothing is active
abbrev pub three_trains : World
three_trains = record {
  trains = (7, enrolled_as 7 (Some facing_up)) ∷ (8, enrolled_as 8 None) ∷ (9, enrolled_as 9 (Some (record facing_up { line = 2 }))) ∷ [];
  stops = none_numbered;
  limits = none_numbered;
}

-- a list of engines that has a record
abbrev pub engines_there : List ℕ → Option Rec
engines_there engines = Some (rec.Engines engines)

-- all lists of the three trains, and the record of train 7
abbrev pub all_lists_read : Notes
all_lists_read = Part (
    (key.Roster, engines_there (7 ∷ 8 ∷ 9 ∷ []))
    ∷ (key.Line 0, engines_there (7 ∷ []))
    ∷ (key.Line 1, None)
    ∷ (key.Line 2, engines_there (9 ∷ []))
    ∷ (key.Unplaced, engines_there (8 ∷ []))
    ∷ (key.Train 7, Some (rec.Train (enrolled_as 7 (Some facing_up))))
    ∷ []
    )

-- only one key was read, with what was found under it
abbrev pub read_alone : Key → Option Rec → Notes
read_alone key found = Part ((key, found) ∷ [])

-- ---- a message of two packets

-- how restriction 1 of 11050 to 12050 is told
abbrev pub told_1 : ToldPart
told_1 = record { dir = 1; scale = 0; start = 1050; length = 1000; front = false; speed = 16 }

-- the revocation of identifier 0, and that restriction under identifier 1
abbrev pub two_changes : List LimitChange
two_changes = limit_change.Revoke 0 ∷ limit_change.Tell 1 1 told_1 ∷ []

-- the packets for these changes
abbrev pub lift_0 : Packet
lift_0 = packet.Lift both_ways 0

abbrev pub restrict_1 : Packet
restrict_1 = packet.Restrict 1 0 1 1050 1000 false 16

-- the message of some packets, and what the law says of a message for both changes
abbrev pub of_packets : List Packet → ToTrain
of_packets packets = message.General (head_at 1001 true) packets

abbrev pub IsSaidOfTwo : ToTrain → Type 0
IsSaidOfTwo sent = SaysFor track_a none_numbered (restriction_1 (on_line_0 11050 12050)) (train_7 (Some facing_up) 1000 []) (ChangesLimits two_changes) sent

-- ---- what may be revoked, and what slots keep

-- the slot of a number that was told by the message with stamp 1001 in this way, and counts this many reports
abbrev pub slot_of : Kind → Bool → ℕ → Slot
slot_of kind acked reports = Used (record { number = 1; stamp = 1001; kind = kind; acked = acked; count = reports })

-- it was told the stop conditionally, and left it unanswered in three reports
abbrev pub world_due : World
world_due = world_told (Some facing_up) 1001 ((0, slot_of Conditional false 3) ∷ [])

-- this many stop identifiers from a number on, being revoked
abbrev pub revoking : ℕ → ℕ → Slots
revoking from count = map (λ id. (id, Revoking 1000)) (range_with_len from count)

-- stop 1 of 20000 to 21000 is active, or was, and the train has such stop slots: what the law says of message 18 for identifier 0
abbrev pub MayRevokeActive : Slots → Type 0
MayRevokeActive slots = RevokesRightly (stop_1 (on_line_0 20000 21000)) none_numbered (train_7 (Some facing_up) 1001 slots) (revoke 0)

abbrev pub MayRevokeReleased : Slots → Type 0
MayRevokeReleased slots = RevokesRightly (record { last = 1; active = [] }) none_numbered (train_7 (Some facing_up) 1001 slots) (revoke 0)

-- restriction 1 of a stretch of line 0 is active, and was told under identifier 0: what the law says of packet 66 for it
abbrev pub MayLiftActive : ℕ → ℕ → Type 0
MayLiftActive from to =
    RevokesRightly none_numbered (restriction_1 (on_line_0 from to)) (record (train_7 (Some facing_up) 1001 []) { limits = (0, slot_of Restriction true 0) ∷ [] }) (lift both_ways 0)

-- the train has such stop slots after the step in which stop 1 is told under identifier 0, or identifier 0 is revoked
abbrev pub KeepsTold : Slots → Type 0
KeepsTold slots = IsMarked (train_7 (Some facing_up) 1001 slots) (ChangesStop (stop_change.Tell 0 1 edge_at_20000)) (stop_before 1 0 10000)

abbrev pub KeepsRevoked : Slots → Type 0
KeepsRevoked slots = IsMarked (train_7 (Some facing_up) 1002 slots) (ChangesStop (stop_change.Revoke 0 None)) (revoke 0)

-- and such restriction slots after that in which identifier 0 is revoked and restriction 1 told under identifier 1
abbrev pub KeepsBoth : Slots → Type 0
KeepsBoth slots = IsMarked (record (train_7 (Some facing_up) 1001 []) { limits = slots }) (ChangesLimits two_changes) (of_packets (lift_0 ∷ restrict_1 ∷ []))
