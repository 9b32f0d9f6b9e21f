-- What settling does to one train: what is revoked and told, under which identifiers and stamps, and in which order (own
-- rule).
use Rattle.std.specs.Prelude.{ℕ, ◌+◌, ◌-◌, ◌/◌, Bool, true, false, not, ◌&&◌, ◌||◌, List, ◌++◌, map, take, length, Option, Some, None, option_map, pos, if◌then◌else◌}
use Rattle.std.specs.List.{filter, filter_map, fold, scan, zip}
use Rattle.std.specs.Option.{option_map_or}
use Rattle.ertms_codec.specs.declared.packets.Part.{Part as Packet}
use Rattle.ertms_codec.specs.declared.packets.Part.TheVariants as packet
use Rattle.ertms_codec.specs.declared.to_train.Head.{Head}
use Rattle.ertms_codec.specs.declared.to_train.ToTrain.{ToTrain}
use Rattle.ertms_codec.specs.declared.to_train.ToTrain.TheVariants as message
use Rattle.rbc_zones.specs.Plan.{Plan}
use Rattle.rbc_zones.specs.Way.{Way}
use Rattle.rbc_zones.specs.Placing.{Place, is_up}
use Rattle.rbc_ids.specs.Maps.{has, value_of, with_value, keys}
use Rattle.rbc_ids.specs.Numbered.{Numbered}
use Rattle.rbc_ids.specs.declared.slot.Slot.{Slot}
use Rattle.rbc_ids.specs.declared.slot.Slot.TheVariants.{Used, Revoking}
use Rattle.rbc_ids.specs.declared.slot.Kind.{Kind}
use Rattle.rbc_ids.specs.declared.slot.Kind.TheVariants.{Conditional, Unconditional, Restriction}
use Rattle.rbc_ids.specs.Table.{Slots, is_told, is_ripe, free_identifiers, told_now}
use Rattle.rbc_zones.specs.declared.segment.Segment.{Segment}
use Rattle.rbc_zones.specs.declared.stop_meaning.Concern.{Concern}
use Rattle.rbc_zones.specs.declared.stop_meaning.Concern.TheVariants as concern
use Rattle.rbc_zones.specs.Concerns.{concern_of, told_distance, distance_to}
use Rattle.rbc_zones.specs.Limits.{Limit, is_clear, concerns, told_part}
use Rattle.rbc_settle.specs.declared.train.TrainRec.{TrainRec}
use Rattle.rbc_settle.specs.declared.change.StopChange.{StopChange}
use Rattle.rbc_settle.specs.declared.change.StopChange.TheVariants as stop_change
use Rattle.rbc_settle.specs.declared.change.LimitChange.{LimitChange}
use Rattle.rbc_settle.specs.declared.change.LimitChange.TheVariants as limit_change
use Rattle.rbc_settle.specs.declared.change.ToldStop.{ToldStop}
use Rattle.rbc_settle.specs.declared.change.ToldStop.TheVariants.{AtOnce, Before}
use Rattle.rbc_settle.specs.Actions.{Action, ChangesStop, ChangesLimits, groups}
use Rattle.rbc_settle.specs.declared.sent.Sent.{Sent}
use Rattle.rbc_settle.specs.Told.{Edge, Part}
use Rattle.rbc_settle.specs.Trains.{stop_identifiers, limit_identifiers}
use Rattle.rbc_settle.specs.Numbers.{has_number, and_number}

-- the active stops, each with its number and its area, and the last number that was given to a stop
abbrev pub Stops : Type 0
Stops = Numbered (List Segment)

-- the active restrictions in the same way
abbrev pub Limits : Type 0
Limits = Numbered Limit

-- R-SETTLE-9: the last stamp that a message may have: the number after it means that the time is unknown
abbrev pub last_stamp : ℕ
last_stamp = 4294967294

-- R-SETTLE-7. The most messages that settling sends to a train: 15 stop identifiers are revoked and 15 are told, and
-- the 255 restriction identifiers are revoked and told in six groups.
abbrev pub most_messages : ℕ
most_messages = 36

-- R-SETTLE-10: NID_LRBG of a train without a place
abbrev pub unknown_group : ℕ
unknown_group = 16777215

-- R-STOP-8, R-RESTRICTION-5: Q_DIR: 1 if the train faces in the nominal direction of its balise group, else 0
abbrev pub direction_of : Place → ℕ
direction_of p = if is_up_way p.facing p.same then 1 else 0
  where
    is_up_way : Way → Bool → Bool
    is_up_way way same = if is_up way then same else not same

-- an edge with its Q_DIR, and with its scale and distance in one
abbrev pub told_edge : ℕ → ℕ × ℕ → Edge
told_edge dir (scale, distance) = record { dir = dir; scale = scale; distance = distance }

-- R-STOP-5, R-STOP-6: how a stop is told to a train at a place: not at all, at once, or with the distance from the
-- balise group to an edge
abbrev pub told_at : Place → Concern → Option ToldStop
told_at p concern.None = None
told_at p concern.Now = Some AtOnce
told_at p (concern.Before edge) =
    let distance = distance_to p.facing p.at edge in
    Some (Before (told_edge (direction_of p) (told_distance distance)))

-- R-STOP-5, R-STOP-6. How a stop is told to any train: a train without a place is told each stop that concerns it at
-- once.
abbrev pub told_stop : Option Place → Concern → Option ToldStop
told_stop (Some p) c = told_at p c
told_stop None concern.None = None
told_stop None concern.Now = Some AtOnce
told_stop None (concern.Before edge) = Some AtOnce

-- R-RESTRICTION-5: how a restriction is told to a train at a place
abbrev pub told_limit : Limit → Place → Part
told_limit limit p = record {
  dir = direction_of p;
  scale = (told_part limit p).0;
  start = (told_part limit p).1;
  length = (told_part limit p).2;
  front = limit.front;
  speed = limit.speed / 5;
}

-- R-STOP-1: what an active stop means for a train
abbrev pub concern_to : TrainRec → ℕ × List Segment → Concern
concern_to train stop = concern_of stop.1 (has_number train.forced stop.0) train.place

-- R-SETTLE-2, R-SETTLE-12, R-STOP-5: a stop that has to be told, since it is not told and concerns the train, with how
-- it is told
abbrev pub stop_to_tell : TrainRec → ℕ × List Segment → Option (ℕ × ToldStop)
stop_to_tell train stop =
    if is_told train.stops stop.0 then None else option_map (λ told. (stop.0, told)) (told_stop train.place (concern_to train stop))

-- R-RESTRICTION-4: how a restriction is told to a train that it concerns
abbrev pub limit_told_to : ℕ → Option Place → Limit → Option Part
limit_told_to horizon None limit = None
limit_told_to horizon (Some p) limit = if concerns limit p horizon then Some (told_limit limit p) else None

-- R-SETTLE-4: a restriction that has to be told, since it is not told and concerns the train, with how it is told
abbrev pub limit_to_tell : ℕ → TrainRec → ℕ × Limit → Option (ℕ × Part)
limit_to_tell horizon train limit =
    if is_told train.limits limit.0 then None else option_map (λ told. (limit.0, told)) (limit_told_to horizon train.place limit.1)

-- a slot is used by a number that has to be revoked
abbrev pub is_used_by : (ℕ → Bool) → Slot → Bool
is_used_by is_gone (Used used) = is_gone used.number
is_used_by is_gone (Revoking stamp) = false

-- the identifiers that are used by such numbers, in ascending order
abbrev pub to_revoke : (ℕ → Bool) → Slots → List ℕ
to_revoke is_gone slots = keys (filter (λ held. is_used_by is_gone held.1) slots)

-- R-SETTLE-1, R-SETTLE-11. A stop has to be revoked if it is not active.
abbrev pub is_stop_gone : Stops → ℕ → Bool
is_stop_gone stops number = not (has stops.active number)

-- R-RESTRICTION-4. A restriction is clear of a train. No restriction is clear of a train without a place.
abbrev pub is_clear_of : Option Place → Limit → Bool
is_clear_of None limit = false
is_clear_of (Some p) limit = is_clear limit p

-- R-SETTLE-3, R-SETTLE-11. A restriction has to be revoked if it is not active, or is clear of the train.
abbrev pub is_limit_gone : Limits → Option Place → ℕ → Bool
is_limit_gone limits place number = option_map_or (is_clear_of place) (value_of limits.active number) true

-- ---- what is escalated

-- R-ESCALATE-2. The number of a slot that is due: it tells an active stop conditionally, and was left unanswered in
-- three reports.
abbrev pub due_number : Stops → Slot → Option ℕ
due_number stops (Used used) = if is_ripe (Used used) && has stops.active used.number then Some used.number else None
due_number stops (Revoking stamp) = None

-- R-ESCALATE-3: how many free identifiers are left once each stop that has to be told has one
abbrev pub spare_identifiers : Stops → TrainRec → ℕ
spare_identifiers stops train = length (free_identifiers stop_identifiers train.stops) - length (filter_map (stop_to_tell train) stops.active)

-- R-ESCALATE-4. The numbers that are escalated: those of the first slots that are due, in order of their identifiers,
-- as many as there are identifiers to spare.
abbrev pub escalated : Stops → TrainRec → List ℕ
escalated stops train = take (spare_identifiers stops train) (filter_map (λ held. due_number stops held.1) train.stops)

-- R-SETTLE-1, R-ESCALATE-5. A stop has to be revoked if it is not active, or is escalated.
abbrev pub is_stop_revoked : Stops → List ℕ → ℕ → Bool
is_stop_revoked stops forced_now number = is_stop_gone stops number || has_number forced_now number

-- R-ESCALATE-5: the number that becomes forced as its slot is revoked: one that is escalated
abbrev pub number_forced : List ℕ → Slot → Option ℕ
number_forced forced_now (Used used) = if has_number forced_now used.number then Some used.number else None
number_forced forced_now (Revoking stamp) = None

-- R-SETTLE-2, R-SETTLE-12, R-ESCALATE-5: an escalated stop is told again, at once, and any other one if it has to be
-- told
abbrev pub next_to_tell : List ℕ → TrainRec → ℕ × List Segment → Option (ℕ × ToldStop)
next_to_tell forced_now train stop = if has_number forced_now stop.0 then Some (stop.0, AtOnce) else stop_to_tell train stop

-- ---- the changes

-- a stop is revoked
abbrev pub revoke_stop : List ℕ → ℕ × Slot → StopChange
revoke_stop forced_now (id, slot) = stop_change.Revoke id (number_forced forced_now slot)

-- a stop is told under an identifier
abbrev pub tell_stop : (ℕ × ToldStop) × ℕ → StopChange
tell_stop ((number, told), id) = stop_change.Tell id number told

-- a restriction is told under an identifier
abbrev pub tell_limit : (ℕ × Part) × ℕ → LimitChange
tell_limit ((number, told), id) = limit_change.Tell id number told

-- R-SETTLE-1: a revocation of each stop that has to be revoked, in ascending order of the identifiers
abbrev pub stops_revoked : List ℕ → Stops → TrainRec → List StopChange
stops_revoked forced_now stops train = map (revoke_stop forced_now) (filter (λ held. is_used_by (is_stop_revoked stops forced_now) held.1) train.stops)

-- R-SETTLE-2: the stops that have to be told, in pairs with the free identifiers, as long as there are both
abbrev pub stops_told : List ℕ → Stops → TrainRec → List StopChange
stops_told forced_now stops train = map tell_stop (zip (filter_map (next_to_tell forced_now train) stops.active) (free_identifiers stop_identifiers train.stops))

-- R-SETTLE-3: a revocation of each restriction that has to be revoked
abbrev pub limits_revoked : Limits → TrainRec → List LimitChange
limits_revoked limits train = map limit_change.Revoke (to_revoke (is_limit_gone limits train.place) train.limits)

-- R-SETTLE-4: the restrictions that have to be told, in pairs with the free identifiers
abbrev pub limits_told : ℕ → Limits → TrainRec → List LimitChange
limits_told horizon limits train = map tell_limit (zip (filter_map (limit_to_tell horizon train) limits.active) (free_identifiers limit_identifiers train.limits))

-- R-SETTLE-1, R-SETTLE-2: revocations stand before what is told
abbrev pub stop_changes : Stops → TrainRec → List StopChange
stop_changes stops train = stops_revoked (escalated stops train) stops train ++ stops_told (escalated stops train) stops train

-- R-SETTLE-3, R-SETTLE-4.
abbrev pub limit_changes : ℕ → Limits → TrainRec → List LimitChange
limit_changes horizon limits train = limits_revoked limits train ++ limits_told horizon limits train

-- ---- the actions

-- R-SETTLE-6: a message for each stop, and then one for each group of restrictions
abbrev pub in_messages : List StopChange → List LimitChange → List Action
in_messages stops limits = map ChangesStop stops ++ map ChangesLimits (groups limits)

-- R-SETTLE-5. All actions: each is judged by the train as it was before the first one.
abbrev pub actions : Plan → Stops → Limits → TrainRec → List Action
actions plan stops limits train = in_messages (stop_changes stops train) (limit_changes plan.horizon limits train)

-- R-SETTLE-9: the actions for which stamps are left
abbrev pub actions_with_stamp : Plan → Stops → Limits → TrainRec → List Action
actions_with_stamp plan stops limits train = take (last_stamp - train.stamp) (actions plan stops limits train)

-- R-STOP-6: the kind of message by which a stop is told
abbrev pub kind_of : ToldStop → Kind
kind_of AtOnce = Unconditional
kind_of (Before edge) = Conditional

-- the numbers that a train is told at once, with one more or none
abbrev pub and_forced : Option ℕ → List ℕ → List ℕ
and_forced None forced = forced
and_forced (Some number) forced = and_number number forced

-- R-SETTLE-8. The restrictions after a change that the message with a stamp makes. A revoked identifier is held until
-- the train has acknowledged the message, and an identifier under which a number is told is used from then on.
abbrev pub limit_changed : ℕ → Slots → LimitChange → Slots
limit_changed stamp slots (limit_change.Revoke id) = with_value id (Revoking stamp) slots
limit_changed stamp slots (limit_change.Tell id number told) = with_value id (told_now number stamp Restriction) slots

-- R-SETTLE-8, R-ESCALATE-5. An action takes the next stamp. Stops are changed as restrictions are, and an escalated
-- number becomes forced when it is revoked.
abbrev pub carried_out : TrainRec → Action → TrainRec
carried_out train (ChangesStop (stop_change.Revoke id number)) =
    record train { stamp = train.stamp + 1; stops = with_value id (Revoking (train.stamp + 1)) train.stops; forced = and_forced number train.forced }
carried_out train (ChangesStop (stop_change.Tell id number told)) =
    record train { stamp = train.stamp + 1; stops = with_value id (told_now number (train.stamp + 1) (kind_of told)) train.stops }
carried_out train (ChangesLimits changes) = record train { stamp = train.stamp + 1; limits = fold (limit_changed (train.stamp + 1)) train.limits changes }

-- R-SETTLE-10: NID_LRBG: the balise group that the train's report counts from
abbrev pub group_of : TrainRec → ℕ
group_of train = option_map_or (λ p. p.lrbg) train.place unknown_group

-- R-SETTLE-10: what each message begins with: the next stamp, M_ACK, and the balise group
abbrev pub head_of : TrainRec → Bool → Head
head_of train ack = record { stamp = train.stamp + 1; ack = ack; lrbg = group_of train }

-- R-SETTLE-3, R-SETTLE-4, R-RESTRICTION-5: the packet of a change: 66 (Q_DIR 2: both ways), or 65
abbrev pub packet_of : LimitChange → Packet
packet_of (limit_change.Revoke id) = packet.Lift 2 id
packet_of (limit_change.Tell id number told) = packet.Restrict told.dir told.scale id told.start told.length told.front told.speed

-- R-SETTLE-1, R-SETTLE-6, R-SETTLE-10, R-STOP-6: the message of an action: 18, 15 or 16, and 24 with a packet for each
-- change
abbrev pub message_of : TrainRec → Action → ToTrain
message_of train (ChangesStop (stop_change.Revoke id number)) = message.Revoke (head_of train true) id
message_of train (ChangesStop (stop_change.Tell id number AtOnce)) = message.Stop (head_of train false) id
message_of train (ChangesStop (stop_change.Tell id number (Before edge))) = message.StopAt (head_of train false) id edge.scale (pos 0) edge.dir edge.distance
message_of train (ChangesLimits changes) = message.General (head_of train true) (map packet_of changes)

-- R-SETTLE-5: the train after its actions, which are carried out one after another
abbrev pub settled : Plan → Stops → Limits → TrainRec → TrainRec
settled plan stops limits train = fold carried_out train (actions_with_stamp plan stops limits train)

-- the messages of these actions, in their order
abbrev pub messages_of : Plan → Stops → Limits → TrainRec → List ToTrain
messages_of plan stops limits train = scan carried_out message_of train (actions_with_stamp plan stops limits train)

-- messages to one engine
abbrev pub to_engine : ℕ → List ToTrain → List Sent
to_engine engine messages = map (λ message. record { engine = engine; message = message }) messages
