-- The object of a message says what the bytes of the message say, and why it was sent (own rule).
use Rattle.std.specs.Prelude.{◌≡◌, ℕ, Bool, Option, Some, None, List, [], ◌∷◌, ◌++◌, length, codes}
use Rattle.hex.specs.Hex.{encode_upper}
use Rattle.ertms_codec.specs.declared.packets.Part.{Part}
use Rattle.ertms_codec.specs.declared.to_train.Head.{Head}
use Rattle.ertms_codec.specs.declared.to_train.ToTrain.{ToTrain}
use Rattle.ertms_codec.specs.declared.to_train.ToTrain.TheVariants as message
use Rattle.ertms_codec.specs.ToTrain.{spelling_of}
use Rattle.rbc_track.specs.Plan.{Plan}
use Rattle.rbc_place.specs.Placing.{Place}
use Rattle.rbc_settle.specs.declared.sent.Sent.{Sent}
use Rattle.rbc_rule.specs.Saying as rule
use Rattle.rbc_rule.specs.Saying.{Said, Says}
use Rattle.rbc_account.specs.declared.told.ToldWhat.{ToldWhat}
use Rattle.rbc_account.specs.declared.told.ToldWhat.TheVariants as what
use Rattle.rbc_account.specs.declared.told.Told.{Told}
use Rattle.rbc_account.specs.declared.told.WhyAtOnce.{WhyAtOnce}
use Rattle.rbc_explain.specs.declared.said.Spoken.{Spoken}
use Rattle.rbc_explain.specs.declared.said.Spoken.TheVariants as spoken
use Rattle.rbc_explain.specs.Said.{IsSpokenBy}
use Rattle.rbc_json.specs.declared.message.PlaceTold.{PlaceTold}
use Rattle.rbc_json.specs.Json.{Json, Text, number, object, array}
use Rattle.rbc_json.specs.Lists.{AreTogether}
use Rattle.rbc_json.specs.Packets.{ArePackets}
use Rattle.rbc_json.specs.Places.{place_or_null}
use Rattle.rbc_json.specs.Reasons.{edge_object, at_once_object, stop_revoked_object}

-- the bytes of a message in hexadecimal digits
abbrev pub hex_value : ToTrain → Json
hex_value message = Text (encode_upper (spelling_of message))

-- the place in what a message says, if it says one
abbrev pub place_in : Spoken → Option PlaceTold
place_in (spoken.StopBefore line place) = Some (record { line = line; at = place })
place_in spoken.StopAtOnce = None
place_in spoken.StopRevoked = None
place_in (spoken.IdentifierRevoked id) = None
place_in (spoken.Restriction line from to speed) = None
place_in spoken.RestrictionRevoked = None

-- ---- the fields of the objects

-- the input, the engine of the train, and which message it is (NID_MESSAGE)
abbrev pub message_fields : ℕ → ℕ → ℕ → List (List ℕ × Json)
message_fields input engine sent = (codes "input", number input) ∷ (codes "engine", number engine) ∷ (codes "message", number sent) ∷ []

-- those, the stop, and the identifier under which the train knows it
abbrev pub stop_fields : ℕ → ℕ → ℕ → ℕ → ℕ → List (List ℕ × Json)
stop_fields input engine sent stop id = message_fields input engine sent ++ ((codes "stop", number stop) ∷ (codes "identifier", number id) ∷ [])

-- the stamp, and which message from the train acknowledges this one
abbrev pub stamp_fields : ℕ → ℕ → List (List ℕ × Json)
stamp_fields stamp answer = (codes "stamp", number stamp) ∷ (codes "acknowledged_by", number answer) ∷ []

-- the place before which the train has to stop
abbrev pub before_fields : ℕ → ℕ → ℕ → List (List ℕ × Json)
before_fields line before unit = (codes "line", number line) ∷ (codes "before", number before) ∷ (codes "step", number unit) ∷ []

-- where the train is, why the message was sent, and its bytes
abbrev pub why_fields : Option Place → Json → Json → List (List ℕ × Json)
why_fields place why hex = (codes "place", place_or_null place) ∷ (codes "why", why) ∷ (codes "hex", hex) ∷ []

-- where it is, the packets of the message, and its bytes
abbrev pub packed_fields : Option Place → List Json → Json → List (List ℕ × Json)
packed_fields place packets hex = (codes "place", place_or_null place) ∷ (codes "packets", array packets) ∷ (codes "hex", hex) ∷ []

-- ---- the objects

-- the object of message 15: to stop before a place of a line, since an edge is the nearest one ahead
abbrev pub before_object : ℕ → ℕ → Option Place → Json → Head → ℕ → ℕ → ℕ → ℕ → ℕ → ℕ → Json
before_object input engine place hex head id stop line before edge unit = object (
    stop_fields input engine 15 stop id
    ++ (stamp_fields head.stamp 147 ++ (before_fields line before unit ++ why_fields place (edge_object edge) hex)))

-- the object of message 16: to stop at once
abbrev pub stop_object : ℕ → ℕ → Option Place → Json → Head → ℕ → ℕ → WhyAtOnce → Json
stop_object input engine place hex head id stop why =
    object (stop_fields input engine 16 stop id ++ (stamp_fields head.stamp 147 ++ why_fields place (at_once_object why) hex))

-- the object of message 18: a stop is revoked
abbrev pub revoke_object : ℕ → ℕ → Option Place → Json → Head → ℕ → ℕ → Bool → Json
revoke_object input engine place hex head id stop unanswered =
    object (stop_fields input engine 18 stop id ++ (stamp_fields head.stamp 146 ++ why_fields place (stop_revoked_object id unanswered) hex))

-- the object of message 24, with the objects of its packets
abbrev pub general_object : ℕ → ℕ → Option Place → Json → Head → List Json → Json
general_object input engine place hex head packets =
    object (message_fields input engine 24 ++ (stamp_fields head.stamp 146 ++ packed_fields place packets hex))

-- a train is told to stop before a place
abbrev pub IsBefore : Said → Type 0
IsBefore (rule.StopsBefore id spot) = Unit
IsBefore _ = ⊥

-- ---- which object a message has, by what is told of it; each message of a run is told as what it is (`IsToldOf`)

-- Message 15: it has the place that the bytes of the message say. Each message 15 of a run says one.
abbrev pub IsOfStopAt : Plan → ℕ → ℕ → Option Place → Json → ToTrain → Head → ℕ → ToldWhat → Json → Type 0
IsOfStopAt plan input engine place hex sent head id (what.StopBefore stop before edge unit) value =
    (said : Said) → IsBefore said → Says plan sent (said ∷ [])
    → (line at : ℕ) × IsSpokenBy plan sent (spoken.StopBefore line at) × (value ≡ before_object input engine place hex head id stop line at edge unit)
IsOfStopAt plan input engine place hex sent head id _ value = Unit

-- message 16
abbrev pub IsOfStop : ℕ → ℕ → Option Place → Json → Head → ℕ → ToldWhat → Json → Type 0
IsOfStop input engine place hex head id (what.StopAtOnce stop why) value = value ≡ stop_object input engine place hex head id stop why
IsOfStop input engine place hex head id _ value = Unit

-- message 18
abbrev pub IsOfRevoke : ℕ → ℕ → Option Place → Json → Head → ℕ → ToldWhat → Json → Type 0
IsOfRevoke input engine place hex head id (what.StopRevoked stop unanswered) value = value ≡ revoke_object input engine place hex head id stop unanswered
IsOfRevoke input engine place hex head id _ value = Unit

-- Message 24: it has an object for each packet, which has what the packet says.
abbrev pub IsOfGeneral : Plan → ℕ → ℕ → Option Place → Json → Head → List Part → ToldWhat → Json → Type 0
IsOfGeneral plan input engine place hex head packets (what.Restrictions all) value =
    length all.items ≡ length packets
    → (values : List Json) × ArePackets plan head.lrbg packets all.items values × (value ≡ general_object input engine place hex head values)
IsOfGeneral plan input engine place hex head packets _ value = Unit

-- A value is that of a message to an engine, whose train has this place, and which an input sent: it has the bytes of the
-- message, what they say, and what the account tells of the message.
abbrev pub IsOfMessage : Plan → ℕ → ℕ → Option Place → ToTrain → ToldWhat → Json → Type 0
IsOfMessage plan input engine place (message.StopAt head id scale reference dir distance) told value =
    IsOfStopAt plan input engine place (hex_value (message.StopAt head id scale reference dir distance)) (message.StopAt head id scale reference dir distance) head id told value
IsOfMessage plan input engine place (message.Stop head id) told value = IsOfStop input engine place (hex_value (message.Stop head id)) head id told value
IsOfMessage plan input engine place (message.Revoke head id) told value = IsOfRevoke input engine place (hex_value (message.Revoke head id)) head id told value
IsOfMessage plan input engine place (message.General head packets) told value =
    IsOfGeneral plan input engine place (hex_value (message.General head packets)) head packets told value

-- a value is that of a message with what is told of it
abbrev pub IsOfSent : Plan → ℕ → Sent → Told → Json → Type 0
IsOfSent plan input sent one value = IsOfMessage plan input sent.engine one.place sent.message one.what value

-- values are those of messages, in their order
abbrev pub AreOfMessages : Plan → ℕ → List Sent → List Told → List Json → Type 0
AreOfMessages plan input messages told values = AreTogether (IsOfSent plan input) messages told values
