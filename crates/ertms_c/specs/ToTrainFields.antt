-- A message to a train as fields (own layout; SUBSET-026, 7.4.2, 7.5 and 8.7 for the variables).
use Rattle.std.specs.Prelude.{◌≡◌, ℕ, ◌-◌, ◌≤◌, Bool, List, ◌++◌, length, map, replicate, Option, Some, None, take, drop, if◌then◌else◌, ◌==◌, pos}
use Rattle.std.specs.List.{All}
use Rattle.ertms_codec.specs.declared.to_train.Head.{Head}
use Rattle.ertms_codec.specs.declared.to_train.ToTrain.{ToTrain}
use Rattle.ertms_codec.specs.declared.to_train.ToTrain.TheVariants.{StopAt, Stop, Revoke, General}
use Rattle.ertms_codec.specs.declared.packets.Part.{Part}
use Rattle.ertms_codec.specs.declared.packets.Part.TheVariants.{Restrict, Lift}
use Rattle.ertms_codec.specs.declared.error.DecodeError.{DecodeError}
use Rattle.ertms_codec.specs.PacketsToTrain.{PacketFits, most_packets}
use Rattle.ertms_codec.specs.ToTrain.{Spells, Fits, spelling_of}
use Rattle.ertms_codec.specs.RefusalsToTrain.{Refuses, AreReadToPackets}
use Rattle.ertms_c.specs.declared.to_train.PacketFields.{PacketFields}
use Rattle.ertms_c.specs.declared.to_train.ToTrainFields.{ToTrainFields}
use Rattle.ertms_c.specs.Faults.{code_of, memory}

abbrev pub bit : Bool → ℕ
bit b = if b then 1 else 0

-- the fields of a packet: its variables, and 0 for each that its kind does not have
abbrev pub packet_fields : Part → PacketFields
packet_fields (Restrict dir scale id start length front speed) = record { kind = 65; id = id; scale = scale; dir = dir; front = bit front; speed = speed; start = start; length = length }
packet_fields (Lift dir id) = record { kind = 66; id = id; scale = 0; dir = dir; front = 0; speed = 0; start = 0; length = 0 }

-- the fields of no packet
abbrev pub no_packet : PacketFields
no_packet = record { kind = 0; id = 0; scale = 0; dir = 0; front = 0; speed = 0; start = 0; length = 0 }

-- the fields of packets, and then those of no packet, a hundred in all
abbrev pub packets_fields : List Part → List PacketFields
packets_fields packets = map packet_fields packets ++ replicate (most_packets - length packets) no_packet

-- the fields of a kind of message and its head, with no other
abbrev pub begun : ℕ → Head → ToTrainFields
begun kind head = record { kind = kind; ack = bit head.ack; id = 0; scale = 0; dir = 0; reference = pos 0; distance = 0; stamp = head.stamp; lrbg = head.lrbg; count = 0; packets = replicate most_packets no_packet }

-- the fields of a message: its variables, and 0 for each that its kind does not have
abbrev pub fields_of : ToTrain → ToTrainFields
fields_of (StopAt head id scale reference dir distance) = record (begun 15 head) { id = id; scale = scale; reference = reference; dir = dir; distance = distance }
fields_of (Stop head id) = record (begun 16 head) { id = id }
fields_of (Revoke head id) = record (begun 18 head) { id = id }
fields_of (General head packets) = record (begun 24 head) { count = length packets; packets = packets_fields packets }

-- the message, other than 24, that fields name by their kind
abbrev pub head_in : ToTrainFields → Head
head_in fields = record { stamp = fields.stamp; ack = fields.ack == 1; lrbg = fields.lrbg }

abbrev pub named_by : ToTrainFields → Option ToTrain
named_by fields =
    if fields.kind == 15 then Some (StopAt (head_in fields) fields.id fields.scale fields.reference fields.dir fields.distance)
    else (if fields.kind == 16 then Some (Stop (head_in fields) fields.id)
    else (if fields.kind == 18 then Some (Revoke (head_in fields) fields.id)
    else None))

-- the packet that fields name by their kind
abbrev pub packet_named_by : PacketFields → Option Part
packet_named_by fields =
    if fields.kind == 65 then Some (Restrict fields.dir fields.scale fields.id fields.start fields.length (fields.front == 1) fields.speed)
    else (if fields.kind == 66 then Some (Lift fields.dir fields.id)
    else None)

-- packets fit, and these are their fields
pub record AreFieldsOf (packets : List Part) (fields : List PacketFields) : Type 0 where
  pub fit : All PacketFits packets
  pub are : fields ≡ map packet_fields packets

-- all fields but those of its packets are those of a message 24 that fits
pub record IsFrame (fields : ToTrainFields) : Type 0 where
  pub lrbg : fields.lrbg ≤ 16777215
  pub some : 1 ≤ fields.count
  pub most : fields.count ≤ most_packets
  pub others : fields ≡ record (begun 24 (head_in fields)) { count = fields.count; packets = fields.packets }
  pub behind : All (λ packet. packet ≡ no_packet) (drop fields.count fields.packets)

-- the bytes spell a message, and these are its fields
abbrev pub AreRead : List ℕ → ToTrainFields → Type 0
AreRead bytes fields = (m : ToTrain) × Spells bytes m × (fields ≡ fields_of m)

-- the bytes spell no message, and this is the number of the first step that fails
abbrev pub IsRefused : List ℕ → ℕ → Type 0
IsRefused bytes code = (e : DecodeError) × Refuses bytes e × (code ≡ code_of e)

-- memory ran out for the packets of a message 24
pub record IsWantOfMemory (bytes : List ℕ) (code : ℕ) : Type 0 where
  pub read : AreReadToPackets bytes
  pub is : code ≡ memory

-- these are the fields of a message that fits, and the first bytes, this many, are its spelling
abbrev pub AreWritten : ToTrainFields → ℕ → List ℕ → Type 0
AreWritten fields used bytes = (m : ToTrain) × Fits m × (fields ≡ fields_of m) × (take used bytes ≡ spelling_of m)

-- no message that fits has these fields
abbrev pub AreOfNone : ToTrainFields → Type 0
AreOfNone fields = (m : ToTrain) → Fits m → fields ≡ fields_of m → ⊥
