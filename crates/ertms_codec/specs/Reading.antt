-- What the readers have found so far.
use Rattle.std.specs.Prelude.{◌≡◌, ℕ, ◌+◌, ◌<◌, ◌≤◌, ◌^◌, List, length, drop, if◌then◌else◌}
use Rattle.ertms_bits.specs.Bits.{number_of, bits_of_bytes, AreBits}
use Rattle.ertms_codec.specs.declared.to_train.ToTrain.{ToTrain}
use Rattle.ertms_codec.specs.declared.error.DecodeError.{DecodeError}
use Rattle.ertms_codec.specs.declared.error.DecodeError.TheVariants.{Packet, Field}
use Rattle.ertms_codec.specs.declared.error.ReadError.{ReadError}
use Rattle.ertms_codec.specs.declared.error.ReadError.TheVariants.{Decode, OutOfMemory}
use Rattle.ertms_codec.specs.declared.from_train.FromTrain.{FromTrain}
use Rattle.ertms_codec.specs.declared.from_train.FromTrain.TheVariants.{Report, StopAck}
use Rattle.ertms_codec.specs.Layout.{value_at}
use Rattle.ertms_codec.specs.PacketsToTrain.{most_packets}
use Rattle.ertms_codec.specs.Refusals.{Unless, Never, number_in, HasItsLength}
use Rattle.ertms_codec.specs.FromTrain.{PositionFits, has_length, has_system}
use Rattle.ertms_codec.specs.RefusalsToTrain as to_train
use Rattle.ertms_codec.specs.RefusalsFromTrain as from_train
use Rattle.ertms_codec.specs.ToTrainAtPlaces as to_train_at
use Rattle.ertms_codec.specs.FromTrainAtPlaces as from_train_at

-- a variable of this many bits was taken from the front
pub record Takes (width : ℕ) (before : List ℕ) (taken : ℕ) (after : List ℕ) : Type 0 where
  pub value : taken ≡ number_of width before
  pub small : taken < 2 ^ width
  pub rest : after ≡ drop width before
  pub left : length after + width ≡ length before
  pub bits : AreBits before

-- bits begin with a packet, as long as its L_PACKET says
pub record BeginsWithPacket (bits : List ℕ) : Type 0 where
  pub header : 21 ≤ length bits
  pub least : 21 ≤ value_at 8 13 bits
  pub within : value_at 8 13 bits ≤ length bits

-- no step fails, and the message is that at the places of its table
pub record IsReadToTrain (bytes : List ℕ) (m : ToTrain) : Type 0 where
  pub sized : HasItsLength bytes
  pub known : to_train.IsToTrain (number_in bytes)
  pub enough : to_train.IsLongEnough (number_in bytes) (length bytes)
  pub packets : to_train.HasItsPackets bytes
  pub spare : to_train_at.HasNoSpare bytes
  pub is : m ≡ to_train_at.message_at (bits_of_bytes bytes)

-- the packets of message 24 are not read: the bits are not packets, or memory ran out
abbrev pub IsPacketsFault : List ℕ → ReadError → Type 0
IsPacketsFault bits (Decode e) = (¬ to_train.ArePackets most_packets bits) × (e ≡ Packet)
IsPacketsFault bits OutOfMemory = Unit {0}

-- the bits that L_TRAININT and NID_NTC take, by Q_LENGTH and the bits after it
abbrev pub train_more : ℕ → List ℕ → ℕ
train_more integrity behind =
    let long = if has_length integrity then 15 else 0 in
    long + (if has_system (value_at (13 + long) 3 behind) then 8 else 0)

-- the bits are packets to their end, and the position that they begin with has no spare value
pub record ReadsPosition (bits : List ℕ) : Type 0 where
  pub packets : from_train.HavePackets bits
  pub fits : PositionFits (from_train_at.position_at bits)

-- why the bits are refused as packets that begin with a position
abbrev pub RefusesPosition : List ℕ → DecodeError → Type 0
RefusesPosition bits = Unless (from_train.HavePackets bits) Packet (Unless (PositionFits (from_train_at.position_at bits)) Field Never)

-- message 136 by the bits after its header
pub record IsReport (bits : List ℕ) (stamp engine : ℕ) (m : FromTrain) : Type 0 where
  pub read : ReadsPosition bits
  pub is : m ≡ Report stamp engine (from_train_at.position_at bits)

-- message 147 by the bits after its header
pub record IsStopAcknowledgement (bits : List ℕ) (stamp engine : ℕ) (m : FromTrain) : Type 0 where
  pub read : ReadsPosition (drop 6 bits)
  pub is : m ≡ StopAck stamp engine (value_at 0 4 bits) (value_at 4 2 bits) (from_train_at.position_at (drop 6 bits))

-- the last two steps hold of a message of this number, and it is that at the places of its table
pub record IsReadBehind (number : ℕ) (bits : List ℕ) (m : FromTrain) : Type 0 where
  pub packets : from_train.HasItsPackets number bits
  pub spare : from_train_at.HasNoSpare number bits
  pub is : m ≡ from_train_at.message_at bits

-- no step fails, and the message is that at the places of its table
pub record IsReadFromTrain (bytes : List ℕ) (m : FromTrain) : Type 0 where
  pub sized : HasItsLength bytes
  pub known : from_train.IsFromTrain (number_in bytes)
  pub enough : from_train.IsLongEnough (number_in bytes) (length bytes)
  pub behind : IsReadBehind (number_in bytes) (bits_of_bytes bytes) m
