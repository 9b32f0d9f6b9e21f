-- The message to a train whose variables stand at the places of its table, whether or not it has spare values (own rule, over the layouts
-- of SUBSET-026, chapters 7 and 8). Places are counted in bits from the first bit of the message.
use Rattle.std.specs.Prelude.{ℕ, zero, suc, List, [], ◌∷◌, length, drop, nat_lt, ◌==◌, if◌then◌else◌}
use Rattle.std.specs.Int.{w16, cast_signed}
use Rattle.ertms_bits.specs.Bits.{bits_of_bytes}
use Rattle.ertms_codec.specs.declared.error.DecodeError.{DecodeError}
use Rattle.ertms_codec.specs.declared.error.DecodeError.TheVariants.{Length, Message, Packet, Field}
use Rattle.ertms_codec.specs.declared.error.ReadError.{ReadError}
use Rattle.ertms_codec.specs.declared.error.ReadError.TheVariants.{Decode, OutOfMemory}
use Rattle.ertms_codec.specs.declared.to_train.Head.{Head}
use Rattle.ertms_codec.specs.declared.to_train.ToTrain.{ToTrain}
use Rattle.ertms_codec.specs.declared.to_train.ToTrain.TheVariants.{StopAt, Stop, Revoke, General}
use Rattle.ertms_codec.specs.declared.packets.Part.{Part}
use Rattle.ertms_codec.specs.declared.packets.Part.TheVariants.{Restrict, Lift}
use Rattle.ertms_codec.specs.Layout.{value_at}
use Rattle.ertms_codec.specs.ToTrain.{most_packets, Fits}
use Rattle.ertms_codec.specs.Refusals.{Unless, Never, number_in, HasItsLength}
use Rattle.ertms_codec.specs.RefusalsToTrain.{IsToTrain, IsLongEnough, behind_packet, HasItsPackets, AreReadToPackets}

abbrev pub head_at : List ℕ → Head
head_at bits = record { stamp = value_at 18 32 bits; ack = value_at 50 1 bits == 1; lrbg = value_at 51 24 bits }

abbrev pub stop_at : ℕ → List ℕ → ToTrain
stop_at number bits =
    if number == 15 then StopAt (head_at bits) (value_at 75 4 bits) (value_at 79 2 bits) (cast_signed w16 (value_at 81 16 bits)) (value_at 97 2 bits) (value_at 99 15 bits)
    else if number == 16 then Stop (head_at bits) (value_at 75 4 bits)
    else Revoke (head_at bits) (value_at 75 4 bits)

-- the packet with which bits begin
abbrev pub packet_at : List ℕ → Part
packet_at bits =
    if value_at 0 8 bits == 65 then Restrict (value_at 8 2 bits) (value_at 23 2 bits) (value_at 25 8 bits) (value_at 33 15 bits) (value_at 48 15 bits) (value_at 63 1 bits == 1) (value_at 64 7 bits)
    else Lift (value_at 8 2 bits) (value_at 23 8 bits)

-- the packets one after another, at most this many: if 8 or more bits are left, there is another
abbrev pub packets_at : ℕ → List ℕ → List Part
packets_at zero bits = []
packets_at (suc most) bits = packet_at bits ∷ (if nat_lt (length (behind_packet bits)) 8 then [] else packets_at most (behind_packet bits))

-- the message whose variables stand at the places of its table
abbrev pub message_at : List ℕ → ToTrain
message_at bits = if value_at 0 8 bits == 24 then General (head_at bits) (packets_at most_packets (drop 75 bits)) else stop_at (value_at 0 8 bits) bits

-- no variable has a spare value
abbrev pub HasNoSpare : List ℕ → Type 0
HasNoSpare bytes = Fits (message_at (bits_of_bytes bytes))

-- the first step that fails, the last one by the places
abbrev pub RefusesAtPlaces : List ℕ → DecodeError → Type 0
RefusesAtPlaces bytes =
    Unless (HasItsLength bytes) Length
    (Unless (IsToTrain (number_in bytes)) Message
    (Unless (IsLongEnough (number_in bytes) (length bytes)) Length
    (Unless (HasItsPackets bytes) Packet
    (Unless (HasNoSpare bytes) Field Never))))

-- the first step that fails by the places, or a lack of memory for the packets of a message 24
abbrev pub IsFaultAtPlaces : List ℕ → ReadError → Type 0
IsFaultAtPlaces bytes (Decode e) = RefusesAtPlaces bytes e
IsFaultAtPlaces bytes OutOfMemory = AreReadToPackets bytes
