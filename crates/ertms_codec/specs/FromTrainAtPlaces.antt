-- The message from a train whose variables stand at the places of its table, whether or not it has spare values (own rule, over the layouts
-- of SUBSET-026, chapters 7 and 8). Places are counted in bits from the first bit of the message, or of the packet.
use Rattle.std.specs.Prelude.{◌≡◌, ℕ, ◌+◌, List, length, drop, Option, Some, None, ◌==◌, if◌then◌else◌}
use Rattle.ertms_bits.specs.Bits.{bits_of_bytes}
use Rattle.ertms_codec.specs.declared.error.DecodeError.{DecodeError}
use Rattle.ertms_codec.specs.declared.error.DecodeError.TheVariants.{Length, Message, Packet, Field}
use Rattle.ertms_codec.specs.declared.from_train.Position.{Position}
use Rattle.ertms_codec.specs.declared.from_train.FromTrain.{FromTrain}
use Rattle.ertms_codec.specs.declared.from_train.FromTrain.TheVariants.{Report, Ack, StopAck}
use Rattle.ertms_codec.specs.Layout.{value_at}
use Rattle.ertms_codec.specs.FromTrain.{PositionFits}
use Rattle.ertms_codec.specs.Refusals.{Unless, Never, number_in, HasItsLength}
use Rattle.ertms_codec.specs.RefusalsFromTrain.{IsFromTrain, IsLongEnough, shift_in, HasItsPackets}

abbrev pub previous_at : List ℕ → Option ℕ
previous_at packet = if value_at 0 8 packet == 1 then Some (value_at 47 24 packet) else None

-- the position whose variables stand at the places of its packet
abbrev pub position_at : List ℕ → Position
position_at packet =
    record {
      previous = previous_at packet;
      scale = value_at 21 2 packet;
      lrbg = value_at 23 24 packet;
      distance = value_at (47 + shift_in packet) 15 packet;
      dir = value_at (62 + shift_in packet) 2 packet;
      side = value_at (64 + shift_in packet) 2 packet;
      over = value_at (66 + shift_in packet) 15 packet;
      under = value_at (81 + shift_in packet) 15 packet;
    }

-- the message whose variables stand at the places of its table
abbrev pub message_at : List ℕ → FromTrain
message_at bits =
    if value_at 0 8 bits == 136 then Report (value_at 18 32 bits) (value_at 50 24 bits) (position_at (drop 74 bits))
    else if value_at 0 8 bits == 146 then Ack (value_at 18 32 bits) (value_at 50 24 bits) (value_at 74 32 bits)
    else StopAck (value_at 18 32 bits) (value_at 50 24 bits) (value_at 74 4 bits) (value_at 78 2 bits) (position_at (drop 80 bits))

-- no variable of a message of this number has a spare value
pub record HasNoSpare (number : ℕ) (bits : List ℕ) : Type 0 where
  pub report : number ≡ 136 → PositionFits (position_at (drop 74 bits))
  pub of_a_stop : number ≡ 147 → PositionFits (position_at (drop 80 bits))

-- the first step that fails, the last one by the places
abbrev pub RefusesAtPlaces : List ℕ → DecodeError → Type 0
RefusesAtPlaces bytes =
    Unless (HasItsLength bytes) Length
    (Unless (IsFromTrain (number_in bytes)) Message
    (Unless (IsLongEnough (number_in bytes) (length bytes)) Length
    (Unless (HasItsPackets (number_in bytes) (bits_of_bytes bytes)) Packet
    (Unless (HasNoSpare (number_in bytes) (bits_of_bytes bytes)) Field Never))))
