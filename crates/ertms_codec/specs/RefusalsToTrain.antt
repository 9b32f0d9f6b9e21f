-- The steps that bytes pass to be a message to a train (own rule, over the layouts of SUBSET-026, chapters 7
-- and 8). Places are counted in bits from the first bit of the message.
use Rattle.std.specs.Prelude.{◌≡◌, ◌⊎◌, ℕ, zero, suc, ◌*◌, ◌<◌, ◌≤◌, List, length, drop, Result, Err}
use Rattle.ertms_bits.specs.Bits.{bits_of_bytes}
use Rattle.ertms_codec.specs.declared.error.DecodeError.{DecodeError}
use Rattle.ertms_codec.specs.declared.error.DecodeError.TheVariants.{Length, Message, Packet, Field}
use Rattle.ertms_codec.specs.declared.error.ReadError.{ReadError}
use Rattle.ertms_codec.specs.declared.error.ReadError.TheVariants.{Decode, OutOfMemory}
use Rattle.ertms_codec.specs.declared.to_train.ToTrain.{ToTrain}
use Rattle.ertms_codec.specs.Layout.{value_at}
use Rattle.ertms_codec.specs.ToTrain.{most_packets, Spells}
use Rattle.ertms_codec.specs.Refusals.{Unless, Never, number_in, HasItsLength}

abbrev pub IsToTrain : ℕ → Type 0
IsToTrain number = (number ≡ 15) ⊎ ((number ≡ 16) ⊎ ((number ≡ 18) ⊎ (number ≡ 24)))

-- this many bytes are as many as the message has; message 24 has at least its header of 75 bits
pub record IsLongEnough (number bytes : ℕ) : Type 0 where
  pub conditional : number ≡ 15 → bytes ≡ 15
  pub unconditional : number ≡ 16 → bytes ≡ 10
  pub revocation : number ≡ 18 → bytes ≡ 10
  pub general : number ≡ 24 → 75 ≤ 8 * bytes

-- packet 65 has 71 bits, packet 66 has 31
abbrev pub IsSized : ℕ → ℕ → Type 0
IsSized number size = ((number ≡ 65) × (size ≡ 71)) ⊎ ((number ≡ 66) × (size ≡ 31))

-- bits begin with packet 65 or 66, as long as its L_PACKET says
pub record BeginWithPacket (bits : List ℕ) : Type 0 where
  pub header : 23 ≤ length bits
  pub sized : IsSized (value_at 0 8 bits) (value_at 10 13 bits)
  pub within : value_at 10 13 bits ≤ length bits

-- what follows that packet
abbrev pub behind_packet : List ℕ → List ℕ
behind_packet bits = drop (value_at 10 13 bits) bits

-- Bits are packets, 1 to this many of them, with at most 7 bits after the last: if 8 or more are left, there is another packet.
abbrev pub ArePackets : ℕ → List ℕ → Type 0
ArePackets zero bits = ⊥
ArePackets (suc most) bits = BeginWithPacket bits × ((length (behind_packet bits) < 8) ⊎ ((8 ≤ length (behind_packet bits)) × ArePackets most (behind_packet bits)))

abbrev pub HasItsPackets : List ℕ → Type 0
HasItsPackets bytes = number_in bytes ≡ 24 → ArePackets most_packets (drop 75 (bits_of_bytes bytes))

-- bytes spell some message
abbrev pub IsSpelled : List ℕ → Type 0
IsSpelled bytes = (m : ToTrain) × Spells bytes m

-- the first step that fails; the last one is that the bytes spell a message, all of whose variables have no spare value
abbrev pub Refuses : List ℕ → DecodeError → Type 0
Refuses bytes =
    Unless (HasItsLength bytes) Length
    (Unless (IsToTrain (number_in bytes)) Message
    (Unless (IsLongEnough (number_in bytes) (length bytes)) Length
    (Unless (HasItsPackets bytes) Packet
    (Unless (IsSpelled bytes) Field Never))))

-- The steps before the packets hold of a message 24, so its packets are read, which takes memory.
pub record AreReadToPackets (bytes : List ℕ) : Type 0 where
  pub sized : HasItsLength bytes
  pub general : number_in bytes ≡ 24
  pub enough : IsLongEnough (number_in bytes) (length bytes)

-- bytes are refused, or memory ran out for the packets of a message 24
abbrev pub IsReadFault : List ℕ → ReadError → Type 0
IsReadFault bytes (Decode e) = Refuses bytes e
IsReadFault bytes OutOfMemory = AreReadToPackets bytes

-- memory ran out for the packets of a message 24
pub record IsWantOfMemory (bytes : List ℕ) (result : Result ToTrain ReadError) : Type 0 where
  pub read : AreReadToPackets bytes
  pub is : result ≡ Err OutOfMemory
