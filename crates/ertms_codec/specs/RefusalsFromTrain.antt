-- The steps that bytes pass to be a message from a train (own rule, over the layouts of SUBSET-026, chapters 7
-- and 8). Places are counted in bits from the first bit of the message, or of the packet.
use Rattle.std.specs.Prelude.{◌≡◌, ◌⊎◌, ℕ, ◌+◌, ◌*◌, ◌≤◌, List, length, drop, ◌==◌, if◌then◌else◌}
use Rattle.ertms_bits.specs.Bits.{bits_of_bytes}
use Rattle.ertms_codec.specs.declared.error.DecodeError.{DecodeError}
use Rattle.ertms_codec.specs.declared.error.DecodeError.TheVariants.{Length, Message, Packet, Field}
use Rattle.ertms_codec.specs.declared.from_train.FromTrain.{FromTrain}
use Rattle.ertms_codec.specs.Layout.{value_at}
use Rattle.ertms_codec.specs.FromTrain.{has_length, has_system, ArePackets, Spells}
use Rattle.ertms_codec.specs.Refusals.{Unless, Never, number_in, HasItsLength}

-- R-REFUSE-4.
abbrev pub IsFromTrain : ℕ → Type 0
IsFromTrain number = (number ≡ 136) ⊎ ((number ≡ 146) ⊎ (number ≡ 147))

-- R-REFUSE-3: this many bytes are as many as the message has, or at least as many as its variables before the packets take
pub record IsLongEnough (number bytes : ℕ) : Type 0 where
  pub report : number ≡ 136 → 74 ≤ 8 * bytes
  pub acknowledgement : number ≡ 146 → bytes ≡ 14
  pub of_a_stop : number ≡ 147 → 80 ≤ 8 * bytes

-- packet 1 has 24 more bits, for NID_PRVLRBG
abbrev pub shift_in : List ℕ → ℕ
shift_in packet = if value_at 0 8 packet == 1 then 24 else 0

-- the bits that L_TRAININT takes, by the bits from Q_LENGTH on
abbrev pub length_width : List ℕ → ℕ
length_width train = if has_length (value_at 0 2 train) then 15 else 0

-- the bits that NID_NTC takes, by the bits from Q_LENGTH on
abbrev pub system_width : List ℕ → ℕ
system_width train = if has_system (value_at (15 + length_width train) 3 train) then 8 else 0

-- where Q_LENGTH stands
abbrev pub train_place : List ℕ → ℕ
train_place packet = 96 + shift_in packet

-- the bits that the variables of a position packet take
abbrev pub position_width : List ℕ → ℕ
position_width packet =
    let train = drop (train_place packet) packet in
    114 + shift_in packet + (length_width train + system_width train)

-- bits begin with packet 0 or 1, whose L_PACKET counts at least its variables
pub record BeginWithPosition (packet : List ℕ) : Type 0 where
  pub header : 21 ≤ length packet
  pub number : value_at 0 8 packet ≤ 1
  pub enough : position_width packet ≤ value_at 8 13 packet
  pub within : value_at 8 13 packet ≤ length packet

-- bits begin with packet 0 or 1, and after what its L_PACKET counts come any packets and fill bits
pub record HavePackets (packet : List ℕ) : Type 0 where
  pub position : BeginWithPosition packet
  pub further : ArePackets (drop (value_at 8 13 packet) packet)

-- R-REFUSE-5: the packets of a message of this number
pub record HasItsPackets (number : ℕ) (bits : List ℕ) : Type 0 where
  pub report : number ≡ 136 → HavePackets (drop 74 bits)
  pub of_a_stop : number ≡ 147 → HavePackets (drop 80 bits)

-- R-REFUSE-6: bytes spell some message
abbrev pub IsSpelled : List ℕ → Type 0
IsSpelled bytes = (m : FromTrain) × Spells bytes m

-- R-REFUSE-3, R-REFUSE-4, R-REFUSE-5, R-REFUSE-6: the first step that fails; the last one is that the bytes spell a
-- message, all of whose variables have no spare value
abbrev pub Refuses : List ℕ → DecodeError → Type 0
Refuses bytes =
    Unless (HasItsLength bytes) Length
    (Unless (IsFromTrain (number_in bytes)) Message
    (Unless (IsLongEnough (number_in bytes) (length bytes)) Length
    (Unless (HasItsPackets (number_in bytes) (bits_of_bytes bytes)) Packet
    (Unless (IsSpelled bytes) Field Never))))
