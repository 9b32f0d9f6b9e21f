-- The messages to a train as lists of variables, and which bytes spell them (SUBSET-026, chapters 7 and 8).
use Rattle.std.specs.Prelude.{◌≡◌, ℕ, ◌+◌, ◌<◌, ◌≤◌, List, [], ◌∷◌, ◌++◌, length}
use Rattle.std.specs.List.{flat_map}
use Rattle.std.specs.Int.{w16}
use Rattle.std.specs.Int.RustNames.{FitsSigned}
use Rattle.ertms_bits.specs.Bits.{bits_of_bytes, bytes_for}
use Rattle.ertms_codec.specs.declared.to_train.Head.{Head}
use Rattle.ertms_codec.specs.declared.to_train.ToTrain.{ToTrain}
use Rattle.ertms_codec.specs.declared.to_train.ToTrain.TheVariants.{StopAt, Stop, Revoke, General}
use Rattle.ertms_codec.specs.Layout.{Field, width_of, bits_of_fields, bytes_of_fields, HoldValues}
use Rattle.ertms_codec.specs.Variables.{nid_message, l_message, t_train, m_ack, nid_lrbg, nid_em, q_scale, d_ref, q_dir, d_emergencystop}
pub use Rattle.ertms_codec.specs.PacketsToTrain.{fields_of_packet, PacketFits, most_packets, ArePacketsThatFit}

-- NID_MESSAGE
abbrev pub number_of_message : ToTrain → ℕ
number_of_message (StopAt head id scale reference dir distance) = 15
number_of_message (Stop head id) = 16
number_of_message (Revoke head id) = 18
number_of_message (General head packets) = 24

abbrev pub head_of : ToTrain → Head
head_of (StopAt head id scale reference dir distance) = head
head_of (Stop head id) = head
head_of (Revoke head id) = head
head_of (General head packets) = head

-- what follows the header; the packets of message 24 stand one after another
abbrev pub body_of : ToTrain → List Field
body_of (StopAt head id scale reference dir distance) =
    nid_em id ∷ q_scale scale ∷ d_ref reference ∷ q_dir dir ∷ d_emergencystop distance ∷ []
body_of (Stop head id) = nid_em id ∷ []
body_of (Revoke head id) = nid_em id ∷ []
body_of (General head packets) = flat_map fields_of_packet packets

-- the header takes 75 bits, and L_MESSAGE counts the bytes of the whole message
abbrev pub length_of_message : ToTrain → ℕ
length_of_message m = bytes_for (75 + width_of (body_of m))

abbrev pub fields_of : ToTrain → List Field
fields_of m =
    nid_message (number_of_message m) ∷ l_message (length_of_message m) ∷ t_train (head_of m).stamp ∷ m_ack (head_of m).ack ∷ nid_lrbg (head_of m).lrbg
    ∷ body_of m

-- the bytes of a message, with fill bits 0
abbrev pub spelling_of : ToTrain → List ℕ
spelling_of m = bytes_of_fields (fields_of m)

-- each variable of the body is in its range, and has no spare value
abbrev pub BodyFits : ToTrain → Type 0
BodyFits (StopAt head id scale reference dir distance) = (id ≤ 15) × (scale ≤ 2) × (dir ≤ 2) × (distance ≤ 32767)
BodyFits (Stop head id) = id ≤ 15
BodyFits (Revoke head id) = id ≤ 15
BodyFits (General head packets) = ArePacketsThatFit packets

-- each variable of the message is in its range, and has no spare value
pub record Fits (m : ToTrain) : Type 0 where
  pub lrbg : (head_of m).lrbg ≤ 16777215
  pub body : BodyFits m

-- D_REF is a number of 16 bits with a sign
abbrev pub HoldsReference : ToTrain → Type 0
HoldsReference (StopAt head id scale reference dir distance) = FitsSigned w16 reference
HoldsReference _ = Unit {0}

-- bytes spell a message that fits: its variables, and then at most 7 fill bits of any value; so
-- L_MESSAGE is the number of bytes
pub record Spells (bytes : List ℕ) (m : ToTrain) : Type 0 where
  pub fits : Fits m
  pub holds : HoldValues (fields_of m)
  pub reference : HoldsReference m
  pub fill : List ℕ
  pub few : length fill < 8
  pub bits : bits_of_bytes bytes ≡ bits_of_fields (fields_of m) ++ fill
