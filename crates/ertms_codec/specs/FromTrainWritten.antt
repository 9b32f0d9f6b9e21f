-- The bytes in which a message from a train is written: one spelling of each message (own rule, over the layouts of SUBSET-026, chapters 7 and 8).
use Rattle.std.specs.Prelude.{ℕ, ◌≤◌, List, [], ◌∷◌, ◌++◌, Option, Some, None}
use Rattle.ertms_bits.specs.Bits.{bytes_for}
use Rattle.ertms_codec.specs.declared.from_train.Position.{Position}
use Rattle.ertms_codec.specs.declared.from_train.FromTrain.{FromTrain}
use Rattle.ertms_codec.specs.declared.from_train.FromTrain.TheVariants.{Report, Ack, StopAck}
use Rattle.ertms_codec.specs.Layout.{Field, width_of, bytes_of_fields}
use Rattle.ertms_codec.specs.FromTrain.{Train, PositionFits, fields_of, number_of_packet, previous_group, fields_of_position}
use Rattle.ertms_codec.specs.Variables.{nid_packet, l_packet, q_scale, nid_lrbg}

-- a train that stands: its length is not told, it has no speed and moves as it faces, in mode 0 and level 3
abbrev pub standing : Train
standing = record { integrity = 0; length = 0; speed = 0; moves = 1; mode = 0; level = 3; system = 0 }

-- a balise group that may not be named
abbrev pub IsNumberOfGroup : Option ℕ → Type 0
IsNumberOfGroup None = Unit {0}
IsNumberOfGroup (Some group) = group ≤ 16777215

-- each variable of a position is in its range, and has no spare value
pub record PositionIsInRange (p : Position) : Type 0 where
  pub fits : PositionFits p
  pub previous : IsNumberOfGroup p.previous
  pub lrbg : p.lrbg ≤ 16777215
  pub distance : p.distance ≤ 32767
  pub over : p.over ≤ 32767
  pub under : p.under ≤ 32767

-- each variable of a message is in its range, and has no spare value
abbrev pub IsInRange : FromTrain → Type 0
IsInRange (Report stamp engine position) = (stamp ≤ 4294967295) × (engine ≤ 16777215) × PositionIsInRange position
IsInRange (Ack stamp engine acked) = (stamp ≤ 4294967295) × (engine ≤ 16777215) × (acked ≤ 4294967295)
IsInRange (StopAck stamp engine id answer position) = (stamp ≤ 4294967295) × (engine ≤ 16777215) × (id ≤ 15) × (answer ≤ 3) × PositionIsInRange position

-- how many bits the packet of a position takes
abbrev pub size_of_position : Position → ℕ
size_of_position p = width_of (fields_of_position 0 p standing)

-- the variables of that packet before D_LRBG
abbrev pub groups_of : Position → List Field
groups_of p =
    nid_packet (number_of_packet p.previous) ∷ l_packet (size_of_position p) ∷ q_scale p.scale ∷ nid_lrbg p.lrbg ∷ previous_group p.previous

-- what stands behind the variables of a message: the packet of its position, and no other
abbrev pub behind_of : FromTrain → List Field
behind_of (Report stamp engine position) = fields_of_position (size_of_position position) position standing
behind_of (Ack stamp engine acked) = []
behind_of (StopAck stamp engine id answer position) = fields_of_position (size_of_position position) position standing

-- how many bytes a message takes
abbrev pub length_of_message : FromTrain → ℕ
length_of_message m = bytes_for (width_of (fields_of 0 m ++ behind_of m))

-- all variables of a message
abbrev pub fields_of_message : FromTrain → List Field
fields_of_message m = fields_of (length_of_message m) m ++ behind_of m

-- the bytes of a message, with fill bits 0
abbrev pub spelling_of : FromTrain → List ℕ
spelling_of m = bytes_of_fields (fields_of_message m)
