-- The messages from a train as lists of variables, and which bytes spell them (SUBSET-026, chapters 7 and 8).
use Rattle.std.specs.Prelude.{◌≡◌, ℕ, ◌<◌, ◌≤◌, List, [], ◌∷◌, ◌++◌, length, Option, Some, None, Bool, true, false, ◌==◌, ◌||◌}
use Rattle.std.specs.List.{flat_map, AllByRecursion}
use Rattle.ertms_bits.specs.Bits.{bits_of_bytes}
use Rattle.ertms_codec.specs.declared.from_train.Position.{Position}
use Rattle.ertms_codec.specs.declared.from_train.FromTrain.{FromTrain}
use Rattle.ertms_codec.specs.declared.from_train.FromTrain.TheVariants.{Report, Ack, StopAck}
use Rattle.ertms_codec.specs.Layout.{Field, bits_of_fields, HoldValues, value_at}
use Rattle.ertms_codec.specs.Variables.{nid_message, l_message, t_train, nid_engine, nid_em, q_emergencystop, nid_packet, l_packet, q_scale, nid_lrbg, nid_prvlrbg, d_lrbg, q_dirlrbg, q_dlrbg, l_doubtover, l_doubtunder, q_length, l_trainint, v_train, q_dirtrain, m_mode, m_level, nid_ntc}

-- the variables of a position packet that are passed over
pub record Train : Type 0 where
  pub integrity : ℕ  -- Q_LENGTH
  pub length : ℕ  -- L_TRAININT
  pub speed : ℕ  -- V_TRAIN
  pub moves : ℕ  -- Q_DIRTRAIN
  pub mode : ℕ  -- M_MODE
  pub level : ℕ  -- M_LEVEL
  pub system : ℕ  -- NID_NTC

-- L_TRAININT is present if Q_LENGTH is 1 or 2
abbrev pub has_length : ℕ → Bool
has_length integrity = (integrity == 1) || (integrity == 2)

-- NID_NTC is present if M_LEVEL is 1
abbrev pub has_system : ℕ → Bool
has_system level = level == 1

-- NID_PACKET: packet 1 is the one that names two balise groups
abbrev pub number_of_packet : Option ℕ → ℕ
number_of_packet None = 0
number_of_packet (Some previous) = 1

abbrev pub previous_group : Option ℕ → List Field
previous_group None = []
previous_group (Some previous) = nid_prvlrbg previous ∷ []

-- a field that is present or not
abbrev pub optional : Bool → Field → List Field
optional true f = f ∷ []
optional false f = []

-- what follows L_DOUBTUNDER
abbrev pub fields_of_train : Train → List Field
fields_of_train t =
    q_length t.integrity
    ∷ optional (has_length t.integrity) (l_trainint t.length)
    ++ (v_train t.speed ∷ q_dirtrain t.moves ∷ m_mode t.mode ∷ m_level t.level ∷ optional (has_system t.level) (nid_ntc t.system))

-- packet 0 or 1, of this many bits
abbrev pub fields_of_position : ℕ → Position → Train → List Field
fields_of_position size p t =
    nid_packet (number_of_packet p.previous) ∷ l_packet size ∷ q_scale p.scale ∷ nid_lrbg p.lrbg
    ∷ previous_group p.previous
    ++ (d_lrbg p.distance ∷ q_dirlrbg p.dir ∷ q_dlrbg p.side ∷ l_doubtover p.over ∷ l_doubtunder p.under ∷ fields_of_train t)

-- the bits of packet 0 or 1: its variables, and then any that are passed over. L_PACKET counts them all.
pub record IsPositionPacket (p : Position) (packet : List ℕ) : Type 0 where
  pub train : Train
  pub extra : List ℕ
  pub holds : HoldValues (fields_of_position (length packet) p train)
  pub bits : packet ≡ bits_of_fields (fields_of_position (length packet) p train) ++ extra

-- the bits of any packet: NID_PACKET of 8 bits, L_PACKET of 13 bits, which counts all bits of the packet, and any further bits
pub record IsPacket (packet : List ℕ) : Type 0 where
  pub long : 21 ≤ length packet
  pub counted : value_at 8 13 packet ≡ length packet

-- bits are any packets, one after the other, and then at most 7 fill bits of any value
pub record ArePackets (bits : List ℕ) : Type 0 where
  pub packets : List (List ℕ)
  pub each : AllByRecursion IsPacket packets
  pub fill : List ℕ
  pub few : length fill < 8
  pub whole : bits ≡ flat_map (λ packet. packet) packets ++ fill

-- bits are a position packet, and then any packets and fill bits
pub record StandsWithPackets (p : Position) (bits : List ℕ) : Type 0 where
  pub packet : List ℕ
  pub others : List ℕ
  pub position : IsPositionPacket p packet
  pub further : ArePackets others
  pub whole : bits ≡ packet ++ others

-- the variables of a message before its packets, for a message of this many bytes
abbrev pub fields_of : ℕ → FromTrain → List Field
fields_of bytes (Report stamp engine position) = nid_message 136 ∷ l_message bytes ∷ t_train stamp ∷ nid_engine engine ∷ []
fields_of bytes (Ack stamp engine acked) = nid_message 146 ∷ l_message bytes ∷ t_train stamp ∷ nid_engine engine ∷ t_train acked ∷ []
fields_of bytes (StopAck stamp engine id answer position) = nid_message 147 ∷ l_message bytes ∷ t_train stamp ∷ nid_engine engine ∷ nid_em id ∷ q_emergencystop answer ∷ []

-- what follows those variables: packets, or at most 7 fill bits
abbrev pub StandsBehind : FromTrain → List ℕ → Type 0
StandsBehind (Report stamp engine position) bits = StandsWithPackets position bits
StandsBehind (Ack stamp engine acked) bits = length bits < 8
StandsBehind (StopAck stamp engine id answer position) bits = StandsWithPackets position bits

-- no variable of a position has a spare value
abbrev pub PositionFits : Position → Type 0
PositionFits p = (p.scale ≤ 2) × (p.dir ≤ 2) × (p.side ≤ 2)

abbrev pub Fits : FromTrain → Type 0
Fits (Report stamp engine position) = PositionFits position
Fits (Ack stamp engine acked) = Unit {0}
Fits (StopAck stamp engine id answer position) = PositionFits position

-- bytes spell a message without spare values
pub record Spells (bytes : List ℕ) (m : FromTrain) : Type 0 where
  pub fits : Fits m
  pub holds : HoldValues (fields_of (length bytes) m)
  pub behind : List ℕ
  pub stands : StandsBehind m behind
  pub bits : bits_of_bytes bytes ≡ bits_of_fields (fields_of (length bytes) m) ++ behind
