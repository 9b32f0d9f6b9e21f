-- The packets of a message to a train as lists of variables (SUBSET-026, 7.4.2).
use Rattle.std.specs.Prelude.{ℕ, ◌≤◌, List, [], ◌∷◌, length}
use Rattle.std.specs.List.{AllByRecursion}
use Rattle.ertms_codec.specs.declared.packets.Part.{Part}
use Rattle.ertms_codec.specs.declared.packets.Part.TheVariants.{Restrict, Lift}
use Rattle.ertms_codec.specs.Layout.{Field}
use Rattle.ertms_codec.specs.Variables.{nid_packet, q_dir, l_packet, q_scale, nid_tsr, d_tsr, l_tsr, q_front, v_tsr}

-- packet 65, of 71 bits, and packet 66, of 31 bits
abbrev pub fields_of_packet : Part → List Field
fields_of_packet (Restrict dir scale id start length front speed) =
    nid_packet 65 ∷ q_dir dir ∷ l_packet 71 ∷ q_scale scale ∷ nid_tsr id ∷ d_tsr start ∷ l_tsr length ∷ q_front front ∷ v_tsr speed ∷ []
fields_of_packet (Lift dir id) = nid_packet 66 ∷ q_dir dir ∷ l_packet 31 ∷ nid_tsr id ∷ []

-- each variable of a packet is in its range, and has no spare value
abbrev pub PacketFits : Part → Type 0
PacketFits (Restrict dir scale id start length front speed) = (dir ≤ 2) × (scale ≤ 2) × (start ≤ 32767) × (length ≤ 32767) × (speed ≤ 120)
PacketFits (Lift dir id) = dir ≤ 2

-- how many packets a message has at most
abbrev pub most_packets : ℕ
most_packets = 100

-- there are 1 to 100 packets, and each fits
pub record ArePacketsThatFit (packets : List Part) : Type 0 where
  pub some : 1 ≤ length packets
  pub most : length packets ≤ most_packets
  pub each : AllByRecursion PacketFits packets

-- the identifier of a restriction has 8 bits
abbrev pub IdFits : Part → Type 0
IdFits (Restrict dir scale id start length front speed) = id ≤ 255
IdFits (Lift dir id) = id ≤ 255
