-- Packets that can be put into a message can be sent in one.
use Rattle.std.proofs.Common.{ℕ, ◌<◌, ◌≤◌, Bool, true, false, List, [], ◌∷◌, ◌++◌, length, arith}
use Rattle.std.specs.List.{AllByRecursion, flat_map}
use Rattle.ertms_codec.specs.declared.packets.Part.{Part}
use Rattle.ertms_codec.specs.declared.packets.Part.TheVariants.{Restrict, Lift}
use Rattle.ertms_codec.specs.declared.to_train.Head.{Head}
use Rattle.ertms_codec.specs.declared.to_train.ToTrain.TheVariants as message
use Rattle.ertms_codec.specs.Layout.{Field, HoldsValue, HoldValues}
use Rattle.ertms_codec.specs.Variables.{m_ack, q_front}
use Rattle.ertms_codec.specs.PacketsToTrain.{fields_of_packet, PacketFits, most_packets}
use Rattle.ertms_codec.specs.ToTrain as codec
use Rattle.ertms_codec.proofs.PacketFields.{packets_width}
use Rattle.rbc_rule.specs.SaidFor.{IsSendable}

-- a packet can be put into a message: each variable is in its range, and wide enough for its value
pub record CanBePacked (part : Part) : Type 0 where
  pub fits : PacketFits part
  pub holds : HoldValues (fields_of_packet part)

pub front_holds : (front : Bool) → HoldsValue (q_front front)
front_holds true = omega arith
front_holds false = omega arith

pub ack_holds : (ack : Bool) → HoldsValue (m_ack ack)
ack_holds true = omega arith
ack_holds false = omega arith

pub restrict_packed : (dir scale id start length speed : ℕ) (front : Bool) → dir ≤ 2 → scale ≤ 2 → id < 256 → start ≤ 32767 → length ≤ 32767 → speed ≤ 120
    → CanBePacked (Restrict dir scale id start length front speed)
restrict_packed dir scale id start length speed front d s i x y v = record {
  fits = (d, s, x, y, v);
  holds = (
    omega arith,
    (omega (arith, d), (omega arith, (omega (arith, s), (omega (arith, i), (omega (arith, x), (omega (arith, y), (front_holds front, (omega (arith, v), tt)))))))),
  );
}

pub lift_packed : (dir id : ℕ) → dir ≤ 2 → id < 256 → CanBePacked (Lift dir id)
lift_packed dir id d i = record { fits = d; holds = (omega arith, (omega (arith, d), (omega arith, (omega (arith, i), tt)))) }

-- ---- packets one behind the other

pub hold_both : (fields more : List Field) → HoldValues fields → HoldValues more → HoldValues (fields ++ more)
hold_both [] more these those = those
hold_both (f ∷ fields) more these those = (these.0, hold_both fields more these.1 those)

pub each_holds : (packets : List Part) → AllByRecursion CanBePacked packets → HoldValues (flat_map fields_of_packet packets)
each_holds [] each = tt
each_holds (part ∷ packets) each = hold_both (fields_of_packet part) (flat_map fields_of_packet packets) each.0.holds (each_holds packets each.1)

pub each_fits : (packets : List Part) → AllByRecursion CanBePacked packets → AllByRecursion PacketFits packets
each_fits [] each = tt
each_fits (part ∷ packets) each = (each.0.fits, each_fits packets each.1)

-- so 100 of them have room in a message
pub general_holds : (head : Head) (packets : List Part) → head.stamp < 4294967296 → head.lrbg ≤ 16777215 → length packets ≤ most_packets → HoldValues (flat_map fields_of_packet packets)
    → HoldValues (codec.fields_of (message.General head packets))
general_holds head packets stamp group most each =
    let width = packets_width packets in (
      omega arith,
      (omega (arith, width, most), (omega (arith, stamp), (ack_holds head.ack, (omega (arith, group), each)))),
    )

pub general_sendable : (head : Head) (packets : List Part) → head.stamp < 4294967296 → head.lrbg ≤ 16777215 → 1 ≤ length packets → length packets ≤ most_packets
    → AllByRecursion CanBePacked packets → IsSendable (message.General head packets)
general_sendable head packets stamp group some most each = record {
  fits = record { lrbg = group; body = record { some = some; most = most; each = each_fits packets each } };
  holds = general_holds head packets stamp group most (each_holds packets each);
  reference = tt;
}
