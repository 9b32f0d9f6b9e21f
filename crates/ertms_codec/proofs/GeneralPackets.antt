-- The packets of message 24: where they stand, and what stands where.
use Rattle.std.proofs.Common.{◌≡◌, ℕ, zero, suc, ◌+◌, ◌<◌, ◌≤◌, List, [], ◌∷◌, ◌++◌, length, drop, nat_lt, true, false, refl, sym, subst, inl, inr, arith, length-drop, lt-ltb}
use Rattle.std.specs.Prelude.{◌⊎◌, if◌then◌else◌}
use Rattle.std.specs.List.{flat_map}
use Rattle.std.proofs.lemmas.Bool.{le-ltb}
use Rattle.ertms_bits.specs.Bits.{AreBits}
use Rattle.ertms_bits.proofs.Numbers.{AreBits-drop}
use Rattle.ertms_codec.specs.declared.packets.Part.{Part}
use Rattle.ertms_codec.specs.declared.packets.Part.TheVariants.{Restrict, Lift}
use Rattle.ertms_codec.specs.Layout.{Field, width_of, value_at}
use Rattle.ertms_codec.specs.PacketsToTrain.{fields_of_packet}
use Rattle.ertms_codec.specs.RefusalsToTrain.{IsSized, BeginWithPacket, ArePackets, behind_packet}
use Rattle.ertms_codec.specs.ToTrainAtPlaces.{packet_at, packets_at}
use Rattle.ertms_codec.proofs.FieldLists.{AreAt-append, AreAt-drop, AreAt-under}
use Rattle.ertms_codec.proofs.Fields.{AreAt, flag_at, flag_back}
use Rattle.ertms_codec.proofs.PacketFields.{width_of-append}

-- packets that may follow: none where fewer than 8 bits are left
abbrev pub MayFollow : ℕ → List ℕ → Type 0
MayFollow most bits = (length bits < 8) ⊎ ((8 ≤ length bits) × ArePackets most bits)

abbrev pub following : ℕ → List ℕ → List Part
following most bits = if nat_lt (length bits) 8 then [] else packets_at most bits

-- the fields of packets that stand at their places
pub record Stand (packets : List Part) (bits : List ℕ) : Type 0 where
  pub are : AreAt 0 (flat_map fields_of_packet packets) bits
  pub within : width_of (flat_map fields_of_packet packets) ≤ length bits
  pub fill : length bits < width_of (flat_map fields_of_packet packets) + 8

-- the fields of a packet that stands at its place, in as many bits as its L_PACKET says
record StandsFirst (bits : List ℕ) : Type 0 where
  are : AreAt 0 (fields_of_packet (packet_at bits)) bits
  width : width_of (fields_of_packet (packet_at bits)) ≡ value_at 10 13 bits

stands_first : (bits : List ℕ) → AreBits bits → BeginWithPacket bits → StandsFirst bits
stands_first bits are begins =
    let front = flag_at 63 bits are in
    elim begins.sized [
      | inl e ↦ record { are = rw e.0 (sym e.0, (refl, (sym e.1, (refl, (refl, (refl, (refl, (front, (refl, tt))))))))); width = rw (e.0, e.1) }
      | inr e ↦ record { are = rw e.0 (sym e.0, (refl, (sym e.1, (refl, tt)))); width = rw (e.0, e.1) }
    ]

-- a packet, and those behind it
stand_more : (part : Part) (packets : List Part) (size : ℕ) (bits : List ℕ) → AreAt 0 (fields_of_packet part) bits → width_of (fields_of_packet part) ≡ size → size ≤ length bits → Stand packets (drop size bits) → Stand (part ∷ packets) bits
stand_more part packets size bits first width within others =
    let fields = fields_of_packet part in
    let more = flat_map fields_of_packet packets in
    let widths = width_of-append fields more in
    let left = length-drop size bits in
    let place : size + 0 ≡ 0 + width_of fields = omega (arith, width) in
    let behind = subst (λ n. AreAt n more bits) place (AreAt-drop more size 0 bits others.are) in
    let within_others = others.within in
    let fill = others.fill in
    record { are = AreAt-append fields more 0 bits first behind; within = omega (arith, widths, left, width); fill = omega (arith, widths, left, width) }

-- where bits are packets, these stand there
pub packets_stand : (most : ℕ) (bits : List ℕ) → AreBits bits → ArePackets most bits → Stand (packets_at most bits) bits
packets_stand zero bits are packets = absurd packets
packets_stand (suc most) bits are packets =
    let size = value_at 10 13 bits in
    let first = stands_first bits are packets.0 in
    let stand = stand_more (packet_at bits) (following most (behind_packet bits)) size bits first.are first.width packets.0.within in
    elim packets.1 [
      | inl few ↦
          let none : nat_lt (length (behind_packet bits)) 8 ≡ true = lt-ltb (length (behind_packet bits)) 8 few in
          stand (rw none (record { are = tt; within = omega arith; fill = omega (arith, few) }))
      | inr more ↦
          let some : nat_lt (length (behind_packet bits)) 8 ≡ false = le-ltb (length (behind_packet bits)) 8 more.0 in
          stand (rw some (packets_stand most (behind_packet bits) (AreBits-drop size bits are) more.1))
    ]

-- a packet by its fields, and what stands behind it
record IsFirst (part : Part) (rest : List Field) (bits : List ℕ) : Type 0 where
  is : part ≡ packet_at bits
  sized : IsSized (value_at 0 8 bits) (value_at 10 13 bits)
  size : value_at 10 13 bits ≡ width_of (fields_of_packet part)
  least : 31 ≤ value_at 10 13 bits
  behind : AreAt 0 rest (behind_packet bits)

is_first : (part : Part) (rest : List Field) (bits : List ℕ) → AreAt 0 (fields_of_packet part ++ rest) bits → IsFirst part rest bits
is_first (Restrict dir scale id start length front speed) rest bits at =
    let size = at.1.1 in
    let more = size.1 in
    let flag = flag_back front (value_at 63 1 bits) more.1.1.1.1.0 in
    record {
      is = rw (← at.0, ← at.1.0, ← more.0, ← more.1.0, ← more.1.1.0, ← more.1.1.1.0, ← flag, ← more.1.1.1.1.1.0);
      sized = inl (sym at.0, sym size.0);
      size = sym size.0;
      least = omega (arith, size.0);
      behind = rw (← size.0) (AreAt-under rest 71 0 bits more.1.1.1.1.1.1);
    }
is_first (Lift dir id) rest bits at =
    let size = at.1.1 in
    record {
      is = rw (← at.0, ← at.1.0, ← size.1.0);
      sized = inr (sym at.0, sym size.0);
      size = sym size.0;
      least = omega (arith, size.0);
      behind = rw (← size.0) (AreAt-under rest 31 0 bits size.1.1);
    }

-- the first packet where packets stand, and the others behind it
record BeginsWith (part : Part) (packets : List Part) (bits : List ℕ) : Type 0 where
  is : part ≡ packet_at bits
  begins : BeginWithPacket bits
  others : Stand packets (behind_packet bits)
  long : 31 ≤ length bits

begins_with : (part : Part) (packets : List Part) (bits : List ℕ) → Stand (part ∷ packets) bits → BeginsWith part packets bits
begins_with part packets bits stand =
    let fields = flat_map fields_of_packet packets in
    let first = is_first part fields bits stand.are in
    let widths = width_of-append (fields_of_packet part) fields in
    let left = length-drop (value_at 10 13 bits) bits in
    let size = first.size in
    let least = first.least in
    let within = stand.within in
    let fill = stand.fill in
    record {
      is = first.is;
      begins = record { header = omega arith; sized = first.sized; within = omega arith };
      others = record { are = first.behind; within = omega arith; fill = omega arith };
      long = omega arith;
    }

-- where packets stand, the bits are these packets
pub packets_back : (most : ℕ) (packets : List Part) (bits : List ℕ) → 1 ≤ length packets → length packets ≤ most → Stand packets bits → ArePackets most bits × (packets ≡ packets_at most bits)
packets_back most [] bits some few stand = absurd (omega arith)
packets_back zero (part ∷ packets) bits some few stand = absurd (omega arith)
packets_back (suc most) (part ∷ []) bits some few stand =
    let first = begins_with part [] bits stand in
    let end = first.others.fill in
    let none : nat_lt (length (behind_packet bits)) 8 ≡ true = lt-ltb (length (behind_packet bits)) 8 end in
    ((first.begins, inl end), rw (none, first.is))
packets_back (suc most) (part ∷ (next ∷ packets)) bits some few stand =
    let first = begins_with part (next ∷ packets) bits stand in
    let second = begins_with next packets (behind_packet bits) first.others in
    let long = second.long in
    let others = packets_back most (next ∷ packets) (behind_packet bits) (omega arith) (omega arith) first.others in
    let more : nat_lt (length (behind_packet bits)) 8 ≡ false = le-ltb (length (behind_packet bits)) 8 (omega arith) in
    ((first.begins, inr (omega arith, others.0)), rw (more, ← others.1, first.is))
