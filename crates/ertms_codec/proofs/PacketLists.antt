-- Lemmas on packets, one after the other.
use Rattle.std.proofs.Common.{◌≡◌, ℕ, ◌+◌, ◌<◌, ◌≤◌, ◌∙◌, List, [], ◌∷◌, ◌++◌, length, take, drop, refl, sym, ap, arith, append_assoc, drop_at, length-append, length-drop, length-take-le, take-append-drop}
use Rattle.std.proofs.lemmas.List.{drop-append-le}
use Rattle.std.specs.List.{flat_map, AllByRecursion}
use Rattle.ertms_bits.specs.Bits.{number_of}
use Rattle.ertms_bits.proofs.Bytes.{number_of-append}
use Rattle.ertms_codec.specs.Layout.{value_at}
use Rattle.ertms_codec.specs.FromTrain.{IsPacket, ArePackets}
use Rattle.ertms_codec.specs.Reading.{BeginsWithPacket}

-- L_PACKET of a packet is that of the bits that begin with it
pub size_of-append : (packet others : List ℕ) → 21 ≤ length packet → value_at 8 13 (packet ++ others) ≡ value_at 8 13 packet
size_of-append packet others long =
    ap (number_of 13) (drop-append-le 8 packet others (omega arith)) ∙ number_of-append 13 (drop 8 packet) others (omega (arith, length-drop 8 packet))

-- fewer than 8 bits are fill bits
pub packets_end : (bits : List ℕ) → length bits < 8 → ArePackets bits
packets_end bits few = record { packets = []; each = tt; fill = bits; few = few; whole = refl }

-- a packet before packets
pub packets_more : (bits : List ℕ) → BeginsWithPacket bits → ArePackets (drop (value_at 8 13 bits) bits) → ArePackets bits
packets_more bits begins are =
    let size = value_at 8 13 bits in
    let first = take size bits in
    let others = drop size bits in
    let long : length first ≡ size = length-take-le size bits begins.within in
    let whole : first ++ others ≡ bits = take-append-drop size bits in
    let least = begins.least in
    let counted : value_at 8 13 first ≡ length first =
    sym (size_of-append first others (omega arith)) ∙ ap (value_at 8 13) whole ∙ sym long in
    record {
      packets = first ∷ are.packets;
      each = (record { long = omega arith; counted = counted }, are.each);
      fill = are.fill;
      few = are.few;
      whole = sym whole ∙ ap (λ (x : List ℕ). first ++ x) are.whole ∙ sym (append_assoc first (flat_map (λ (packet : List ℕ). packet) are.packets) are.fill);
    }

-- the first of packets
first_of : (bits : List ℕ) (packets : List (List ℕ)) (fill : List ℕ) → AllByRecursion IsPacket packets → length fill < 8 → bits ≡ flat_map (λ packet. packet) packets ++ fill → 8 ≤ length bits → BeginsWithPacket bits × ArePackets (drop (value_at 8 13 bits) bits)
first_of bits [] fill each few whole more = absurd (omega (arith, ap length whole))
first_of bits (packet ∷ packets) fill each few whole more =
    let others : List ℕ = flat_map (λ packet. packet) packets ++ fill in
    let same : bits ≡ packet ++ others = whole ∙ append_assoc packet (flat_map (λ (packet : List ℕ). packet) packets) fill in
    let size : value_at 8 13 bits ≡ length packet = ap (value_at 8 13) same ∙ size_of-append packet others each.0.long ∙ each.0.counted in
    let rest : drop (value_at 8 13 bits) bits ≡ others =
    ap (λ n. drop n bits) size ∙ ap (drop (length packet)) same ∙ drop_at packet others (length packet) refl in
    let total : length bits ≡ length packet + length others = ap length same ∙ length-append packet others in
    let long = each.0.long in
    (record { header = omega arith; least = omega arith; within = omega arith }, record { packets = packets; each = each.1; fill = fill; few = few; whole = rest })

-- packets that do not end begin with one
pub packets_less : (bits : List ℕ) → 8 ≤ length bits → ArePackets bits → BeginsWithPacket bits × ArePackets (drop (value_at 8 13 bits) bits)
packets_less bits more are = first_of bits are.packets are.fill are.each are.few are.whole more
