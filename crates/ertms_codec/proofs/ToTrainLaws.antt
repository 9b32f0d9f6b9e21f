-- What is read of a message to a train is spelled so, and what is spelled so is read.
use Rattle.std.proofs.Common.{◌≡◌, ℕ, ◌+◌, ◌*◌, ◌<◌, ◌≤◌, ◌∙◌, List, length, take, drop, refl, sym, ap, subst, inl, inr, arith, length-drop}
use Rattle.std.specs.Prelude.{if◌then◌else◌}
use Rattle.std.specs.List.{flat_map}
use Rattle.std.specs.Int.{w16}
use Rattle.std.proofs.lemmas.Int.{of_z-to_z}
use Rattle.std.proofs.Math.Facts.{sfits_to_z}
use Rattle.ertms_bits.specs.Bits.{bits_of_bytes}
use Rattle.ertms_bits.proofs.Bits.{length-bits_of_bytes}
use Rattle.ertms_bits.proofs.Numbers.{AreBits-drop, AreBits-bits_of_bytes}
use Rattle.ertms_codec.specs.declared.to_train.Head.{Head}
use Rattle.ertms_codec.specs.declared.to_train.ToTrain.{ToTrain}
use Rattle.ertms_codec.specs.declared.to_train.ToTrain.TheVariants.{General}
use Rattle.ertms_codec.specs.Layout.{width_of, value_at}
use Rattle.ertms_codec.specs.PacketsToTrain.{fields_of_packet, most_packets}
use Rattle.ertms_codec.specs.ToTrain.{Fits, HoldsReference, Spells, fields_of, body_of, head_of, number_of_message, length_of_message}
use Rattle.ertms_codec.specs.Refusals.{number_in, HasItsLength}
use Rattle.ertms_codec.specs.RefusalsToTrain.{IsToTrain, IsLongEnough, ArePackets, HasItsPackets}
use Rattle.ertms_codec.specs.ToTrainAtPlaces.{head_at, stop_at, packets_at, message_at}
use Rattle.ertms_codec.specs.Reading.{IsReadToTrain}
use Rattle.ertms_codec.proofs.FieldLists.{AreAt-drop}
use Rattle.ertms_codec.proofs.GeneralPackets.{packets_stand}
use Rattle.ertms_codec.proofs.PacketFields.{width_of-append}
use Rattle.ertms_codec.proofs.Fields.{AreAt, spelled_at, hold_at, at_below, flag_at}

-- a message whose variables are at their places, in as many bytes as it has
record IsLaidOut (bytes : List ℕ) (m : ToTrain) : Type 0 where
  are : AreAt 0 (fields_of m) (bits_of_bytes bytes)
  reference : HoldsReference m
  within : width_of (fields_of m) ≤ length (bits_of_bytes bytes)
  fill : length (bits_of_bytes bytes) < width_of (fields_of m) + 8

-- the header is at its places
header_at : (bytes : List ℕ) (m : ToTrain) → head_of m ≡ head_at (bits_of_bytes bytes) → number_in bytes ≡ number_of_message m → value_at 8 10 (bits_of_bytes bytes) ≡ length_of_message m → AreAt 75 (body_of m) (bits_of_bytes bytes) → AreAt 0 (fields_of m) (bits_of_bytes bytes)
header_at bytes m head number size body =
    let bits = bits_of_bytes bytes in
    let ack : (if (head_of m).ack then 1 else 0) ≡ value_at 50 1 bits = rw head (flag_at 50 bits (AreBits-bits_of_bytes bytes)) in
    (sym number, (sym size, (ap (λ (h : Head). h.stamp) head, (ack, (ap (λ (h : Head). h.lrbg) head, body)))))

laid_out-stop : (bytes : List ℕ) (m : ToTrain) → head_of m ≡ head_at (bits_of_bytes bytes) → HasItsLength bytes → number_in bytes ≡ number_of_message m → length bytes ≡ length_of_message m → width_of (fields_of m) ≤ 8 * length_of_message m → 8 * length_of_message m < width_of (fields_of m) + 8 → AreAt 75 (body_of m) (bits_of_bytes bytes) → HoldsReference m → IsLaidOut bytes m
laid_out-stop bytes m head sized number long within fill body reference =
    let total = length-bits_of_bytes bytes in
    record { are = header_at bytes m head number (sized.1 ∙ long) body; reference = reference; within = omega (arith, total); fill = omega (arith, total) }

-- the fields of a message are those of its header and of its body
pub whole_width : (m : ToTrain) → width_of (fields_of m) ≡ 75 + width_of (body_of m)
whole_width m =
    let header = take 5 (fields_of m) in
    width_of-append header (body_of m)

laid_out-general : (bytes : List ℕ) → HasItsLength bytes → number_in bytes ≡ 24 → ArePackets most_packets (drop 75 (bits_of_bytes bytes)) → IsLaidOut bytes (General (head_at (bits_of_bytes bytes)) (packets_at most_packets (drop 75 (bits_of_bytes bytes))))
laid_out-general bytes sized number are =
    let bits = bits_of_bytes bytes in
    let packets = packets_at most_packets (drop 75 bits) in
    let m = General (head_at bits) packets in
    let total = length-bits_of_bytes bytes in
    let left = length-drop 75 bits in
    let stand = packets_stand most_packets (drop 75 bits) (AreBits-drop 75 bits (AreBits-bits_of_bytes bytes)) are in
    let width = whole_width m in
    let within = stand.within in
    let fill = stand.fill in
    let long : length bytes ≡ length_of_message m = omega arith in
    laid_out-stop bytes m refl sized number long (omega arith) (omega arith) (AreAt-drop (flat_map fields_of_packet packets) 75 0 bits stand.are) tt

laid_out : (bytes : List ℕ) → HasItsLength bytes → IsToTrain (number_in bytes) → IsLongEnough (number_in bytes) (length bytes) → HasItsPackets bytes → IsLaidOut bytes (message_at (bits_of_bytes bytes))
laid_out bytes sized known enough packet =
    let bits = bits_of_bytes bytes in
    let reference = of_z-to_z w16 (value_at 81 16 bits) (at_below 81 16 bits (AreBits-bits_of_bytes bytes)) in
    let signed = sfits_to_z {w = w16} {n = value_at 81 16 bits} (record { fits = at_below 81 16 bits (AreBits-bits_of_bytes bytes) }) in
    elim known [
      | inl e ↦
          let kind : message_at bits ≡ stop_at 15 bits = rw e in
          rw kind (laid_out-stop bytes (stop_at 15 bits) refl sized e (enough.conditional e) (omega arith) (omega arith) (refl, (refl, (reference, (refl, (refl, tt))))) signed)
      | inr rest ↦ elim rest [
        | inl e ↦
            let kind : message_at bits ≡ stop_at 16 bits = rw e in
            rw kind (laid_out-stop bytes (stop_at 16 bits) refl sized e (enough.unconditional e) (omega arith) (omega arith) (refl, tt) tt)
        | inr rest ↦ elim rest [
          | inl e ↦
              let kind : message_at bits ≡ stop_at 18 bits = rw e in
              rw kind (laid_out-stop bytes (stop_at 18 bits) refl sized e (enough.revocation e) (omega arith) (omega arith) (refl, tt) tt)
          | inr e ↦
              let kind : message_at bits ≡ General (head_at bits) (packets_at most_packets (drop 75 bits)) = rw e in
              rw kind (laid_out-general bytes sized e (packet e))
        ]
      ]
    ]

-- what is laid out and fits is spelled so
spells : (bytes : List ℕ) (m : ToTrain) → IsLaidOut bytes m → Fits m → Spells bytes m
spells bytes m l fits =
    let bits = bits_of_bytes bytes in
    let are = AreBits-bits_of_bytes bytes in
    let all : 0 + width_of (fields_of m) ≡ width_of (fields_of m) = omega arith in
    record {
      fits = fits;
      holds = hold_at (fields_of m) 0 bits are l.are;
      reference = l.reference;
      fill = drop (0 + width_of (fields_of m)) bits;
      few = omega (arith, l.fill, l.within, length-drop (0 + width_of (fields_of m)) bits);
      bits = spelled_at (fields_of m) 0 bits are (omega (arith, l.within)) l.are;
    }

-- what is read is spelled so
pub found : (bytes : List ℕ) (m : ToTrain) → IsReadToTrain bytes m → Spells bytes m
found bytes m r =
    subst (Spells bytes) (sym r.is) (spells bytes (message_at (bits_of_bytes bytes)) (laid_out bytes r.sized r.known r.enough r.packets) r.spare)
