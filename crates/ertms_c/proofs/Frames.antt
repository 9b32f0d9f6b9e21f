-- A message 24 as fields.
use Rattle.std.proofs.Common.{◌≡◌, ◌∙◌, ◌-◌, List, [], ◌∷◌, ◌++◌, length, map, take, drop, replicate, refl, sym, ap, subst, arith, drop_at, length-drop, take-append-drop, length-take-le}
use Rattle.std.specs.List.{All}
use Rattle.std.proofs.lemmas.List.{length-map}
use Rattle.std.proofs.Math.Seq.{take-append_seam}
use Rattle.std.proofs.lemmas.List.Elements.{recursion_from_All, All-from_recursion, All-head, All-tail, All-replicate}
use Rattle.ertms_codec.specs.declared.packets.Part.{Part}
use Rattle.ertms_codec.specs.declared.to_train.Head.{Head}
use Rattle.ertms_codec.specs.declared.to_train.ToTrain.{ToTrain}
use Rattle.ertms_codec.specs.declared.to_train.ToTrain.TheVariants.{StopAt, Stop, Revoke, General}
use Rattle.ertms_codec.specs.PacketsToTrain.{PacketFits, most_packets}
use Rattle.ertms_codec.specs.ToTrain.{Fits}
use Rattle.ertms_c.specs.declared.to_train.PacketFields.{PacketFields}
use Rattle.ertms_c.specs.declared.to_train.ToTrainFields.{ToTrainFields}
use Rattle.ertms_c.specs.ToTrainFields.{begun, fields_of, head_in, packet_fields, packets_fields, no_packet, AreFieldsOf, IsFrame}
use Rattle.ertms_c.proofs.Named.{same_head}

-- fields of no packet, as many as there are
replicated : (fields : List PacketFields) → All (λ packet. packet ≡ no_packet) fields → fields ≡ replicate (length fields) no_packet
replicated [] none = refl
replicated (packet ∷ fields) none =
    let others = replicated fields (All-tail (λ packet. packet ≡ no_packet) packet fields none) in
    ap (λ (x : PacketFields). x ∷ fields) (All-head (λ packet. packet ≡ no_packet) packet fields none) ∙ ap (λ (xs : List PacketFields). no_packet ∷ xs) others

-- the packets of fields with their frame are those of a message
module _ (fields : ToTrainFields) (packets : List Part) (frame : IsFrame fields) (long : length fields.packets ≡ most_packets) (are : AreFieldsOf packets (take fields.count fields.packets)) where
  counted : fields.count ≡ length packets
  counted =
      let most = frame.most in
      let taken : length (take fields.count fields.packets) ≡ fields.count = length-take-le fields.count fields.packets (omega arith) in
      sym taken ∙ ap length are.are ∙ length-map packets packet_fields

  all_packets : fields.packets ≡ packets_fields packets
  all_packets =
      let most = frame.most in
      let left : length (drop fields.count fields.packets) ≡ most_packets - length packets = omega (arith, length-drop fields.count fields.packets, counted) in
      sym (take-append-drop fields.count fields.packets)
      ∙ ap (λ (xs : List PacketFields). xs ++ drop fields.count fields.packets) are.are
      ∙ ap (λ (xs : List PacketFields). map packet_fields packets ++ xs) (replicated (drop fields.count fields.packets) frame.behind ∙ ap (λ n. replicate n no_packet) left)

  pub frame_is : fields ≡ fields_of (General (head_in fields) packets)
  frame_is =
      frame.others
      ∙ ap (λ n. record (begun 24 (head_in fields)) { count = n; packets = fields.packets }) counted
      ∙ ap (λ (xs : List PacketFields). record (begun 24 (head_in fields)) { count = length packets; packets = xs }) all_packets

  pub frame_fits : Fits (General (head_in fields) packets)
  frame_fits =
      let some = frame.some in
      let most = frame.most in
      record { lrbg = frame.lrbg; body = record { some = omega (arith, counted); most = omega (arith, counted); each = recursion_from_All PacketFits packets are.fit } }

-- packets at the front of others, by the number that the frame has
pub front_are : (fields : ToTrainFields) (others : List Part) → IsFrame fields → length fields.packets ≡ most_packets → AreFieldsOf (take (length (take fields.count fields.packets)) others) (take fields.count fields.packets) → AreFieldsOf (take fields.count others) (take fields.count fields.packets)
front_are fields others frame long are =
    let most = frame.most in
    subst (λ n. AreFieldsOf (take n others) (take fields.count fields.packets)) (length-take-le fields.count fields.packets (omega arith)) are

-- a frame, with packets that have the fields in it
pub record HasPackets (fields : ToTrainFields) : Type 0 where
  pub packets : List Part
  pub frame : IsFrame fields
  pub are : AreFieldsOf packets (take fields.count fields.packets)

general_has : (head : Head) (packets : List Part) → Fits (General head packets) → HasPackets (fields_of (General head packets))
general_has head packets fits =
    let front = map packet_fields packets in
    let rest = replicate (most_packets - length packets) no_packet in
    let count : length front ≡ length packets = length-map packets packet_fields in
    record {
      packets = packets;
      frame = record {
        lrbg = fits.lrbg;
        some = fits.body.some;
        most = fits.body.most;
        others = ap (λ (h : Head). record (begun 24 h) { count = length packets; packets = packets_fields packets }) (sym (same_head head));
        behind = rw (drop_at front rest (length packets) count) (All-replicate (λ packet. packet ≡ no_packet) (most_packets - length packets) no_packet refl);
      };
      are = record { fit = All-from_recursion PacketFits packets fits.body.each; are = ap (λ n. take n (front ++ rest)) (sym count) ∙ take-append_seam front rest };
    }

-- the fields of a message 24 that fits are so
pub message_has : (fields : ToTrainFields) (m : ToTrain) → fields.kind ≡ 24 → Fits m → fields ≡ fields_of m → HasPackets fields
message_has fields (StopAt head id scale reference dir distance) general fits are = absurd (omega (arith, general, ap (λ (f : ToTrainFields). f.kind) are))
message_has fields (Stop head id) general fits are = absurd (omega (arith, general, ap (λ (f : ToTrainFields). f.kind) are))
message_has fields (Revoke head id) general fits are = absurd (omega (arith, general, ap (λ (f : ToTrainFields). f.kind) are))
message_has fields (General head packets) general fits are = subst HasPackets (sym are) (general_has head packets fits)
