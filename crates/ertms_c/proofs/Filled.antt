-- Packets in an array of fields, and packets out of it.
use Rattle.std.proofs.Common.{◌≡◌, ◌∙◌, ℕ, suc, ◌+◌, ◌-◌, ◌<◌, List, [], ◌∷◌, ◌++◌, length, map, take, replicate, set, get_or, Some, slice_get, sym, ap, subst, arith, append_assoc, length-take-le}
use Rattle.std.proofs.lemmas.List.{take_more, take_more_set, length-map, map-append, get_or-map}
use Rattle.std.proofs.Math.Seq.{set-append_seam, take-length}
use Rattle.std.proofs.lemmas.List.Elements.{All-push}
use Rattle.std.proofs.lemmas.Option.{slice_get_within, get_or_from_slice_get}
use Rattle.ertms_codec.specs.declared.packets.Part.{Part}
use Rattle.ertms_codec.specs.declared.packets.Part.TheVariants.{Lift}
use Rattle.ertms_codec.specs.PacketsToTrain.{PacketFits}
use Rattle.ertms_c.specs.declared.to_train.PacketFields.{PacketFields}
use Rattle.ertms_c.specs.ToTrainFields.{packet_fields, no_packet, AreFieldsOf}

-- of fields of no packet, the first is filled
filled : (front : List PacketFields) (index left : ℕ) (fields : PacketFields) → length front ≡ index → set (front ++ replicate (suc left) no_packet) index fields ≡ (front ++ fields ∷ []) ++ replicate left no_packet
filled front index left fields long =
    let rest = replicate left no_packet in
    ap (λ n. set (front ++ no_packet ∷ rest) n fields) (sym long) ∙ set-append_seam front no_packet rest fields ∙ sym (append_assoc front (fields ∷ []) rest)

-- one packet more stands at the front
pub one_filled : (packets : List Part) (index most : ℕ) (packet : Part) (before : List PacketFields) (fields : PacketFields) → slice_get packets index ≡ Some packet → index < most → before ≡ map packet_fields (take index packets) ++ replicate (most - index) no_packet → fields ≡ packet_fields packet
    → set before index fields ≡ map packet_fields (take (index + 1) packets) ++ replicate (most - (index + 1)) no_packet
one_filled packets index most packet before fields there below stood is =
    let within = slice_get_within packets index packet there in
    let front = map packet_fields (take index packets) in
    let left = most - (index + 1) in
    let size : most - index ≡ suc left = omega arith in
    let long : length front ≡ index = length-map (take index packets) packet_fields ∙ length-take-le index packets (omega arith) in
    let last : get_or packets index packet ≡ packet = get_or_from_slice_get packets index packet packet there in
    let more : map packet_fields (take (index + 1) packets) ≡ front ++ packet_fields packet ∷ [] =
    ap (map packet_fields) (take_more packets index packet within) ∙ rw (last, map-append) in
    ap (λ (xs : List PacketFields). set xs index fields) stood
    ∙ ap (λ n. set (front ++ replicate n no_packet) index fields) size
    ∙ filled front index left fields long
    ∙ ap (λ (x : PacketFields). (front ++ x ∷ []) ++ replicate left no_packet) is
    ∙ ap (λ (xs : List PacketFields). xs ++ replicate left no_packet) (sym more)

-- one packet more has its fields
pub one_more : (packets : List Part) (fields : List PacketFields) (index : ℕ) (packet : Part) (d : PacketFields) → AreFieldsOf (take index packets) (take index fields) → index < length packets → index < length fields → PacketFits packet → get_or fields index d ≡ packet_fields packet
    → AreFieldsOf (take (index + 1) (set packets index packet)) (take (index + 1) fields)
one_more packets fields index packet d so_far within there fits same =
    rw (take_more_set packets index packet within)
    (record {
      fit = All-push PacketFits (take index packets) packet so_far.fit fits;
      are = take_more fields index d there ∙ rw (same, so_far.are, map-append);
    })

-- fields that are those of no packet that fits
pub none_has : (packets : List Part) (fields : List PacketFields) (index : ℕ) (d : PacketFields) → AreFieldsOf packets fields → index < length fields → ((packet : Part) → PacketFits packet → get_or fields index d ≡ packet_fields packet → ⊥) → ⊥
none_has packets fields index d are within none =
    let packet = get_or packets index (Lift 0 0) in
    let count : length fields ≡ length packets = ap length are.are ∙ length-map packets packet_fields in
    let there : index < length packets = omega arith in
    let same : get_or fields index d ≡ packet_fields packet = ap (λ (xs : List PacketFields). get_or xs index d) are.are ∙ get_or-map packet_fields packets index (Lift 0 0) d there in
    none packet (are.fit index (Lift 0 0) there) same

-- as many as there are
pub all_have : (packets : List Part) (fields : List PacketFields) (index : ℕ) → AreFieldsOf (take index packets) (take index fields) → index ≡ length fields → AreFieldsOf (take (length fields) packets) fields
all_have packets fields index are end =
    let all : take index fields ≡ fields = ap (λ n. take n fields) end ∙ take-length fields in
    subst (λ n. AreFieldsOf (take n packets) fields) end (subst (AreFieldsOf (take index packets)) all are)
