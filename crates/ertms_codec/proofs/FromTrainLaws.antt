-- What is read of a message from a train is spelled so.
use Rattle.std.proofs.Common.{◌≡◌, ℕ, ◌+◌, ◌-◌, ◌*◌, ◌≤◌, ◌∙◌, List, ◌++◌, length, take, drop, refl, sym, ap, subst, inl, inr, arith, length-drop, length-take-le, take-append-drop}
use Rattle.std.proofs.Math.Seq.{take-append-add}
use Rattle.ertms_bits.specs.Bits.{bits_of_bytes, AreBits}
use Rattle.ertms_bits.proofs.Bits.{length-bits_of_bytes}
use Rattle.ertms_bits.proofs.Numbers.{AreBits-drop, AreBits-bits_of_bytes}
use Rattle.ertms_codec.specs.declared.from_train.FromTrain.{FromTrain}
use Rattle.ertms_codec.specs.declared.from_train.FromTrain.TheVariants.{Report, Ack, StopAck}
use Rattle.ertms_codec.specs.Layout.{Field, width_of, bits_of_fields, HoldValues, value_at}
use Rattle.ertms_codec.specs.FromTrain.{Train, Spells, Fits, StandsBehind, StandsWithPackets, fields_of, fields_of_position}
use Rattle.ertms_codec.specs.RefusalsFromTrain.{HavePackets, train_place}
use Rattle.ertms_codec.specs.FromTrainAtPlaces.{position_at, message_at}
use Rattle.ertms_codec.specs.Reading.{IsReadFromTrain}
use Rattle.ertms_codec.proofs.Fields.{AreAt, spelled_at, hold_at}
use Rattle.ertms_codec.proofs.FieldLists.{length-bits_of_fields}
use Rattle.ertms_codec.proofs.PositionFields.{train_at, position_stands, position_stands-width}

-- the front of bits that begin with fields
front_of : (fields : List Field) (bits rest : List ℕ) (size : ℕ) → bits ≡ bits_of_fields fields ++ rest → width_of fields ≤ size → take size bits ≡ bits_of_fields fields ++ take (size - width_of fields) rest
front_of fields bits rest size whole within =
    let parts : size ≡ length (bits_of_fields fields) + (size - width_of fields) = omega (arith, length-bits_of_fields fields) in
    ap (take size) whole ∙ ap (λ n. take n (bits_of_fields fields ++ rest)) parts ∙ take-append-add (bits_of_fields fields) rest (size - width_of fields)

-- bits that pass the steps are a position packet, packets and fill bits
stands_with : (bits : List ℕ) → AreBits bits → HavePackets bits → StandsWithPackets (position_at bits) bits
stands_with bits are has =
    let size = value_at 8 13 bits in
    let p = position_at bits in
    let t : Train = train_at (drop (train_place bits) bits) in
    let fields = fields_of_position size p t in
    let at = position_stands bits has.position.number in
    let width = position_stands-width bits size in
    let enough = has.position.enough in
    let within = has.position.within in
    let all : bits ≡ bits_of_fields fields ++ drop (0 + width_of fields) bits = spelled_at fields 0 bits are (omega (arith, width)) at in
    let packet = take size bits in
    let long : length packet ≡ size = length-take-le size bits within in
    let extra = take (size - width_of fields) (drop (0 + width_of fields) bits) in
    let front : packet ≡ bits_of_fields fields ++ extra = front_of fields bits (drop (0 + width_of fields) bits) size all (omega (arith, width)) in
    record {
      packet = packet;
      others = drop size bits;
      position = record {
        train = t;
        extra = extra;
        holds = subst (λ n. HoldValues (fields_of_position n p t)) (sym long) (hold_at fields 0 bits are at);
        bits = subst (λ n. packet ≡ bits_of_fields (fields_of_position n p t) ++ extra) (sym long) front;
      };
      further = has.further;
      whole = sym (take-append-drop size bits);
    }

-- a message whose variables are at their places, and what stands behind them
spells : (bytes : List ℕ) (m : FromTrain) → AreAt 0 (fields_of (length bytes) m) (bits_of_bytes bytes) → width_of (fields_of (length bytes) m) ≤ 8 * length bytes → Fits m → StandsBehind m (drop (0 + width_of (fields_of (length bytes) m)) (bits_of_bytes bytes)) → Spells bytes m
spells bytes m at within fits stands =
    let bits = bits_of_bytes bytes in
    let are = AreBits-bits_of_bytes bytes in
    record {
      fits = fits;
      holds = hold_at (fields_of (length bytes) m) 0 bits are at;
      behind = drop (0 + width_of (fields_of (length bytes) m)) bits;
      stands = stands;
      bits = spelled_at (fields_of (length bytes) m) 0 bits are (omega (arith, length-bits_of_bytes bytes)) at;
    }

-- what is read is spelled so
pub found : (bytes : List ℕ) (m : FromTrain) → IsReadFromTrain bytes m → Spells bytes m
found bytes m r =
    let bits = bits_of_bytes bytes in
    let are = AreBits-bits_of_bytes bytes in
    let total = length-bits_of_bytes bytes in
    let size = sym r.sized.1 in
    subst (Spells bytes) (sym r.behind.is) (elim r.known [
      | inl e ↦
          let kind : message_at bits ≡ Report (value_at 18 32 bits) (value_at 50 24 bits) (position_at (drop 74 bits)) = rw e in
          let room = r.enough.report e in
          rw kind (spells bytes (Report (value_at 18 32 bits) (value_at 50 24 bits) (position_at (drop 74 bits))) (sym e, (size, (refl, (refl, tt)))) (omega arith)
          (r.behind.spare.report e) (stands_with (drop 74 bits) (AreBits-drop 74 bits are) (r.behind.packets.report e)))
      | inr rest ↦ elim rest [
        | inl e ↦
            let kind : message_at bits ≡ Ack (value_at 18 32 bits) (value_at 50 24 bits) (value_at 74 32 bits) = rw e in
            let room = r.enough.acknowledgement e in
            rw kind (spells bytes (Ack (value_at 18 32 bits) (value_at 50 24 bits) (value_at 74 32 bits)) (sym e, (size, (refl, (refl, (refl, tt))))) (omega arith) tt (omega (arith, total, length-drop 106 bits)))
        | inr e ↦
            let kind : message_at bits ≡ StopAck (value_at 18 32 bits) (value_at 50 24 bits) (value_at 74 4 bits) (value_at 78 2 bits) (position_at (drop 80 bits)) = rw e in
            let room = r.enough.of_a_stop e in
            rw kind (spells bytes (StopAck (value_at 18 32 bits) (value_at 50 24 bits) (value_at 74 4 bits) (value_at 78 2 bits) (position_at (drop 80 bits))) (sym e, (size, (refl, (refl, (refl, (refl, tt)))))) (omega arith)
            (r.behind.spare.of_a_stop e) (stands_with (drop 80 bits) (AreBits-drop 80 bits are) (r.behind.packets.of_a_stop e)))
      ]
    ])
