-- The bytes in which a message is written spell it.
use Rattle.std.proofs.Common.{◌≡◌, ℕ, zero, suc, ◌-◌, ◌*◌, ◌≤◌, ◌∙◌, List, [], ◌∷◌, ◌++◌, length, take, drop, replicate, Option, Some, None, refl, sym, ap, arith, length-append, length-drop}
use Rattle.std.proofs.Math.Seq.{drop-nil, take-append_seam}
use Rattle.std.proofs.lemmas.List.{length-replicate, drop_all}
use Rattle.std.proofs.lemmas.Nat.Bits.{bit_at-lt}
use Rattle.ertms_bits.specs.Bits.{bits_of, bits_of_bytes, bytes_for, number_of, bytes_of, AreBits}
use Rattle.ertms_bits.proofs.Bits.{length-bits_of_bytes}
use Rattle.ertms_bits.proofs.Bytes.{bytes_of-padded}
use Rattle.ertms_bits.proofs.Numbers.{AreBits-drop}
use Rattle.ertms_codec.specs.declared.from_train.Position.{Position}
use Rattle.ertms_codec.specs.declared.from_train.FromTrain.{FromTrain}
use Rattle.ertms_codec.specs.declared.from_train.FromTrain.TheVariants.{Report, Ack, StopAck}
use Rattle.ertms_codec.specs.declared.to_train.ToTrain.{ToTrain}
use Rattle.ertms_codec.specs.Encoding.{IsInRangeToTrain}
use Rattle.ertms_codec.specs.FromTrain as from_train
use Rattle.ertms_codec.specs.FromTrain.{fields_of, fields_of_position}
use Rattle.ertms_codec.specs.FromTrainWritten.{standing, IsInRange, PositionIsInRange, size_of_position, behind_of, fields_of_message, length_of_message}
use Rattle.ertms_codec.specs.FromTrainWritten as from_train_written
use Rattle.ertms_codec.specs.Layout.{Field, width_of, bits_of_fields, bytes_of_fields, HoldValues}
use Rattle.ertms_codec.specs.ToTrain as to_train
use Rattle.ertms_codec.specs.Written.{Writes}
use Rattle.ertms_codec.proofs.Fields.{front_is}
use Rattle.ertms_codec.proofs.FieldLists.{length-bits_of_fields}
use Rattle.ertms_codec.proofs.FromTrainWritten as written_from_train
use Rattle.ertms_codec.proofs.FromTrainWritten.{length_of_report, length_of_answer, length_is}
use Rattle.ertms_codec.proofs.Written as written_to_train

-- fields and fill bits are bits
AreBits-append : (bits more : List ℕ) → AreBits bits → AreBits more → AreBits (bits ++ more)
AreBits-append [] more are rest = rest
AreBits-append (bit ∷ bits) more are rest = (are.0, AreBits-append bits more are.1 rest)

of_a_number : (width value : ℕ) → AreBits (bits_of width value)
unfolding bits_of
of_a_number zero value = tt
of_a_number (suc width) value = (bit_at-lt value width, of_a_number width value)

of_fields : (fields : List Field) → AreBits (bits_of_fields fields)
of_fields [] = tt
of_fields (f ∷ fields) = AreBits-append (bits_of f.width f.value) (bits_of_fields fields) (of_a_number f.width f.value) (of_fields fields)

of_fill : (count : ℕ) → AreBits (replicate count 0)
of_fill zero = tt
of_fill (suc count) = (omega arith, of_fill count)

-- bytes that are made of all their bits have these bits
bits_back : (count : ℕ) (bits : List ℕ) → AreBits bits → length bits ≡ 8 * count → bits_of_bytes (bytes_of count bits) ≡ bits
unfolding bytes_of
bits_back zero [] are long = refl
bits_back zero (bit ∷ bits) are long = absurd (omega arith)
bits_back (suc count) bits are long =
    let first = front_is 8 bits are (omega arith) in
    let rest = bits_back count (drop 8 bits) (AreBits-drop 8 bits are) (omega (arith, length-drop 8 bits)) in
    ap (λ (more : List ℕ). bits_of 8 (number_of 8 bits) ++ more) rest ∙ sym first

-- how many fill bits stand behind fields
abbrev fill_of : List Field → ℕ
fill_of fields = 8 * bytes_for (width_of fields) - width_of fields

-- the bytes of fields have their bits, and fill bits
filled : (fields : List Field) → bits_of_bytes (bytes_of_fields fields) ≡ bits_of_fields fields ++ replicate (fill_of fields) 0
filled fields =
    let count = bytes_for (width_of fields) in
    let padded : List ℕ = bits_of_fields fields ++ replicate (fill_of fields) 0 in
    let long : length padded ≡ 8 * count =
    omega (arith, length-append (bits_of_fields fields) (replicate (fill_of fields) 0), length-bits_of_fields fields, length-replicate {A = ℕ} (fill_of fields) 0) in
    ap bits_of_bytes (sym (bytes_of-padded count (bits_of_fields fields) (fill_of fields)))
    ∙ bits_back count padded (AreBits-append (bits_of_fields fields) (replicate (fill_of fields) 0) (of_fields fields) (of_fill (fill_of fields))) long

bytes_are_enough : (fields : List Field) → length (bytes_of_fields fields) ≡ bytes_for (width_of fields)
bytes_are_enough fields =
    let long = ap length (filled fields) ∙ length-append (bits_of_fields fields) (replicate (fill_of fields) 0) in
    omega (arith, long, length-bits_of_bytes (bytes_of_fields fields), length-bits_of_fields fields, length-replicate {A = ℕ} (fill_of fields) 0)

front_is_fields : (fields : List Field) → take (width_of fields) (bits_of_bytes (bytes_of_fields fields)) ≡ bits_of_fields fields
front_is_fields fields =
    ap (take (width_of fields)) (filled fields)
    ∙ ap (λ n. take n (bits_of_fields fields ++ replicate (fill_of fields) 0)) (sym (length-bits_of_fields fields))
    ∙ take-append_seam (bits_of_fields fields) (replicate (fill_of fields) 0)

-- so they are what a writer leaves that writes the fields
written : (fields : List Field) → HoldValues fields → Writes fields 0 [] (width_of fields) (bytes_of_fields fields)
written fields holds =
    let long = bytes_are_enough fields in
    record {
      holds = holds;
      moved = omega arith;
      within = omega (arith, long);
      bits = front_is_fields fields;
      behind = drop_all (bytes_for (width_of fields)) (bytes_of_fields fields) (omega (arith, long)) ∙ sym (drop-nil (bytes_for (width_of fields)));
    }

-- the front and the fill bits of the bytes of fields
parted : (fields : List Field) → bits_of_bytes (bytes_of_fields fields) ≡ take (width_of fields) (bits_of_bytes (bytes_of_fields fields)) ++ replicate (fill_of fields) 0
parted fields = filled fields ∙ ap (λ (front : List ℕ). front ++ replicate (fill_of fields) 0) (sym (front_is_fields fields))

pub to_train_spelled : (m : ToTrain) → IsInRangeToTrain m → to_train.Spells (to_train.spelling_of m) m
to_train_spelled m range =
    let fields = to_train.fields_of m in
    written_to_train.spells m (width_of fields) (bytes_for (width_of fields)) [] (bytes_of_fields fields) (bytes_of_fields fields) range.fits range.reference (written fields range.holds) refl (parted fields)

-- the variables of a message from a train hold in their fields
holds-append : (xs ys : List Field) → HoldValues xs → HoldValues ys → HoldValues (xs ++ ys)
holds-append [] ys first second = second
holds-append (x ∷ xs) ys first second = (first.0, holds-append xs ys first.1 second)

unfoldable pub position_of : Option ℕ → (scale lrbg distance dir side over under : ℕ) → Position
position_of previous scale lrbg distance dir side over under =
    record { previous = previous; scale = scale; lrbg = lrbg; distance = distance; dir = dir; side = side; over = over; under = under }

-- what is known of the packet of a position
record Packet (p : Position) : Type 0 where
  small : size_of_position p ≤ 138
  holds : HoldValues (fields_of_position (size_of_position p) p standing)

packet_by : (previous : Option ℕ) (scale lrbg distance dir side over under : ℕ) → PositionIsInRange (position_of previous scale lrbg distance dir side over under) → Packet (position_of previous scale lrbg distance dir side over under)
unfolding position_of
packet_by None scale lrbg distance dir side over under r =
    let a = r.fits.0 in
    let b = r.lrbg in
    let c = r.distance in
    let d = r.fits.1 in
    let e = r.fits.2 in
    let f = r.over in
    let g = r.under in
    record {
      small = omega arith;
      holds = (omega arith, (omega arith, (omega arith, (omega arith, (omega arith, (omega arith, (omega arith, (omega arith, (omega arith, (omega arith, (omega arith, (omega arith, (omega arith, (omega arith, tt))))))))))))));
    }
packet_by (Some previous) scale lrbg distance dir side over under r =
    let a = r.fits.0 in
    let b = r.lrbg in
    let h = r.previous in
    let c = r.distance in
    let d = r.fits.1 in
    let e = r.fits.2 in
    let f = r.over in
    let g = r.under in
    record {
      small = omega arith;
      holds = (omega arith, (omega arith, (omega arith, (omega arith, (omega arith, (omega arith, (omega arith, (omega arith, (omega arith, (omega arith, (omega arith, (omega arith, (omega arith, (omega arith, (omega arith, tt)))))))))))))));
    }

packet : (p : Position) → PositionIsInRange p → Packet p
unfolding position_of
packet p range = packet_by p.previous p.scale p.lrbg p.distance p.dir p.side p.over p.under range

from_train_holds : (m : FromTrain) → IsInRange m → HoldValues (fields_of_message m)
from_train_holds (Report stamp engine position) range =
    let p = packet position range.2 in
    let small = p.small in
    let long = length_of_report stamp engine position in
    holds-append (fields_of (length_of_message (Report stamp engine position)) (Report stamp engine position)) (behind_of (Report stamp engine position))
    (omega arith, (omega (arith, long, small), (omega (arith, range.0), (omega (arith, range.1), tt)))) p.holds
from_train_holds (Ack stamp engine acked) range =
    (omega arith, (omega arith, (omega (arith, range.0), (omega (arith, range.1), (omega (arith, range.2), tt)))))
from_train_holds (StopAck stamp engine id answer position) range =
    let p = packet position range.4 in
    let small = p.small in
    let long = length_of_answer stamp engine id answer position in
    holds-append (fields_of (length_of_message (StopAck stamp engine id answer position)) (StopAck stamp engine id answer position)) (behind_of (StopAck stamp engine id answer position))
    (omega arith, (omega (arith, long, small), (omega (arith, range.0), (omega (arith, range.1), (omega (arith, range.2), (omega (arith, range.3), tt)))))) p.holds

pub from_train_spelled : (m : FromTrain) → IsInRange m → from_train.Spells (from_train_written.spelling_of m) m
from_train_spelled m range =
    let fields = fields_of_message m in
    written_from_train.spells m (width_of fields) (bytes_for (width_of fields)) [] (bytes_of_fields fields) (bytes_of_fields fields) range (written fields (from_train_holds m range)) refl (bytes_are_enough fields ∙ length_is m) (parted fields)
