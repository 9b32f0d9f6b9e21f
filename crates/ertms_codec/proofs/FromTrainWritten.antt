-- Lemmas on messages from a train that were written.
use Rattle.std.proofs.Common.{◌≡◌, ℕ, ◌+◌, ◌-◌, ◌*◌, ◌<◌, ◌∙◌, List, [], ◌++◌, length, take, replicate, refl, sym, ap, arith, append_assoc}
use Rattle.std.proofs.lemmas.List.{length-replicate, append-nil}
use Rattle.std.proofs.lemmas.List.Concat.{flat_map-append}
use Rattle.ertms_bits.specs.Bits.{bits_of_bytes, bytes_for}
use Rattle.ertms_codec.specs.declared.from_train.Position.{Position}
use Rattle.ertms_codec.specs.declared.from_train.FromTrain.{FromTrain}
use Rattle.ertms_codec.specs.declared.from_train.FromTrain.TheVariants.{Report, Ack, StopAck}
use Rattle.ertms_codec.specs.Layout.{width_of, bits_of_fields, HoldValues}
use Rattle.ertms_codec.specs.FromTrain.{Spells, Fits, StandsWithPackets, StandsBehind, fields_of, fields_of_position}
use Rattle.ertms_codec.specs.FromTrainWritten.{standing, IsInRange, size_of_position, behind_of, fields_of_message, length_of_message}
use Rattle.ertms_codec.specs.Written.{Writes}
use Rattle.ertms_codec.proofs.FieldLists.{length-bits_of_fields}
use Rattle.ertms_codec.proofs.PacketFields.{width_of-append}
use Rattle.ertms_codec.proofs.PositionFields.{width_of_position}

-- the packet of a position takes as many bits, whatever number of them it tells
pub width_is : (p : Position) (size : ℕ) → width_of (fields_of_position size p standing) ≡ size_of_position p
width_is p size = width_of_position size p standing ∙ sym (width_of_position 0 p standing)

-- and a message as many bytes
pub length_is : (m : FromTrain) → bytes_for (width_of (fields_of_message m)) ≡ length_of_message m
length_is (Report stamp engine p) = refl
length_is (Ack stamp engine acked) = refl
length_is (StopAck stamp engine id answer p) = refl

-- the bytes of a report, and of an acknowledgement of a stop, by the bits of their packet
pub length_of_report : (stamp engine : ℕ) (p : Position) → length_of_message (Report stamp engine p) ≡ bytes_for (74 + size_of_position p)
length_of_report stamp engine p =
    let m = Report stamp engine p in
    ap bytes_for (width_of-append (fields_of 0 m) (behind_of m) ∙ ap (λ n. 74 + n) (width_is p (size_of_position p)))

pub length_of_answer : (stamp engine id answer : ℕ) (p : Position) → length_of_message (StopAck stamp engine id answer p) ≡ bytes_for (80 + size_of_position p)
length_of_answer stamp engine id answer p =
    let m = StopAck stamp engine id answer p in
    ap bytes_for (width_of-append (fields_of 0 m) (behind_of m) ∙ ap (λ n. 80 + n) (width_is p (size_of_position p)))

-- a packet that holds its values, and fill bits
packet_stands : (p : Position) (fill : List ℕ) → HoldValues (fields_of_position (size_of_position p) p standing) → length fill < 8 → StandsWithPackets p (bits_of_fields (fields_of_position (size_of_position p) p standing) ++ fill)
packet_stands p fill holds few =
    let fields = fields_of_position (size_of_position p) p standing in
    let long : length (bits_of_fields fields) ≡ size_of_position p = length-bits_of_fields fields ∙ width_is p (size_of_position p) in
    record {
      packet = bits_of_fields fields;
      others = fill;
      position = record { train = standing; extra = []; holds = rw long holds; bits = rw (long, append-nil) };
      further = record { packets = []; each = tt; fill = fill; few = few; whole = refl };
      whole = refl;
    }

-- what is written stands behind the variables of its message
stands_behind : (m : FromTrain) (fill : List ℕ) → HoldValues (fields_of_message m) → length fill < 8 → HoldValues (fields_of (length_of_message m) m) × StandsBehind m (bits_of_fields (behind_of m) ++ fill)
stands_behind (Report stamp engine p) fill holds few =
    ((holds.0, (holds.1.0, (holds.1.1.0, (holds.1.1.1.0, tt)))), packet_stands p fill holds.1.1.1.1 few)
stands_behind (Ack stamp engine acked) fill holds few = (holds, few)
stands_behind (StopAck stamp engine id answer p) fill holds few =
    ((holds.0, (holds.1.0, (holds.1.1.0, (holds.1.1.1.0, (holds.1.1.1.1.0, (holds.1.1.1.1.1.0, tt)))))), packet_stands p fill holds.1.1.1.1.1.1 few)

-- variables in their ranges have no spare value
fits_in_range : (m : FromTrain) → IsInRange m → Fits m
fits_in_range (Report stamp engine p) range = range.2.fits
fits_in_range (Ack stamp engine acked) range = tt
fits_in_range (StopAck stamp engine id answer p) range = range.4.fits

-- bytes that were written spell their message, with fill bits 0
pub spells : (m : FromTrain) (end used : ℕ) (before after bytes : List ℕ) → IsInRange m → Writes (fields_of_message m) 0 before end after → used ≡ bytes_for end → length bytes ≡ length_of_message m → bits_of_bytes bytes ≡ take end (bits_of_bytes after) ++ replicate (8 * used - end) 0 → Spells bytes m
spells m end used before after bytes range written is long filled =
    let fill : List ℕ = replicate (8 * used - end) 0 in
    let few : length fill ≡ 8 * used - end = length-replicate (8 * used - end) 0 in
    let parts = stands_behind m fill written.holds (omega arith) in
    record {
      fits = fits_in_range m range;
      holds = rw long parts.0;
      behind = bits_of_fields (behind_of m) ++ fill;
      stands = parts.1;
      bits = rw (long, filled, written.bits, flat_map-append, append_assoc);
    }
