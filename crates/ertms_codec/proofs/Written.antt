-- Lemmas on fields that were written.
use Rattle.std.proofs.Common.{◌≡◌, ℕ, ◌+◌, ◌-◌, ◌*◌, ◌/◌, ◌^◌, ◌<◌, List, [], ◌∷◌, ◌++◌, ◌∙◌, length, take, replicate, Bool, true, false, if◌then◌else◌, refl, ap, arith, append_assoc}
use Rattle.std.specs.Int.{from_bool}
use Rattle.std.proofs.lemmas.List.{length-replicate}
use Rattle.std.proofs.lemmas.List.Concat.{flat_map-append}
use Rattle.std.proofs.lemmas.List.Sums.{sum_by-append}
use Rattle.std.proofs.lemmas.Nat.{shr_high, shr_below}
use Rattle.ertms_bits.specs.Bits.{bits_of, bits_of_bytes, bytes_for, bytes_of}
use Rattle.ertms_bits.proofs.Bits.{bits_of-add, bits_of-cat_low, drop_same}
use Rattle.ertms_codec.specs.declared.to_train.ToTrain.{ToTrain}
use Rattle.ertms_codec.specs.Layout.{Field, field, width_of, bits_of_fields, bytes_of_fields, HoldValues}
use Rattle.ertms_codec.specs.ToTrain.{Fits, HoldsReference, Spells, fields_of}
use Rattle.ertms_codec.specs.Written.{Writes}
use Rattle.ertms_codec.proofs.Fields.{width_of-cons}

-- fields that hold their values, and others behind them
holds-append : (xs ys : List Field) → HoldValues xs → HoldValues ys → HoldValues (xs ++ ys)
holds-append [] ys first second = second
holds-append (x ∷ xs) ys first second = (first.0, holds-append xs ys first.1 second)

-- fields were written, and then others behind them
pub Writes-append : {xs ys : List Field} {start middle end : ℕ} {before between after : List ℕ} → Writes xs start before middle between → Writes ys middle between end after → Writes (xs ++ ys) start before end after
Writes-append {xs} {ys} {start} {middle} {end} {before} {between} {after} first second =
    let widths : width_of (xs ++ ys) ≡ width_of xs + width_of ys = sum_by-append _ xs ys in
    record {
      holds = holds-append xs ys first.holds second.holds;
      moved = omega arith;
      within = second.within;
      bits = rw (second.bits, first.bits, flat_map-append, append_assoc);
      behind = second.behind ∙ drop_same (bytes_for middle) (bytes_for end) between before (omega arith) first.behind;
    }

-- the bits of a number that is joined of two are those of the first, and then those of the second
bits_of-joined : (high low x y : ℕ) → y < 2 ^ low
    → bits_of (high + low) (x * 2 ^ low + y) ≡ bits_of high x ++ bits_of low y
bits_of-joined high low x y below =
    rw (bits_of-add high low (x * 2 ^ low + y), shr_high x low y below, bits_of-cat_low low x low y (omega arith))

-- so what was written as one field, its value joined of two, was written as two fields
pub Writes-joined : (high low : ℕ) {x y both : ℕ} {fields : List Field} {start end : ℕ} {before after : List ℕ}
    → both ≡ x * 2 ^ low + y → y < 2 ^ low → Writes (field (high + low) both ∷ fields) start before end after
    → Writes (field high x ∷ field low y ∷ fields) start before end after
Writes-joined high low {x} {y} {both} {fields} {start} {end} {before} {after} is below written =
    let above : (x * 2 ^ low + y) / 2 ^ low < 2 ^ high =
    shr_below (x * 2 ^ low + y) high low (rw is at written.holds.0) in
    let apart : bits_of (high + low) both ≡ bits_of high x ++ bits_of low y =
    ap (bits_of (high + low)) is ∙ bits_of-joined high low x y below in
    let parts = append_assoc (bits_of high x) (bits_of low y) (bits_of_fields fields) in
    let first = width_of-cons (field high x) (field low y ∷ fields) in
    let second = width_of-cons (field low y) fields in
    let whole = width_of-cons (field (high + low) both) fields in
    record {
      holds = (rw (shr_high x low y below) at above, (below, written.holds.1));
      moved = omega (arith, first, second, whole, written.moved);
      within = written.within;
      bits = written.bits ∙ rw (apart, parts);
      behind = written.behind;
    }

-- fields that were written from the start on are spelled by the bytes that are used
pub spelled : (fields : List Field) (end used : ℕ) (before after bytes : List ℕ) → Writes fields 0 before end after → used ≡ bytes_for end → bytes ≡ bytes_of used (take end (bits_of_bytes after)) → bytes ≡ bytes_of_fields fields
spelled fields end used before after bytes written is made =
    let widths : end ≡ width_of fields = omega arith in
    rw (made, written.bits, is, widths)

-- and these bytes spell the message that has them, with fill bits 0
pub spells : (m : ToTrain) (end used : ℕ) (before after bytes : List ℕ) → Fits m → HoldsReference m → Writes (fields_of m) 0 before end after → used ≡ bytes_for end → bits_of_bytes bytes ≡ take end (bits_of_bytes after) ++ replicate (8 * used - end) 0 → Spells bytes m
spells m end used before after bytes fits reference written is filled =
    let fill : List ℕ = replicate (8 * used - end) 0 in
    let long : length fill ≡ 8 * used - end = length-replicate (8 * used - end) 0 in
    record {
      fits = fits;
      holds = written.holds;
      reference = reference;
      fill = fill;
      few = omega arith;
      bits = rw (filled, written.bits);
    }

-- a flag as the number that its field holds
pub from_bool_is : (flag : Bool) → from_bool flag ≡ (if flag then 1 else 0)
from_bool_is true = refl
from_bool_is false = refl

-- and it takes one bit
pub flag_below : (flag : Bool) → (if flag then 1 else 0) < 2
flag_below true = omega arith
flag_below false = omega arith
