-- A message whose variables have room is spelled by its own bytes.
use Rattle.std.proofs.Common.{◌≡◌, ℕ, zero, suc, ◌+◌, ◌-◌, ◌*◌, ◌%◌, ◌^◌, ◌<◌, ◌≤◌, List, [], ◌∷◌, ◌++◌, length, take, drop, replicate, refl, sym, ap, ap₂, ◌∙◌, arith, length-append, length-drop}
use Rattle.std.specs.Int.{bit_at}
use Rattle.std.proofs.lemmas.List.{length-replicate, take-append-drop}
use Rattle.std.proofs.lemmas.Nat.{shr_high}
use Rattle.std.proofs.lemmas.Nat.Bits.{bit_at-lt}
use Rattle.ertms_bits.specs.Bits.{bits_of, bits_of_bytes, bytes_for, number_of, bytes_of, AreBits}
use Rattle.ertms_bits.proofs.Bits.{bits_of-cat_low}
use Rattle.ertms_bits.proofs.Bytes.{bytes_of-padded}
use Rattle.ertms_bits.proofs.Numbers.{AreBits-drop, number_of-below}
use Rattle.ertms_codec.specs.declared.to_train.ToTrain.{ToTrain}
use Rattle.ertms_codec.specs.Layout.{Field, width_of, bits_of_fields, bytes_of_fields, HoldValues}
use Rattle.ertms_codec.specs.ToTrain.{Fits, HoldsReference, Spells, fields_of, spelling_of}
use Rattle.ertms_codec.proofs.FieldLists.{length-bits_of_fields}

both : (bits more : List ℕ) → AreBits bits → AreBits more → AreBits (bits ++ more)
both [] more are rest = rest
both (bit ∷ bits) more are rest = (are.0, both bits more are.1 rest)

of_number : (width value : ℕ) → AreBits (bits_of width value)
unfolding bits_of
of_number zero value = tt
of_number (suc width) value = (bit_at-lt value width, of_number width value)

zeros : (n : ℕ) → AreBits (replicate n 0)
zeros zero = tt
zeros (suc n) = (omega arith, zeros n)

of_fields : (fields : List Field) → AreBits (bits_of_fields fields)
of_fields [] = tt
of_fields (f ∷ fields) = both (bits_of f.width f.value) (bits_of_fields fields) (of_number f.width f.value) (of_fields fields)

-- the first bit of a number
top_bit : (bit width rest : ℕ) → bit < 2 → rest < 2 ^ width → bit_at (bit * 2 ^ width + rest) width ≡ bit
top_bit bit width rest small below = ap (λ n. n % 2) (shr_high bit width rest below) ∙ small_bit bit small
  where
    small_bit : (b : ℕ) → b < 2 → b % 2 ≡ b
    small_bit b small = omega arith

-- the number that bits stand for has these bits
pub bits_back : (width : ℕ) (bits : List ℕ) → AreBits bits → width ≤ length bits → bits_of width (number_of width bits) ≡ take width bits
unfolding bits_of number_of
bits_back zero bits are enough = refl
bits_back (suc width) [] are enough = absurd (omega arith)
bits_back (suc width) (bit ∷ bits) are enough =
    let below = number_of-below width bits are.1 in
    ap₂ (λ (b : ℕ) (bs : List ℕ). b ∷ bs) (top_bit bit width (number_of width bits) are.0 below)
    (bits_of-cat_low width bit width (number_of width bits) (omega arith) ∙ bits_back width bits are.1 (omega arith))

-- whole bytes made of bits have these bits
pub bytes_back : (count : ℕ) (bits : List ℕ) → AreBits bits → length bits ≡ 8 * count → bits_of_bytes (bytes_of count bits) ≡ bits
unfolding bytes_of
bytes_back zero [] are is = refl
bytes_back zero (bit ∷ bits) are is = absurd (omega (arith, is))
bytes_back (suc count) bits are is =
    let left : length (drop 8 bits) ≡ 8 * count = length-drop 8 bits ∙ omega (arith, is) in
    ap₂ (λ (first rest : List ℕ). first ++ rest) (bits_back 8 bits are (omega (arith, is))) (bytes_back count (drop 8 bits) (AreBits-drop 8 bits are) left)
    ∙ take-append-drop 8 bits

-- the bytes of fields have their bits, and fill bits 0
abbrev fill_of : List Field → List ℕ
fill_of fields = replicate (8 * bytes_for (width_of fields) - width_of fields) 0

bytes_have : (fields : List Field) → bits_of_bytes (bytes_of_fields fields) ≡ bits_of_fields fields ++ fill_of fields
bytes_have fields =
    let bits = bits_of_fields fields in
    let fill = fill_of fields in
    let n = bytes_for (width_of fields) in
    let whole : length (bits ++ fill) ≡ 8 * n = let a = length-append bits fill in let b = length-bits_of_fields fields in let c = length-replicate {A = ℕ} (8 * n - width_of fields) 0 in omega (arith, a, b, c) in
    ap bits_of_bytes (sym (bytes_of-padded n bits (8 * n - width_of fields))) ∙ bytes_back n (bits ++ fill) (both bits fill (of_fields fields) (zeros (8 * n - width_of fields))) whole

pub spells_itself : (m : ToTrain) → Fits m → HoldValues (fields_of m) → HoldsReference m → Spells (spelling_of m) m
spells_itself m fits holds reference = record {
  fits = fits;
  holds = holds;
  reference = reference;
  fill = fill_of (fields_of m);
  few = let c = length-replicate {A = ℕ} (8 * bytes_for (width_of (fields_of m)) - width_of (fields_of m)) 0 in omega (arith, c);
  bits = bytes_have (fields_of m);
}
