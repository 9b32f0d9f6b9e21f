-- Fields against the bits that they are laid out in.
use Rattle.std.proofs.Common.{◌≡◌, ℕ, zero, suc, ◌+◌, ◌*◌, ◌%◌, ◌^◌, ◌<◌, ◌≤◌, ◌∙◌, List, [], ◌∷◌, ◌++◌, length, drop, cond, eqb, refl, sym, ap, arith, append_assoc, drop-drop, drop_at, length-append, length-drop, mod-eq_of_lt, Bool, true, false}
use Rattle.std.specs.Prelude.{◌==◌, if◌then◌else◌}
use Rattle.std.proofs.lemmas.Nat.{shr_high}
use Rattle.std.proofs.lemmas.List.Sums.{sum_by-cons}
use Rattle.std.specs.Int.{bit_at}
use Rattle.ertms_bits.specs.Bits.{bits_of, number_of, AreBits}
use Rattle.ertms_bits.proofs.Bits.{length-bits_of, bits_of-cat_low}
use Rattle.ertms_bits.proofs.Bytes.{number_of-append, number_of-bits_of}
use Rattle.ertms_bits.proofs.Numbers.{AreBits-drop, number_of-below}
use Rattle.ertms_codec.specs.Layout.{Field, width_of, bits_of_fields, HoldValues, value_at}

-- the fields have the values that stand at their places, the first from a place on
abbrev pub AreAt : ℕ → List Field → List ℕ → Type 0
AreAt place [] bits = Unit {0}
AreAt place (f ∷ fields) bits = (f.value ≡ value_at place f.width bits) × AreAt (place + f.width) fields bits

pub width_of-cons : (f : Field) (fields : List Field) → width_of (f ∷ fields) ≡ f.width + width_of fields
width_of-cons f fields = sum_by-cons (λ g. g.width) f fields

-- a bit above a number
highest_bit : (bit number width : ℕ) → bit < 2 → number < 2 ^ width → bit_at (bit * 2 ^ width + number) width ≡ bit
highest_bit bit number width small below =
    ap (λ n. n % 2) (shr_high bit width number below) ∙ mod-eq_of_lt small

-- bits are those of the number that they stand for, and the rest
pub front_is : (width : ℕ) (bits : List ℕ) → AreBits bits → width ≤ length bits → bits ≡ bits_of width (number_of width bits) ++ drop width bits
unfolding bits_of number_of
front_is zero bits are within = refl
front_is (suc width) [] are within = absurd (omega arith)
front_is (suc width) (bit ∷ bits) are within =
    let below = number_of-below width bits are.1 in
    rw (highest_bit bit (number_of width bits) width are.0 below, bits_of-cat_low width bit width (number_of width bits) (omega arith))
    (ap (λ (b : List ℕ). bit ∷ b) (front_is width bits are.1 (omega arith)))

-- where the fields have the values that stand at their places, the bits are theirs, and the rest
pub spelled_at : (fields : List Field) (place : ℕ) (bits : List ℕ) → AreBits bits → place + width_of fields ≤ length bits → AreAt place fields bits → drop place bits ≡ bits_of_fields fields ++ drop (place + width_of fields) bits
spelled_at [] place bits are within at = let here : place ≡ place + 0 = omega arith in ap (λ n. drop n bits) here
spelled_at (f ∷ fields) place bits are within at =
    let widths = width_of-cons f fields in
    let rest = spelled_at fields (place + f.width) bits are (omega (arith, widths)) at.1 in
    let places : place + f.width + width_of fields ≡ place + width_of (f ∷ fields) = omega (arith, widths) in
    let front = front_is f.width (drop place bits) (AreBits-drop place bits are) (omega (arith, widths, length-drop place bits)) in
    front ∙ rw (← at.0, drop-drop f.width place bits, rest, places, append_assoc)

-- the values that stand at places hold in their fields
pub hold_at : (fields : List Field) (place : ℕ) (bits : List ℕ) → AreBits bits → AreAt place fields bits → HoldValues fields
hold_at [] place bits are at = tt
hold_at (f ∷ fields) place bits are at =
    (rw at.0 (number_of-below f.width (drop place bits) (AreBits-drop place bits are)), hold_at fields (place + f.width) bits are at.1)

-- what stands behind the fields
pub record Behind (fields : List Field) (place : ℕ) (bits rest : List ℕ) : Type 0 where
  pub are : AreAt place fields bits
  pub rest_is : rest ≡ drop (place + width_of fields) bits
  pub within : place + (width_of fields + length rest) ≡ length bits

-- where bits are those of fields and a rest, the fields have the values that stand at their places
pub at_places : (fields : List Field) (place : ℕ) (bits rest : List ℕ) → place ≤ length bits → HoldValues fields → drop place bits ≡ bits_of_fields fields ++ rest → Behind fields place bits rest
at_places [] place bits rest within hold same =
    let here : place ≡ place + 0 = omega arith in
    record { are = tt; rest_is = sym same ∙ ap (λ n. drop n bits) here; within = omega (arith, ap length same, length-drop place bits) }
at_places (f ∷ fields) place bits rest within hold same =
    let widths = width_of-cons f fields in
    let whole : drop place bits ≡ bits_of f.width f.value ++ (bits_of_fields fields ++ rest) = same ∙ append_assoc (bits_of f.width f.value) (bits_of_fields fields) rest in
    let long = length-bits_of f.width f.value in
    let parts : length (drop place bits) ≡ f.width + length (bits_of_fields fields ++ rest) = ap length whole ∙ length-append (bits_of f.width f.value) (bits_of_fields fields ++ rest) ∙ ap (λ n. n + length (bits_of_fields fields ++ rest)) long in
    let next : drop (place + f.width) bits ≡ bits_of_fields fields ++ rest =
    sym (drop-drop f.width place bits) ∙ ap (drop f.width) whole ∙ drop_at (bits_of f.width f.value) (bits_of_fields fields ++ rest) f.width long in
    let value : f.value ≡ value_at place f.width bits =
    sym (ap (number_of f.width) whole ∙ number_of-append f.width (bits_of f.width f.value) (bits_of_fields fields ++ rest) (omega (arith, long)) ∙ number_of-bits_of f.width f.value ∙ mod-eq_of_lt hold.0) in
    let others = at_places fields (place + f.width) bits rest (omega (arith, parts, length-drop place bits)) hold.1 next in
    let places : place + f.width + width_of fields ≡ place + width_of (f ∷ fields) = omega (arith, widths) in
    record {
      are = (value, others.are);
      rest_is = others.rest_is ∙ ap (λ n. drop n bits) places;
      within = omega (arith, widths, others.within);
    }

-- a flag against the one bit that it is
flag_is : (value : ℕ) → value < 2 → cond (eqb value 1) 1 0 ≡ value
flag_is zero small = refl
flag_is (suc zero) small = refl
flag_is (suc (suc value)) small = absurd (omega arith)

-- a number at a place is below that power of two
pub at_below : (place width : ℕ) (bits : List ℕ) → AreBits bits → value_at place width bits < 2 ^ width
at_below place width bits are = number_of-below width (drop place bits) (AreBits-drop place bits are)

-- a flag at a place
pub flag_at : (place : ℕ) (bits : List ℕ) → AreBits bits → (if value_at place 1 bits == 1 then 1 else 0) ≡ value_at place 1 bits
flag_at place bits are = flag_is (value_at place 1 bits) (at_below place 1 bits are)

-- a flag from the bit that it is
pub flag_back : (flag : Bool) (value : ℕ) → (if flag then 1 else 0) ≡ value → flag ≡ (value == 1)
flag_back true value e = rw (← e)
flag_back false value e = rw (← e)
