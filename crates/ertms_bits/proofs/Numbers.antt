-- Lemmas on the numbers that bits stand for.
use Rattle.std.proofs.Common.{◌≡◌, ℕ, zero, suc, ◌+◌, ◌-◌, ◌*◌, ◌/◌, ◌%◌, ◌^◌, ◌<◌, ◌≤◌, List, [], ◌∷◌, ◌++◌, length, get_or, drop, bit_or, refl, sym, ap, ◌∙◌, arith, zero-mul, zero-add, suc-add, mul_assoc, pow-add, pow_pos, pow_mono, drop_at, drop-drop, length-drop, mod-eq_of_lt}
use Rattle.std.proofs.lemmas.List.{drop_more}
use Rattle.std.proofs.Math.Seq.{drop-nil}
use Rattle.std.proofs.lemmas.Nat.{mod_low, shr_high, shl_below, or_shifted}
use Rattle.std.proofs.lemmas.Nat.Bits.{bit_at-lt}
use Rattle.ertms_bits.specs.Bits.{bits_of, bits_of_bytes, number_of, AreBits}
use Rattle.ertms_bits.proofs.Bits.{length-bits_of, length-bits_of_bytes}
use Rattle.ertms_bits.proofs.Bytes.{number_of-bits_of, number_of-append}

AreBits-append : (bits more : List ℕ) → AreBits bits → AreBits more → AreBits (bits ++ more)
AreBits-append [] more are rest = rest
AreBits-append (bit ∷ bits) more are rest = (are.0, AreBits-append bits more are.1 rest)

pub AreBits-drop : (n : ℕ) (bits : List ℕ) → AreBits bits → AreBits (drop n bits)
AreBits-drop zero bits are = are
AreBits-drop (suc n) [] are = tt
AreBits-drop (suc n) (bit ∷ bits) are = AreBits-drop n bits are.1

AreBits-bits_of : (width value : ℕ) → AreBits (bits_of width value)
unfolding bits_of
AreBits-bits_of zero value = tt
AreBits-bits_of (suc width) value = (bit_at-lt value width, AreBits-bits_of width value)

pub AreBits-bits_of_bytes : (bytes : List ℕ) → AreBits (bits_of_bytes bytes)
AreBits-bits_of_bytes [] = tt
AreBits-bits_of_bytes (byte ∷ bytes) =
    AreBits-append (bits_of 8 byte) (bits_of_bytes bytes) (AreBits-bits_of 8 byte) (AreBits-bits_of_bytes bytes)

-- a bit above a number
with_bit : (bit number width : ℕ) → bit < 2 → number < 2 ^ width → bit * 2 ^ width + number < 2 ^ suc width
with_bit bit number width small below =
    let power : 2 ^ suc width ≡ 2 * 2 ^ width = omega arith in
    elim bit as (λ b. b < 2 → b * 2 ^ width + number < 2 ^ suc width) [ zero ↦ λ h. omega arith | suc b ↦ λ h. let none : b ≡ 0 = omega arith in rw none (omega arith) ] small

-- so many bits stand for a number below that power of two
pub number_of-below : (width : ℕ) (bits : List ℕ) → AreBits bits → number_of width bits < 2 ^ width
unfolding number_of
number_of-below zero bits are = omega arith
number_of-below (suc width) [] are = pow_pos (suc width)
number_of-below (suc width) (bit ∷ bits) are = with_bit bit (number_of width bits) width are.0 (number_of-below width bits are.1)

-- no bits stand for 0
number_of-nil : (width : ℕ) → number_of width [] ≡ 0
unfolding number_of
number_of-nil zero = refl
number_of-nil (suc width) = refl

-- the number of some bits in two parts
pub number_of-add : (high low : ℕ) (bits : List ℕ) → number_of (high + low) bits ≡ number_of high bits * 2 ^ low + number_of low (drop high bits)
unfolding number_of
number_of-add zero low bits = rw (zero-add, zero-mul, zero-add)
number_of-add (suc high) low [] = rw (suc-add, zero-mul, zero-add) (sym (number_of-nil low))
number_of-add (suc high) low (bit ∷ bits) =
    let power : 2 ^ (high + low) ≡ 2 ^ high * 2 ^ low = pow-add 2 high low in
    rw (suc-add, number_of-add high low bits, power, ← mul_assoc bit (2 ^ high) (2 ^ low)) (omega arith)

-- the first bits of those that a number stands for
pub number_of-first : (first rest : ℕ) (bits : List ℕ) → AreBits bits → number_of (first + rest) bits / 2 ^ rest ≡ number_of first bits
number_of-first first rest bits are =
    rw (number_of-add first rest bits) (shr_high (number_of first bits) rest _ (number_of-below rest (drop first bits) (AreBits-drop first bits are)))

-- the last bits of those that a number stands for
pub number_of-last : (first rest : ℕ) (bits : List ℕ) → AreBits bits → number_of (first + rest) bits % 2 ^ rest ≡ number_of rest (drop first bits)
number_of-last first rest bits are =
    rw (number_of-add first rest bits) (mod_low (number_of first bits) rest _ (number_of-below rest (drop first bits) (AreBits-drop first bits are)))

-- the bits behind a place between two bytes
pub drop-bits_of_bytes : (i : ℕ) (bytes : List ℕ) → drop (8 * i) (bits_of_bytes bytes) ≡ bits_of_bytes (drop i bytes)
drop-bits_of_bytes zero bytes = refl
drop-bits_of_bytes (suc i) [] = drop-nil (8 * suc i)
drop-bits_of_bytes (suc i) (byte ∷ bytes) =
    let step : 8 * suc i ≡ 8 + 8 * i = omega arith in
    rw (step, ← drop-drop (8 * i) 8 (bits_of_bytes (byte ∷ bytes)), drop_at (bits_of 8 byte) (bits_of_bytes bytes) 8 (length-bits_of 8 byte), drop-bits_of_bytes i bytes)

-- how many bits are left behind a place
pub length-left : (place : ℕ) (bytes : List ℕ) → length (drop place (bits_of_bytes bytes)) ≡ 8 * length bytes - place
length-left place bytes = rw (length-drop, length-bits_of_bytes)

-- the bits at the place of a byte stand for it
number_of_byte : (i : ℕ) (bytes : List ℕ) → i < length bytes → get_or bytes i 0 < 256 → number_of 8 (drop (8 * i) (bits_of_bytes bytes)) ≡ get_or bytes i 0
number_of_byte i bytes inside small =
    let byte : ℕ = get_or bytes i 0 in
    let long : length (bits_of 8 byte) ≡ 8 = length-bits_of 8 byte in
    rw (drop-bits_of_bytes i bytes, drop_more bytes i 0 inside, number_of-append 8 (bits_of 8 byte) (bits_of_bytes (drop (i + 1) bytes)) (omega arith), number_of-bits_of 8 byte) (mod-eq_of_lt small)

-- a number with another behind it, in 64 bits
pub joined : (high low width by : ℕ) → high < 2 ^ width → low < 2 ^ by → width + by ≤ 64 → bit_or (high * 2 ^ by % 2 ^ 64) low ≡ high * 2 ^ by + low
joined high low width by small below within =
    let shifted : high * 2 ^ by < 2 ^ (width + by) = shl_below high width by small in
    let power : 2 ^ (width + by) ≤ 2 ^ 64 = pow_mono within in
    let same : high * 2 ^ by % 2 ^ 64 ≡ high * 2 ^ by = mod-eq_of_lt (omega arith) in
    ap (λ n. bit_or n low) same ∙ or_shifted high by low below

-- the first bits of a window
pub number_of-window : (total width window : ℕ) (bits : List ℕ) → AreBits bits → width ≤ total → window ≡ number_of total bits → window / 2 ^ (total - width) ≡ number_of width bits
number_of-window total width window bits are within is =
    let whole : width + (total - width) ≡ total = omega arith in
    let same : window ≡ number_of (width + (total - width)) bits = is ∙ ap (λ n. number_of n bits) (sym whole) in
    rw same (number_of-first width (total - width) bits are)

-- the bits of one byte more
pub number_of-byte_more : (i : ℕ) (bytes : List ℕ) → i < length bytes → get_or bytes i 0 < 256 → number_of (8 * (i + 1)) (bits_of_bytes bytes) ≡ number_of (8 * i) (bits_of_bytes bytes) * 2 ^ 8 + get_or bytes i 0
number_of-byte_more i bytes inside small =
    let step : 8 * (i + 1) ≡ 8 * i + 8 = omega arith in
    rw (step, number_of-add (8 * i) 8 (bits_of_bytes bytes), number_of_byte i bytes inside small)

-- one byte more is read
pub number_of-more : (i : ℕ) (bytes : List ℕ) → i < length bytes → i < 8 → get_or bytes i 0 < 256 → bit_or (number_of (8 * i) (bits_of_bytes bytes) * 2 ^ 8 % 2 ^ 64) (get_or bytes i 0) ≡ number_of (8 * (i + 1)) (bits_of_bytes bytes)
number_of-more i bytes inside within small =
    joined (number_of (8 * i) (bits_of_bytes bytes)) (get_or bytes i 0) (8 * i) 8 (number_of-below (8 * i) _ (AreBits-bits_of_bytes bytes)) small (omega arith)
    ∙ sym (number_of-byte_more i bytes inside small)
