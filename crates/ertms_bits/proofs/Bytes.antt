-- Bytes against the bits that they are made of.
use Rattle.std.proofs.Common.{◌≡◌, ℕ, zero, suc, ◌+◌, ◌-◌, ◌*◌, ◌%◌, ◌^◌, ◌<◌, ◌≤◌, List, [], ◌∷◌, ◌++◌, length, get_or, drop, replicate, refl, sym, ap, ◌∙◌, arith, zero-mul, one-add, drop_at, mod-eq_of_lt}
use Rattle.std.proofs.lemmas.List.{drop-replicate}
use Rattle.std.proofs.lemmas.Nat.{mod-pow-add}
use Rattle.ertms_bits.specs.Bits.{bits_of, bits_of_bytes, number_of, bytes_of}
use Rattle.ertms_bits.proofs.Bits.{length-bits_of}

-- the bits of a number stand for what the width holds of it
pub number_of-bits_of : (width value : ℕ) → number_of width (bits_of width value) ≡ value % 2 ^ width
unfolding number_of bits_of
number_of-bits_of zero value = omega arith
number_of-bits_of (suc width) value =
    rw (number_of-bits_of width value, ← one-add width, mod-pow-add value 1 width)

-- bits behind the width do not count
pub number_of-append : (width : ℕ) (bits more : List ℕ) → width ≤ length bits → number_of width (bits ++ more) ≡ number_of width bits
unfolding number_of
number_of-append zero bits more enough = refl
number_of-append (suc width) [] more enough = absurd (omega arith)
number_of-append (suc width) (bit ∷ bits) more enough =
    ap (λ n. bit * 2 ^ width + n) (number_of-append width bits more (omega arith))

-- zeros stand for 0
number_of-replicate : (width count : ℕ) → number_of width (replicate count 0) ≡ 0
unfolding number_of
number_of-replicate zero count = refl
number_of-replicate (suc width) zero = refl
number_of-replicate (suc width) (suc count) = rw (number_of-replicate width count, zero-mul)

-- zeros behind bits change nothing
number_of-padded : (width : ℕ) (bits : List ℕ) (count : ℕ) → number_of width (bits ++ replicate count 0) ≡ number_of width bits
unfolding number_of
number_of-padded zero bits count = refl
number_of-padded (suc width) [] count = number_of-replicate (suc width) count
number_of-padded (suc width) (bit ∷ bits) count = ap (λ n. bit * 2 ^ width + n) (number_of-padded width bits count)

-- so many bits fewer, with zeros behind them
drop-padded : (n : ℕ) (bits : List ℕ) (count : ℕ) → drop n (bits ++ replicate count 0) ≡ drop n bits ++ replicate (count - (n - length bits)) 0
drop-padded zero bits count =
    let all : count - (0 - length bits) ≡ count = omega arith in rw all
drop-padded (suc n) [] count =
    let fewer : count - (suc n - 0) ≡ count - suc n = omega arith in rw fewer (drop-replicate (suc n) count 0)
drop-padded (suc n) (bit ∷ bits) count =
    let same : count - (suc n - suc (length bits)) ≡ count - (n - length bits) = omega arith in
    rw same (drop-padded n bits count)

-- bytes made of bits do not see zeros behind them
pub bytes_of-padded : (length : ℕ) (bits : List ℕ) (count : ℕ) → bytes_of length (bits ++ replicate count 0) ≡ bytes_of length bits
unfolding bytes_of
bytes_of-padded zero bits count = refl
bytes_of-padded (suc length) bits count =
    rw (number_of-padded 8 bits count, drop-padded 8 bits count, bytes_of-padded length (drop 8 bits) _)

-- bytes are made of their bits
pub bytes_of-bits_of_bytes : (bytes : List ℕ) → ((i : ℕ) → i < length bytes → get_or bytes i 0 < 256) → bytes_of (length bytes) (bits_of_bytes bytes) ≡ bytes
unfolding bytes_of
bytes_of-bits_of_bytes [] small = refl
bytes_of-bits_of_bytes (byte ∷ bytes) small =
    let long : length (bits_of 8 byte) ≡ 8 = length-bits_of 8 byte in
    let fits : byte % 2 ^ 8 ≡ byte = mod-eq_of_lt (small 0 (omega arith)) in
    rw (number_of-append 8 (bits_of 8 byte) (bits_of_bytes bytes) (omega arith), number_of-bits_of 8 byte, fits, drop_at (bits_of 8 byte) (bits_of_bytes bytes) 8 long, bytes_of-bits_of_bytes bytes (λ i inside. small (suc i) (omega arith)))

-- bytes whose bits are known, but for zeros at their end
pub bytes_from_bits : (bytes bits : List ℕ) (count : ℕ) → ((i : ℕ) → i < length bytes → get_or bytes i 0 < 256) → bits_of_bytes bytes ≡ bits ++ replicate count 0 → bytes ≡ bytes_of (length bytes) bits
bytes_from_bits bytes bits count small is =
    sym (bytes_of-bits_of_bytes bytes small) ∙ ap (bytes_of (length bytes)) is ∙ bytes_of-padded (length bytes) bits count
