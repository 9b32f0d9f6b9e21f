-- The table of digits, and the steps of the loop over pairs of digits.
use Rattle.std.proofs.Common.{◌≡◌, ℕ, ◌+◌, ◌*◌, ◌%◌, ◌<◌, ◌≤◌, true, List, length, take, drop, map, get_or, slice_index, slice_set, bit_and, bit_or, Option, Some, None, is_some, unwrap_or, Ok, refl, sym, ap, ◌∙◌, arith}
use Rattle.std.proofs.lemmas.Grind.{and_numeral, or_after_shift}
use Rattle.std.proofs.lemmas.List.Elements.{All-get_or}
use Rattle.std.proofs.lemmas.List.FromFn.{get_or-map-range_with_len}
use Rattle.std.proofs.lemmas.Nat.{le_or_l, le_or_r, or_lt}
use Rattle.std.specs.List.{AllPass, range_with_len}
use Rattle.hex.specs.Hex.{decode_of, decode_pairs, digit_or_error, hex_digit_value, is_hex_digit, pair_value, value_at}
use Rattle.hex.proofs.HexLemmas.{decode_of-even}
use Rattle.hex.proofs.Pairs.{decode_done, decode_step, prepend}
use Rattle.rbc_text.specs.declared.digits.TheConstants.{VALUES}

-- the value of a digit, and 256 for any other byte
abbrev pub value_or_256 : ℕ → ℕ
value_or_256 c = unwrap_or (hex_digit_value c) 256

-- the byte of two values, and 256 or more if one of them is 256
abbrev pub pair_of : ℕ → ℕ → ℕ
pair_of high low = bit_or (high * 16 % 65536) low

-- the table has the value of each byte
values_are : VALUES ≡ map value_or_256 (range_with_len 0 256)
values_are = refl

-- what the table says of one byte
pub value_in_table : (c : ℕ) → c < 256 → get_or VALUES c 0 ≡ value_or_256 c
value_in_table c below =
    ap (λ table. get_or table c 0) values_are
    ∙ get_or-map-range_with_len value_or_256 0 256 c c 0 below (omega arith)

-- a digit has a value below 16
small_if_digit : (c : ℕ) → is_hex_digit c ≡ true → value_or_256 c < 16
small_if_digit c digit = grind (arith)

-- no value is above 256
at_most_256 : (c : ℕ) → value_or_256 c ≤ 256
at_most_256 c = grind (arith)

-- a value below 256 is that of a digit
some_if_below : (o : Option ℕ) → unwrap_or o 256 < 256 → (is_some o ≡ true) × (o ≡ Some (unwrap_or o 256))
some_if_below (Some v) below = (refl, refl)
some_if_below None below = absurd (omega arith)

-- a byte with a value below 256 reads as that value
read_if_below : (c i v : ℕ) → v ≡ value_or_256 c → v < 256 → (value_at c i ≡ Ok v) × (v < 16)
read_if_below c i v is below =
    let found = some_if_below (hex_digit_value c) (omega arith) in
    let small = small_if_digit c found.0 in
    (ap (digit_or_error c i) (found.1 ∙ ap Some (sym is)), omega arith)

-- two bytes read as one, if their pair is below 256
pair_if_below : (a b i high low : ℕ) → high ≡ value_or_256 a → low ≡ value_or_256 b → pair_of high low < 256
    → pair_value a b i ≡ Ok (bit_and (pair_of high low) 255)
pair_if_below a b i high low high_is low_is below =
    let high_le = le_or_l (high * 16 % 65536) low in
    let low_le = le_or_r (high * 16 % 65536) low in
    let bound = at_most_256 a in
    let first = read_if_below a i high high_is (omega arith) in
    let second = read_if_below b (i + 1) low low_is (omega arith) in
    let sum = or_after_shift high 16 65536 low refl (omega (arith, second.1)) (omega (arith, first.1)) in
    let mask = and_numeral (pair_of high low) 254 refl in
    let byte : bit_and (pair_of high low) 255 ≡ high * 16 + low = omega arith in
    rw (first.0, second.0, byte) refl

-- the first i bytes are decoded
abbrev pub AreDecoded : List ℕ → List ℕ → ℕ → Type 0
AreDecoded s out i = decode_pairs 0 s ≡ prepend (take i out) (decode_pairs (2 * i) (drop (2 * i) s))

-- one byte more is decoded, if all pairs so far are below 256
pub one_more_decoded : (s out : List ℕ) (i all high low : ℕ) → 2 * i + 1 < length s → i < length out
    → high ≡ value_or_256 (slice_index s (2 * i)) → low ≡ value_or_256 (slice_index s (2 * i + 1))
    → (all < 256 → AreDecoded s out i) → bit_or all (pair_of high low) < 256
    → AreDecoded s (slice_set out i (bit_and (pair_of high low) 255)) (i + 1)
one_more_decoded s out i all high low fits room high_is low_is before below =
    let all_le = le_or_l all (pair_of high low) in
    let pair_le = le_or_r all (pair_of high low) in
    let pair = pair_if_below (slice_index s (2 * i)) (slice_index s (2 * i + 1)) (2 * i) high low high_is low_is (omega arith) in
    decode_step s out i _ fits room pair (before (omega arith))

-- the pair of two digits is below 256
below_if_digits : (a b high low : ℕ) → high ≡ value_or_256 a → low ≡ value_or_256 b → is_hex_digit a ≡ true
    → is_hex_digit b ≡ true → pair_of high low < 256
below_if_digits a b high low high_is low_is first second =
    let high_small = small_if_digit a first in
    let low_small = small_if_digit b second in
    or_lt 8 (high * 16 % 65536) low (omega arith) (omega arith)

-- one pair more of digits is below 256
pub one_more_below : (s : List ℕ) (i all high low : ℕ) → 2 * i + 1 < length s
    → high ≡ value_or_256 (slice_index s (2 * i)) → low ≡ value_or_256 (slice_index s (2 * i + 1))
    → (AllPass is_hex_digit s → all < 256) → AllPass is_hex_digit s → bit_or all (pair_of high low) < 256
one_more_below s i all high low fits high_is low_is before digits =
    let digit_at = λ (k : ℕ) (below : k < length s). All-get_or (λ c. is_hex_digit c ≡ true) s k 0 below digits in
    let pair = below_if_digits (slice_index s (2 * i)) (slice_index s (2 * i + 1)) high low high_is low_is
    (digit_at (2 * i) (omega arith)) (digit_at (2 * i + 1) fits) in
    or_lt 8 all (pair_of high low) (before digits) pair

-- all bytes are decoded
pub all_decoded : (s out : List ℕ) (i : ℕ) → length out ≤ i → length s ≡ 2 * length out → AreDecoded s out i
    → decode_of s ≡ Ok out
all_decoded s out i end twice decoded =
    decode_of-even s (omega arith) ∙ decode_done s out i end (omega arith) decoded
