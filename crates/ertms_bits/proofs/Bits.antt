-- Lemmas on the bits of numbers and of bytes.
use Rattle.std.proofs.Common.{◌≡◌, ℕ, zero, suc, ◌+◌, ◌-◌, ◌*◌, ◌/◌, ◌%◌, ◌^◌, ◌<◌, ◌≤◌, List, [], ◌∷◌, ◌++◌, length, get_or, take, drop, set, replicate, refl, sym, ap, ◌∙◌, arith, add-zero, suc-add, zero-add, add_comm, shr-shr, append_assoc, append-nil, take_at, take_all, take-add, drop_at, drop-drop, length-append, pow_pos}
use Rattle.std.proofs.lemmas.List.{take-append-le, take_more_set}
use Rattle.std.proofs.lemmas.List.Concat.{flat_map-append}
use Rattle.std.proofs.lemmas.Nat.Bits.{bit_at-zero, bit_at_cat_low}
use Rattle.std.proofs.lemmas.Nat.{shl-shr, shr_high, shr_split, shl_below, mod_below}
use Rattle.ertms_bits.specs.Bits.{bits_of, bits_of_bytes}

-- a number has as many bits as the width says
pub length-bits_of : (width value : ℕ) → length (bits_of width value) ≡ width
unfolding bits_of
length-bits_of zero value = refl
length-bits_of (suc width) value = ap suc (length-bits_of width value)

-- the bits of a number in two parts
pub bits_of-add : (high low value : ℕ) → bits_of (high + low) value ≡ bits_of high (value / 2 ^ low) ++ bits_of low value
unfolding bits_of
bits_of-add zero low value = rw zero-add
bits_of-add (suc high) low value =
    rw (suc-add, bits_of-add high low value, shr-shr value low high, add_comm low high)

-- only the low bits of a number count
pub bits_of-cat_low : (width a k b : ℕ) → width ≤ k → bits_of width (a * 2 ^ k + b) ≡ bits_of width b
unfolding bits_of
bits_of-cat_low zero a k b h = refl
bits_of-cat_low (suc width) a k b h =
    rw (bit_at_cat_low a k b width (omega arith), bits_of-cat_low width a k b (omega arith))

-- the bits of 0 are 0
pub bits_of-zero : (width : ℕ) → bits_of width 0 ≡ replicate width 0
unfolding bits_of
bits_of-zero zero = refl
bits_of-zero (suc width) = rw (bit_at-zero width, bits_of-zero width)

-- a number that ends in zeros
pub bits_of-shl : (high low value : ℕ) → bits_of (high + low) (value * 2 ^ low) ≡ bits_of high value ++ replicate low 0
bits_of-shl high low value =
    let zeros : bits_of low (value * 2 ^ low + 0) ≡ replicate low 0 = bits_of-cat_low low value low 0 (omega arith) ∙ bits_of-zero low in
    rw (bits_of-add high low (value * 2 ^ low), shl-shr value low, ← zeros, add-zero)

-- what stands above the width does not count
pub bits_of-mod : (width value : ℕ) → bits_of width (value % 2 ^ width) ≡ bits_of width value
bits_of-mod width value =
    sym (bits_of-cat_low width (value / 2 ^ width) width (value % 2 ^ width) (omega arith))
    ∙ ap (bits_of width) (shr_split value width)

-- the first bits of a number
pub take-bits_of : (high low value : ℕ) → take high (bits_of (high + low) value) ≡ bits_of high (value / 2 ^ low)
take-bits_of high low value =
    rw (bits_of-add high low value) (take_at (bits_of high (value / 2 ^ low)) (bits_of low value) high (length-bits_of high _))

-- the last bits of a number
pub drop-bits_of : (high low value : ℕ) → drop high (bits_of (high + low) value) ≡ bits_of low value
drop-bits_of high low value =
    rw (bits_of-add high low value) (drop_at (bits_of high (value / 2 ^ low)) (bits_of low value) high (length-bits_of high _))

-- a number made of another's bits, some bits of a third, and zeros
pub bits_of_joined : (width taken free count low high field : ℕ) → taken + free ≡ width → count + low ≡ free → bits_of width (high * 2 ^ free + field % 2 ^ count * 2 ^ low) ≡ bits_of taken high ++ (bits_of count field ++ replicate low 0)
bits_of_joined width taken free count low high field whole parts =
    let shifted : ℕ = field % 2 ^ count * 2 ^ low in
    let fits : shifted < 2 ^ free = rw (← parts) (shl_below (field % 2 ^ count) count low (mod_below field (2 ^ count) (pow_pos count))) in
    let behind : bits_of free shifted ≡ bits_of count field ++ replicate low 0 =
    rw (← parts, bits_of-shl count low (field % 2 ^ count), bits_of-mod count field) in
    rw (← whole, bits_of-add taken free (high * 2 ^ free + shifted), shr_high high free shifted fits, bits_of-cat_low free high free shifted (omega arith), behind)

-- a byte has eight bits
pub length-bits_of_bytes : (bytes : List ℕ) → length (bits_of_bytes bytes) ≡ 8 * length bytes
length-bits_of_bytes [] = refl
length-bits_of_bytes (byte ∷ bytes) =
    rw (length-append, length-bits_of 8 byte, length-bits_of_bytes bytes) (omega arith)

-- the bits up to a place between two bytes
pub bits_of_bytes-take : (bytes : List ℕ) (i : ℕ) → bits_of_bytes (take i bytes) ≡ take (8 * i) (bits_of_bytes bytes)
bits_of_bytes-take bytes zero = refl
bits_of_bytes-take [] (suc i) = sym (take_all (8 * suc i) [] (omega arith))
bits_of_bytes-take (byte ∷ bytes) (suc i) =
    let step : 8 * suc i ≡ 8 + 8 * i = omega arith in
    rw (step, take-add 8 (8 * i), take_at (bits_of 8 byte) (bits_of_bytes bytes) 8 (length-bits_of 8 byte), drop_at (bits_of 8 byte) (bits_of_bytes bytes) 8 (length-bits_of 8 byte), bits_of_bytes-take bytes i)

-- the bits up to a place within a byte
pub take-bits_of_bytes : (bytes : List ℕ) (i taken : ℕ) → i < length bytes → taken ≤ 8 → take (8 * i + taken) (bits_of_bytes bytes) ≡ bits_of_bytes (take i bytes) ++ take taken (bits_of 8 (get_or bytes i 0))
take-bits_of_bytes [] i taken inside within = absurd (omega arith)
take-bits_of_bytes (byte ∷ bytes) zero taken inside within =
    rw (zero-add) (take-append-le taken (bits_of 8 byte) (bits_of_bytes bytes) (rw (length-bits_of 8 byte) within))
take-bits_of_bytes (byte ∷ bytes) (suc i) taken inside within =
    let step : 8 * suc i + taken ≡ 8 + (8 * i + taken) = omega arith in
    rw (step, take-add 8 (8 * i + taken), take_at (bits_of 8 byte) (bits_of_bytes bytes) 8 (length-bits_of 8 byte), drop_at (bits_of 8 byte) (bits_of_bytes bytes) 8 (length-bits_of 8 byte), take-bits_of_bytes bytes i taken (omega arith) within, append_assoc)

-- a byte is written at a place, and the bits up to its end
pub bits_of_bytes-take-set : (bytes : List ℕ) (i byte : ℕ) → i < length bytes → bits_of_bytes (take (i + 1) (set bytes i byte)) ≡ bits_of_bytes (take i bytes) ++ bits_of 8 byte
bits_of_bytes-take-set bytes i byte inside =
    rw (take_more_set bytes i byte inside, flat_map-append, append-nil)

-- some more of a number's bits, from the first on
pub bits_of_more : (width rest left value : ℕ) → rest ≤ width → left ≤ rest → bits_of (width - left) (value / 2 ^ left) ≡ bits_of (width - rest) (value / 2 ^ rest) ++ bits_of (rest - left) (value / 2 ^ left)
bits_of_more width rest left value within less =
    let whole : width - left ≡ (width - rest) + (rest - left) = omega arith in
    let shift : left + (rest - left) ≡ rest = omega arith in
    rw (whole, bits_of-add (width - rest) (rest - left) (value / 2 ^ left), shr-shr value left (rest - left), shift)

-- lists that are the same behind a place are the same behind a later one
pub drop_same : (n later : ℕ) (xs ys : List ℕ) → n ≤ later → drop n xs ≡ drop n ys → drop later xs ≡ drop later ys
drop_same n later xs ys le same =
    let whole : later ≡ n + (later - n) = omega arith in
    ap (λ k. drop k xs) whole ∙ sym (drop-drop (later - n) n xs) ∙ ap (drop (later - n)) same ∙ drop-drop (later - n) n ys ∙ ap (λ k. drop k ys) (sym whole)
