use Rattle.std.proofs.Common.{◌≡◌, ℕ, ◌+◌, ◌-◌, ◌*◌, ◌/◌, ◌%◌, ◌^◌, ◌<◌, ◌≤◌, ◌++◌, ◌∙◌, sym, ap, subst, arith, take, replicate, bit_or, pow-add, pow_pos, mod-eq_of_lt, div-mul-le_self, mul_assoc, add-zero}
use Rattle.std.proofs.lemmas.Nat.{or_shifted, shl_below, mod_below, mod-pow-add, mod_low, shl-shr}
use Rattle.ertms_bits.specs.Bits.{bits_of}
use Rattle.ertms_bits.proofs.Bits.{bits_of_joined, take-bits_of}
use Rattle.ertms_bits.proofs.writer.window_of.Goals as goal

-- what stands above the top bit is lost in a shift to the left
shl-mod : (field count room : ℕ) → field * 2 ^ room % 2 ^ (count + room) ≡ field % 2 ^ count * 2 ^ room
shl-mod field count room =
    let none : field * 2 ^ room % 2 ^ room ≡ 0 = rw add-zero at (mod_low field room 0 (pow_pos room)) in
    rw (mod-pow-add (field * 2 ^ room) count room, shl-shr field room, none, add-zero)

-- a field at the top of a number, moved down behind the bits that are taken
field_is : (taken field count low : ℕ) → taken + (count + low) ≡ 64 → field * 2 ^ (64 - count) % 2 ^ 64 / 2 ^ taken ≡ field % 2 ^ count * 2 ^ low
field_is taken field count low whole =
    let room : 64 - count ≡ low + taken = omega arith in
    let width : 64 ≡ count + (low + taken) = omega arith in
    ap (λ n. field * 2 ^ n % 2 ^ 64 / 2 ^ taken) room
    ∙ ap (λ n. field * 2 ^ (low + taken) % 2 ^ n / 2 ^ taken) width
    ∙ rw (shl-mod field count (low + taken), pow-add 2 low taken, ← mul_assoc (field % 2 ^ count) (2 ^ low) (2 ^ taken), shl-shr)

-- the bits that are kept, at the top of a number
kept_is : (byte taken free : ℕ) → byte < 2 ^ 8 → taken ≤ 8 → taken + free ≡ 64 → byte / 2 ^ (8 - taken) * 2 ^ (8 - taken) * 2 ^ 56 % 2 ^ 64 ≡ byte / 2 ^ (8 - taken) * 2 ^ free
kept_is byte taken free small within whole =
    let high : ℕ = byte / 2 ^ (8 - taken) in
    let kept_le : high * 2 ^ (8 - taken) ≤ byte = div-mul-le_self byte (2 ^ (8 - taken)) in
    let exact : high * 2 ^ (8 - taken) * 2 ^ 56 % 2 ^ 64 ≡ high * 2 ^ (8 - taken) * 2 ^ 56 = mod-eq_of_lt (omega arith) in
    let power : 2 ^ (8 - taken) * 2 ^ 56 ≡ 2 ^ free = sym (pow-add 2 (8 - taken) 56) ∙ ap (λ n. 2 ^ n) (omega arith) in
    exact ∙ mul_assoc high (2 ^ (8 - taken)) (2 ^ 56) ∙ ap (λ n. high * n) power

-- the two have no bit in common
window_is : (byte taken field count : ℕ) → byte < 2 ^ 8 → taken ≤ 8 → taken + count ≤ 64 → bits_of 64 (bit_or (byte / 2 ^ (8 - taken) * 2 ^ (8 - taken) * 2 ^ 56 % 2 ^ 64) (field * 2 ^ (64 - count) % 2 ^ 64 / 2 ^ taken)) ≡ take taken (bits_of 8 byte) ++ (bits_of count field ++ replicate (64 - (taken + count)) 0)
window_is byte taken field count small within room =
    let low : ℕ = 64 - (taken + count) in
    let free : ℕ = count + low in
    let whole : taken + free ≡ 64 = omega arith in
    let eight : taken + (8 - taken) ≡ 8 = omega arith in
    let fits : field % 2 ^ count * 2 ^ low < 2 ^ free = shl_below (field % 2 ^ count) count low (mod_below field (2 ^ count) (pow_pos count)) in
    let first : take taken (bits_of 8 byte) ≡ bits_of taken (byte / 2 ^ (8 - taken)) =
    subst (λ n. take taken (bits_of n byte) ≡ bits_of taken (byte / 2 ^ (8 - taken))) eight (take-bits_of taken (8 - taken) byte) in
    rw (kept_is byte taken free small within whole, field_is taken field count low whole, or_shifted (byte / 2 ^ (8 - taken)) free _ fits, first)
    (bits_of_joined 64 taken free count low (byte / 2 ^ (8 - taken)) field whole (omega arith))

pub returns : goal.returns
returns c =
    rw (c.from-kept.ensures, c.first_bits.ensures)
    (window_is c.args.byte c.args.taken c.args.field c.args.count c.ranges.byte.fits (omega arith) (omega arith))
