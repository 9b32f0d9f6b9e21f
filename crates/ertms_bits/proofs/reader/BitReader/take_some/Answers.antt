use Rattle.std.proofs.Common.{◌≡◌, ℕ, ◌+◌, ◌*◌, ◌-◌, ◌%◌, ◌^◌, ◌<◌, ◌≤◌, ◌∙◌, List, length, take, drop, sym, ap, arith, drop-drop, length-drop, take_all, mod-eq_of_lt}
use Rattle.std.proofs.lemmas.Nat.{pow_below}
use Rattle.ertms_bits.specs.Bits.{bits_of_bytes, number_of}
use Rattle.ertms_bits.proofs.Numbers.{AreBits-drop, AreBits-bits_of_bytes, length-left, drop-bits_of_bytes, number_of-last}
use Rattle.ertms_bits.proofs.reader.BitReader.take_some.Goals as goal

-- the bytes from a place on
rest_is : (bytes : List ℕ) (byte : ℕ) → take (length bytes - byte) (drop byte bytes) ≡ drop byte bytes
rest_is bytes byte = take_all (length bytes - byte) (drop byte bytes) (rw length-drop (omega arith))

-- the bits behind a place, from the number of those from its byte on
field_is : (bytes : List ℕ) (byte taken width first : ℕ) → width ≤ 56 → first ≡ number_of (taken + width) (bits_of_bytes (take (length bytes - byte) (drop byte bytes))) → first % (1 * 2 ^ width % 2 ^ 64) ≡ number_of width (drop (8 * byte + taken) (bits_of_bytes bytes))
field_is bytes byte taken width first within is =
    let rest : List ℕ = drop byte bytes in
    let below : 2 ^ width < 2 ^ 64 = pow_below width 64 (omega arith) in
    let one : 1 * 2 ^ width ≡ 2 ^ width = omega arith in
    let mask : 1 * 2 ^ width % 2 ^ 64 ≡ 2 ^ width = rw one (mod-eq_of_lt below) in
    rw (mask, is, rest_is bytes byte, number_of-last taken width (bits_of_bytes rest) (AreBits-bits_of_bytes rest), ← drop-bits_of_bytes byte bytes, drop-drop)

pub first_bits-first-requires-clause-there : goal.first_bits-first-requires-clause-there
first_bits-first-requires-clause-there c =
    let place : ℕ = 8 * c.self.inside.byte + c.self.inside.taken in
    let left : length c.args.self.now ≡ 8 * length c.self.inside.bytes.now - place =
    ap length (sym c.self.view_is) ∙ length-left place c.self.inside.bytes.now in
    rw (rest_is c.self.inside.bytes.now c.self.inside.byte, length-drop) (omega arith)

pub invariant_of-self : goal.invariant_of-self
invariant_of-self c =
    let place : ℕ = 8 * c.self.inside.byte + c.self.inside.taken in
    let left : length c.args.self.now ≡ 8 * length c.self.inside.bytes.now - place =
    ap length (sym c.self.view_is) ∙ length-left place c.self.inside.bytes.now in
    (omega arith, omega arith)

pub returns-clause-value : goal.returns-clause-value
returns-clause-value c =
    rw (← c.self.view_is)
    (field_is c.self.inside.bytes.now c.self.inside.byte c.self.inside.taken c.args.width c.first_bits-first.result (omega arith) c.first_bits-first.ensures)

pub returns-clause-bits : goal.returns-clause-bits
returns-clause-bits c =
    let place : ℕ = 8 * c.self.inside.byte + c.self.inside.taken in
    let bytes = c.self.inside.bytes.now in
    rw (← c.self.view_is) (AreBits-drop place (bits_of_bytes bytes) (AreBits-bits_of_bytes bytes))
