use Rattle.std.proofs.Common.{◌≡◌, ◌+◌, ◌*◌, ◌-◌, ◌<◌, ◌≤◌, ◌^◌, ◌/◌, ◌++◌, List, length, get_or, set, take, replicate, ℕ, arith, append-nil, append_assoc}
use Rattle.ertms_bits.specs.Bits.{bits_of, bits_of_bytes}
use Rattle.ertms_bits.proofs.Bits.{bits_of-shl, take-bits_of, take-bits_of_bytes, bits_of_bytes-take-set, bits_of_bytes-take}
use Rattle.ertms_bits.proofs.writer.BitWriter.finish.Goals as goal

-- a number whose low bits are cleared
cleared : (width kept free value : ℕ) → kept + free ≡ width → bits_of width (value / 2 ^ free * 2 ^ free) ≡ take kept (bits_of width value) ++ replicate free 0
cleared width kept free value whole =
    rw (← whole, bits_of-shl kept free (value / 2 ^ free), take-bits_of kept free value)

-- the last byte is filled up
filled : (bytes : List ℕ) (i taken last : ℕ) → i < length bytes → taken ≤ 8 → last ≡ get_or bytes i 0 / 2 ^ (8 - taken) * 2 ^ (8 - taken) → bits_of_bytes (take (i + 1) (set bytes i last)) ≡ take (8 * i + taken) (bits_of_bytes bytes) ++ replicate (8 - taken) 0
filled bytes i taken last inside within is =
    rw (bits_of_bytes-take-set bytes i last inside, is, cleared 8 taken (8 - taken) (get_or bytes i 0) (omega arith), take-bits_of_bytes bytes i taken inside within, append_assoc)

pub returns-then-self-eq0-clause-bits : goal.returns-then-self-eq0-clause-bits
returns-then-self-eq0-clause-bits c =
    let at : 8 * c.self.inside.byte ≡ c.args.self = omega (arith, c.self.view_is) in
    let none : 8 * c.self.inside.byte - c.args.self ≡ 0 = omega arith in
    rw (none, append-nil, ← at, bits_of_bytes-take)

pub returns-clause-bits : goal.returns-clause-bits
returns-clause-bits c =
    let at : 8 * c.self.inside.byte + c.self.inside.taken ≡ c.args.self = c.self.view_is in
    let left : 8 * (c.self.inside.byte + 1) - c.args.self ≡ 8 - c.self.inside.taken = omega arith in
    rw (left, ← at) (filled _ _ _ _ (omega arith) (omega arith) c.first_bits.ensures)
