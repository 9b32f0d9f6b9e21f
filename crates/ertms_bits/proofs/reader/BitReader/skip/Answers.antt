use Rattle.std.proofs.Common.{◌≡◌, ◌+◌, ◌*◌, ◌-◌, length, ℕ, ap, sym, ◌∙◌, arith}
use Rattle.ertms_bits.proofs.Numbers.{length-left}
use Rattle.ertms_bits.proofs.reader.BitReader.skip.Goals as goal

pub invariant_of-self : goal.invariant_of-self
invariant_of-self c =
    let place : ℕ = 8 * c.self.inside.byte + c.self.inside.taken in
    let left : length c.args.self.now ≡ 8 * length c.self.inside.bytes.now - place =
    ap length (sym c.self.view_is) ∙ length-left place c.self.inside.bytes.now in
    (omega arith, omega arith)
