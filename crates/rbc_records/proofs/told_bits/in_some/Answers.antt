use Rattle.std.proofs.Common.{◌≡◌, ℕ, false, get_or, arith, sym, ◌∙◌}
use Rattle.rbc_records.specs.ToldBits.{has_bit}
use Rattle.rbc_records.proofs.Bits.{in_neither}
use Rattle.rbc_records.proofs.Passing.{one_further}
use Rattle.rbc_records.proofs.told_bits.in_some.Goals as goal

pub loop-index-init : goal.loop-index-init
loop-index-init c none i from below = absurd (omega (arith, from, below))

pub loop-index-preserved : goal.loop-index-preserved
loop-index-preserved c none =
    let words = c.args.words.now in
    let number = c.args.number in
    let parts = in_neither number c.loop-index.all (get_or words c.loop-index.index 0) none in
    one_further (λ (i : ℕ). has_bit (get_or words i 0) number ≡ false) c.args.begin c.loop-index.index (c.loop-index.invariant parts.0) parts.1

pub returns : goal.returns
returns c none i from below = c.loop-index.invariant (sym c.has_bit.ensures ∙ none) i from (omega (arith, below, c.loop-index-test.false))
