use Rattle.std.proofs.Common.{◌≡◌, ℕ, false, get_or, arith, sym, ◌∙◌}
use Rattle.std.proofs.lemmas.Bool.{or_parts}
use Rattle.rbc_records.specs.Extents.{meet}
use Rattle.rbc_records.proofs.Passing.{one_further}
use Rattle.rbc_records.proofs.extent.Extent.meets_some.Goals as goal

pub loop-index-init : goal.loop-index-init
loop-index-init c none i from below = absurd (omega (arith, from, below))

pub loop-index-preserved : goal.loop-index-preserved
loop-index-preserved c none =
    let least = c.args.least.now in
    let most = c.args.most.now in
    let parts = or_parts c.loop-index.any c.meets-any.result none in
    one_further (λ (i : ℕ). meet c.args.self.now (get_or least i 0) (get_or most i 0) ≡ false) c.args.begin c.loop-index.index (c.loop-index.invariant parts.0) (sym c.meets-any.ensures ∙ parts.1)

pub returns : goal.returns
returns c none i from below = c.loop-index.invariant none i from (omega (arith, below, c.loop-index-test.false))
