use Rattle.std.proofs.Common.{◌≤◌, arith}
use Rattle.rbc_records.specs.declared.record.Key.{Key}
use Rattle.rbc_core.specs.Searches.{bound_of}
use Rattle.rbc_core.proofs.Bounding.{raised_more, true_of_named}
use Rattle.rbc_core.proofs.bounds.Bounds.raise_all.Goals as goal

pub loop-index-init : goal.loop-index-init
loop-index-init c = (λ k. omega arith, λ i entry low at. absurd (omega (arith, low)))

pub loop-index-preserved : goal.loop-index-preserved
loop-index-preserved c = (
  λ k. let first = c.loop-index.invariant.0 k in let more = c.raise.ensures.rises k in omega (arith, first, more),
  raised_more _ _ _ _ _ _ _ c.raise.ensures.rises c.loop-index.invariant.1 c.at-key.ensures.at c.raise.ensures.raised,
)

pub returns-clause-raised : goal.returns-clause-raised
returns-clause-raised c =
    true_of_named (λ (k : Key). c.args.number ≤ bound_of c.loop-index.self k) c.args.published.now (λ i entry within at. c.loop-index.invariant.1 i entry (omega (arith, within)) at)
