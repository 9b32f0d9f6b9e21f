use Rattle.std.proofs.Common.{◌-◌, length, refl, sym, ◌∙◌, arith}
use Rattle.std.proofs.lemmas.Option.{slice_get_read}
use Rattle.rbc_core.proofs.Searching.{none_at_last, none_below, none_more, latest_here}
use Rattle.rbc_core.proofs.book.forwarded.Goals as goal

pub loop-at-init : goal.loop-at-init
loop-at-init g c = (omega arith, none_at_last c.args.stages.now.items c.args.last c.args.key)

pub loop-at-preserved : goal.loop-at-preserved
loop-at-preserved g c =
    let stages = c.args.stages.now.items in (
      omega arith,
      none_more stages c.loop-at.at c.args.last c.args.key c.index.result.now (omega arith) (slice_get_read stages (length stages) (c.loop-at.at - 1) c.index.result.now refl (omega arith) c.index.ensures)
          (sym c.put_by.ensures ∙ c.in_default.is) c.loop-at.invariant.1,
    )

pub returns-in-Some-clause-some : goal.returns-in-Some-clause-some
returns-in-Some-clause-some g c =
    let stages = c.args.stages.now.items in
    latest_here stages c.args.committed c.loop-at.at c.args.last c.args.key c.index.result.now c.in-Some.number c.loop-at-test.true c.loop-at.invariant.0
    (slice_get_read stages (length stages) (c.loop-at.at - 1) c.index.result.now refl (omega arith) c.index.ensures) (sym c.put_by.ensures ∙ c.in-Some.is) c.loop-at.invariant.1

pub returns-clause-none : goal.returns-clause-none
returns-clause-none g c e = none_below c.args.stages.now.items c.loop-at.at c.args.committed c.args.last c.args.key c.loop-at-test.false c.loop-at.invariant.1
