use Rattle.std.proofs.Common.{◌+◌, ap, ◌∙◌}
use Rattle.rbc_core.proofs.Stages.{free_to_end, more_free}
use Rattle.rbc_core.proofs.book.all_free.Goals as goal

pub loop-i-init : goal.loop-i-init
loop-i-init g c =
    let made = c.in_ok-stages.ensures in
    (made.items, made.len, made.exact)

pub loop-i-preserved : goal.loop-i-preserved
loop-i-preserved g c =
    let before = c.loop-i.invariant in
    let pushed = c.push_reserved.ensures in
    (more_free c.loop-i._i c.loop-i.stages.items _ before.0 pushed.items, pushed.len ∙ ap (λ n. n + 1) before.1, pushed.capacity ∙ before.2)

pub returns : goal.returns
returns g c = free_to_end c.loop-i._i c.args.count _ c.loop-i.auto._i-end c.loop-i-test.false c.loop-i.invariant.0
