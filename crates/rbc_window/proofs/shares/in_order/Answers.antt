use Rattle.std.proofs.Common.{All, subst, sym}
use Rattle.std.proofs.lemmas.List.Elements.{All-head, All-tail}
use Rattle.rbc_window.specs.Shares.{HaveTakenIfDone}
use Rattle.rbc_window.proofs.shares.in_order.Goals as goal

pub loop-worker-init : goal.loop-worker-init
loop-worker-init c s records inputs workers =
    (subst (All (λ worker. HaveTakenIfDone s records inputs worker.items)) (sym c.into_iter-worker-iterator.ensures.into_iter_gives.0) workers, c.in_ok-all.ensures s records inputs)

-- the shares of the next worker come to their places
pub loop-worker-preserved : goal.loop-worker-preserved
loop-worker-preserved c s records inputs workers =
    let kept = c.loop-worker.invariant s records inputs workers in
    let left = subst (All (λ worker. HaveTakenIfDone s records inputs worker.items)) c.in-Some.ensures.steps.0 kept.0 in (
      All-tail (λ worker. HaveTakenIfDone s records inputs worker.items) _ _ left,
      c.put_all.ensures s records inputs (All-head (λ worker. HaveTakenIfDone s records inputs worker.items) _ _ left) kept.1,
    )
