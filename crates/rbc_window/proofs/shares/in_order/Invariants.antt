use Rattle.std.proofs.Common.{List, All}
use Rattle.std.specs.Vec.Iter.{into_iter_items}
use Rattle.rbc_rule.specs.declared.input.Input.{Input}
use Rattle.rbc_window.specs.Messages.{Records, Setting}
use Rattle.rbc_window.specs.Shares.{HaveTakenIfDone}
use Rattle.rbc_window.proofs.shares.in_order.Given as goal

-- the shares of the workers that are left are right, and so are all that have a place
abbrev pub invariant-loop-worker : goal.invariant-loop-worker
invariant-loop-worker l =
    (s : Setting) (records : Records) (inputs : List Input) → All (λ worker. HaveTakenIfDone s records inputs worker.items) l.fn.workers.items
    → All (λ worker. HaveTakenIfDone s records inputs worker.items) (into_iter_items l.worker-iterator) × HaveTakenIfDone s records inputs l.all.items
