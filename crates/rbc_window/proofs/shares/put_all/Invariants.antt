use Rattle.std.proofs.Common.{List}
use Rattle.std.specs.Vec.Iter.{into_iter_items}
use Rattle.rbc_rule.specs.declared.input.Input.{Input}
use Rattle.rbc_window.specs.Messages.{Records, Setting}
use Rattle.rbc_window.specs.Shares.{HaveTakenIfDone}
use Rattle.rbc_window.proofs.shares.put_all.Given as goal

-- the shares that are left are right, and so are all that have a place
abbrev pub invariant-loop-share : goal.invariant-loop-share
invariant-loop-share l =
    (s : Setting) (records : Records) (inputs : List Input) → HaveTakenIfDone s records inputs l.fn.shares.items → HaveTakenIfDone s records inputs l.fn.all.items
    → HaveTakenIfDone s records inputs (into_iter_items l.share-iterator) × HaveTakenIfDone s records inputs l.all.items
