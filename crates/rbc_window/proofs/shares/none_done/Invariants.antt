use Rattle.std.proofs.Common.{List}
use Rattle.rbc_rule.specs.declared.input.Input.{Input}
use Rattle.rbc_window.specs.Messages.{Records, Setting}
use Rattle.rbc_window.specs.Shares.{HaveTakenIfDone}
use Rattle.rbc_window.proofs.shares.none_done.Given as goal

-- none of them is done
abbrev pub invariant-loop-number : goal.invariant-loop-number
invariant-loop-number l = (s : Setting) (records : Records) (inputs : List Input) → HaveTakenIfDone s records inputs l.all.items
