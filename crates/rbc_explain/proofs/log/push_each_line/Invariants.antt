use Rattle.std.proofs.Common.{◌≡◌, ◌++◌, length}
use Rattle.rbc_explain.proofs.Marking.{shown_text}
use Rattle.rbc_explain.proofs.log.push_each_line.Given as goal

-- what is added and what is left of the text are all of it
abbrev pub invariant-loop-rest : goal.invariant-loop-rest
invariant-loop-rest l = l.log.items ++ shown_text l.rest ≡ l.fn.log.items ++ shown_text l.fn.text

abbrev pub decreases-loop-rest : goal.decreases-loop-rest
decreases-loop-rest l = length l.rest
