use Rattle.std.proofs.Common.{◌-◌, List, ℕ, Option}
use Rattle.rbc_text.specs.Calls.{max_calls}
use Rattle.rbc_account.specs.Lines.{HasRead, IsMidway}
use Rattle.rbc_account.proofs.lines.LineReader.advance.Given as goal

-- the line has begun
abbrev pub invariant-loop-self : goal.invariant-loop-self
invariant-loop-self g l =
    (old : Option (List ℕ)) (lines : List (List ℕ)) → HasRead old (g.R.Read.remaining l.fn.reader) l.fn.self lines → IsMidway old (g.R.Read.remaining l.reader) l.self lines

abbrev pub decreases-loop-self : goal.decreases-loop-self
decreases-loop-self g l = max_calls - l.self.calls.made
