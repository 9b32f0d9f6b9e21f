use Rattle.std.proofs.Common.{◌≤◌}
use Rattle.rbc_core.specs.Searches.{NoneWritesIn}
use Rattle.rbc_core.proofs.book.forwarded.Given as goal

-- from here on none writes the key
abbrev pub invariant-loop-at : goal.invariant-loop-at
invariant-loop-at g l = (l.at ≤ l.last) × NoneWritesIn l.stages.items l.at l.last l.key

abbrev pub decreases-loop-at : goal.decreases-loop-at
decreases-loop-at g l = l.at
