use Rattle.std.proofs.Common.{◌≡◌}
use Rattle.rbc_ids.proofs.Reported.{partly}
use Rattle.rbc_ids.proofs.identifier_table.IdTable.reported.Given as goal

-- the first slots have counted the report
abbrev pub invariant-loop-held : goal.invariant-loop-held
invariant-loop-held g l = l.held-items ≡ partly l.initial.held-items l.held-index
