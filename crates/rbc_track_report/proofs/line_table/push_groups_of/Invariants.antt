use Rattle.rbc_track_report.specs.Growth.{IsWrittenOn}
use Rattle.rbc_track_report.proofs.line_table.push_groups_of.Given as goal

abbrev pub invariant-loop-group : goal.invariant-loop-group
invariant-loop-group l = IsWrittenOn l.fn.sheet l.sheet
