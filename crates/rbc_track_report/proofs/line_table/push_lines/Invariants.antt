use Rattle.rbc_track_report.specs.Growth.{IsWrittenOn}
use Rattle.rbc_track_report.proofs.line_table.push_lines.Given as goal

abbrev pub invariant-loop-index : goal.invariant-loop-index
invariant-loop-index l = IsWrittenOn l.fn.sheet l.sheet
