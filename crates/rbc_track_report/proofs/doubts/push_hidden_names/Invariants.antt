use Rattle.rbc_track_report.specs.Growth.{AreWarned}
use Rattle.rbc_track_report.proofs.doubts.push_hidden_names.Given as goal

abbrev pub invariant-loop-index : goal.invariant-loop-index
invariant-loop-index l = AreWarned l.fn.remarks l.remarks
