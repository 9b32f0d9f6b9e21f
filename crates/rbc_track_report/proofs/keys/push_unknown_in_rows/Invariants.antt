use Rattle.rbc_track_report.specs.Growth.{AreOnKeys}
use Rattle.rbc_track_report.proofs.keys.push_unknown_in_rows.Given as goal

abbrev pub invariant-loop-index : goal.invariant-loop-index
invariant-loop-index l = AreOnKeys l.fn.remarks l.remarks
