use Rattle.rbc_track_report.specs.Growth.{AreOnKeys}
use Rattle.rbc_track_report.proofs.keys.push_found.Given as goal

abbrev pub invariant-loop-key : goal.invariant-loop-key
invariant-loop-key l = AreOnKeys l.fn.remarks l.remarks
