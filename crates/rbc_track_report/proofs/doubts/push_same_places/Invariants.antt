use Rattle.rbc_track_report.specs.Growth.{AreNoted}
use Rattle.rbc_track_report.proofs.doubts.push_same_places.Given as goal

abbrev pub invariant-loop-index : goal.invariant-loop-index
invariant-loop-index l = AreNoted l.fn.remarks l.remarks
