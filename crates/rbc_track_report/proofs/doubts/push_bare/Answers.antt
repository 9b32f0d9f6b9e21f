use Rattle.rbc_track_report.proofs.Written.{warned_none, warned_one}
use Rattle.rbc_track_report.proofs.doubts.push_bare.Goals as goal

pub loop-index-init : goal.loop-index-init
loop-index-init c = warned_none _

pub returns-then-is_empty : goal.returns-then-is_empty
returns-then-is_empty c = warned_one _ _ _ c.warn.ensures

pub returns-then-is_empty-2 : goal.returns-then-is_empty-2
returns-then-is_empty-2 c = warned_one _ _ _ c.warn-then-is_empty-2.ensures

pub returns-after-loop-index : goal.returns-after-loop-index
returns-after-loop-index c = c.loop-index.invariant
