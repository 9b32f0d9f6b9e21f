use Rattle.rbc_track_report.proofs.Written.{warned_none, warned_then}
use Rattle.rbc_track_report.proofs.doubts.push_hidden_in_groups.Goals as goal

pub loop-index-init : goal.loop-index-init
loop-index-init c = warned_none _

pub loop-index-preserved : goal.loop-index-preserved
loop-index-preserved c = warned_then _ _ _ c.loop-index.invariant c.push_hidden.ensures

pub returns : goal.returns
returns c = c.loop-index.invariant
