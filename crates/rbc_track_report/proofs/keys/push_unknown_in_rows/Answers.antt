use Rattle.rbc_track_report.proofs.Written.{on_keys_none, on_keys_then}
use Rattle.rbc_track_report.proofs.keys.push_unknown_in_rows.Goals as goal

pub loop-index-init : goal.loop-index-init
loop-index-init c = on_keys_none _

pub returns : goal.returns
returns c = on_keys_then _ _ _ c.loop-index.invariant c.push_found.ensures
