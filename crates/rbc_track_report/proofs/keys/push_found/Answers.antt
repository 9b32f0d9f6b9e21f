use Rattle.rbc_track_report.proofs.Written.{on_keys_none, on_keys_more}
use Rattle.rbc_track_report.proofs.keys.push_found.Goals as goal

pub loop-key-init : goal.loop-key-init
loop-key-init c = on_keys_none _

pub loop-key-preserved : goal.loop-key-preserved
loop-key-preserved c = on_keys_more _ _ _ _ c.loop-key.invariant c.unknown_key.ensures.allowed c.unknown_key.ensures.forbidden

pub returns : goal.returns
returns c = c.loop-key.invariant
