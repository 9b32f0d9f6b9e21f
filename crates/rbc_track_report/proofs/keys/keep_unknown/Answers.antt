use Rattle.std.proofs.Common.{refl}
use Rattle.rbc_track_report.proofs.Written.{on_keys_none, on_keys_cut}
use Rattle.rbc_track_report.proofs.keys.keep_unknown.Goals as goal

pub loop-key-init : goal.loop-key-init
loop-key-init c = on_keys_none _

pub loop-key-preserved-then-is_err : goal.loop-key-preserved-then-is_err
loop-key-preserved-then-is_err c = on_keys_cut _ _ _ c.loop-key.invariant refl refl refl refl

pub loop-key-preserved-else-is_err : goal.loop-key-preserved-else-is_err
loop-key-preserved-else-is_err c = c.loop-key.invariant

pub loop-key-preserved : goal.loop-key-preserved
loop-key-preserved c = c.loop-key.invariant

pub returns : goal.returns
returns c = c.loop-key.invariant
