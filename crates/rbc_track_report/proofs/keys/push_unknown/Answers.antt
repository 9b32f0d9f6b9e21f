use Rattle.rbc_track_report.proofs.Written.{on_keys_then}
use Rattle.rbc_track_report.proofs.keys.push_unknown.Goals as goal

pub returns : goal.returns
returns c = on_keys_then _ _ _ c.keep_unknown.ensures
    (on_keys_then _ _ _ c.push_found.ensures (on_keys_then _ _ _ c.push_unknown_in_rows.ensures c.push_unknown_in_rows-2.ensures))
