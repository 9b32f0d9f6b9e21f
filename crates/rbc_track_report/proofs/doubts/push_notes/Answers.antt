use Rattle.rbc_track_report.proofs.Written.{noted_then}
use Rattle.rbc_track_report.proofs.doubts.push_notes.Goals as goal

pub returns : goal.returns
returns c = noted_then _ _ _ c.push_same_places.ensures (noted_then _ _ _ c.push_far.ensures (noted_then _ _ _ c.push_near.ensures c.push_wide_gap.ensures))
