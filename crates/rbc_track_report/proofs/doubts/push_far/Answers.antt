use Rattle.rbc_track_report.proofs.Written.{noted_none, noted_one}
use Rattle.rbc_track_report.proofs.doubts.push_far.Goals as goal

pub returns-then-all : goal.returns-then-all
returns-then-all c = noted_one _ _ _ c.note.ensures

pub returns-else-not-is_empty : goal.returns-else-not-is_empty
returns-else-not-is_empty c = noted_none _
