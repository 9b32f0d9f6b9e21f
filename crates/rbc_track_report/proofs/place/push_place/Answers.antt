use Rattle.std.proofs.Common.{rules}
use Rattle.rbc_track_report.proofs.Written.{back, ◌then◌}
use Rattle.rbc_track_report.proofs.place.push_place.Goals as goal

pub returns-in-Document : goal.returns-in-Document
returns-in-Document c = back c.words.ensures.written (search rules)

pub returns-in-Line : goal.returns-in-Line
returns-in-Line c = back (c.words-in-Line.ensures.written then c.nth.ensures.written) (search rules)

pub returns-in-Group : goal.returns-in-Group
returns-in-Group c = back (c.words-in-Group.ensures.written then c.nth-in-Group.ensures.written) (search rules)
