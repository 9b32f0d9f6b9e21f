use Rattle.std.proofs.Common.{rules}
use Rattle.rbc_track_report.proofs.Written.{back, written_none, ◌then◌}
use Rattle.rbc_track_report.proofs.line_table.push_name.Goals as goal

pub returns-after-eq : goal.returns-after-eq
returns-after-eq c = back (c.words.ensures.written then c.words-in-Some.ensures.written) (search rules)

pub returns-in_default : goal.returns-in_default
returns-in_default c = written_none _
