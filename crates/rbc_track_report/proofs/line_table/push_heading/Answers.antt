use Rattle.std.proofs.Common.{rules}
use Rattle.rbc_track_report.proofs.Written.{back, ◌then◌}
use Rattle.rbc_track_report.proofs.line_table.push_heading.Goals as goal

pub returns : goal.returns
returns c = back (c.count.ensures.written then c.words.ensures.written then c.words-2.ensures.written) (search rules)
