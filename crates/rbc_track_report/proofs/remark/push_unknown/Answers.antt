use Rattle.std.proofs.Common.{rules}
use Rattle.rbc_track_report.proofs.Written.{back, ◌then◌}
use Rattle.rbc_track_report.proofs.remark.push_unknown.Goals as goal

pub returns : goal.returns
returns c =
    back (c.words.ensures.written then c.shown.ensures.written then c.words-2.ensures.written) (search rules)
    then c.push_where.ensures then back (c.words-3.ensures.written then c.words-4.ensures.written
    then c.words-5.ensures.written) (search rules)
