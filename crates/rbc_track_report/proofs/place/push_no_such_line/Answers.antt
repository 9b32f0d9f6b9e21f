use Rattle.std.proofs.Common.{rules}
use Rattle.rbc_track_report.proofs.Written.{back, ◌then◌}
use Rattle.rbc_track_report.proofs.place.push_no_such_line.Goals as goal

pub returns-in-0 : goal.returns-in-0
returns-in-0 c =
    c.push_group.ensures then back (c.words.ensures.written then c.number.ensures.written) (search rules)
    then back c.words-in-0.ensures.written (search rules)

pub returns-in-1 : goal.returns-in-1
returns-in-1 c =
    c.push_group.ensures then back (c.words.ensures.written then c.number.ensures.written) (search rules)
    then back c.words-in-1.ensures.written (search rules)

pub returns-in_default : goal.returns-in_default
returns-in_default c =
    c.push_group.ensures then back (c.words.ensures.written then c.number.ensures.written) (search rules)
    then back (c.words-in_default.ensures.written then c.number-in_default.ensures.written
    then c.words-in_default-2.ensures.written) (search rules)
