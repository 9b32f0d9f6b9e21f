use Rattle.std.proofs.Common.{rules}
use Rattle.rbc_track_report.proofs.Written.{back, ◌then◌}
use Rattle.rbc_track_report.proofs.remark.push_tables.Goals as goal

pub returns-then-tables-ne1 : goal.returns-then-tables-ne1
returns-then-tables-ne1 c =
    back c.words.ensures.written (search rules) then back (c.number.ensures.written
    then c.words-then-tables-ne1.ensures.written then c.words-then-tables-ne1-2.ensures.written
    then c.words-then-tables-ne1-3.ensures.written then c.nth.ensures.written) (search rules)

pub returns-else-tables-ne1 : goal.returns-else-tables-ne1
returns-else-tables-ne1 c =
    back c.words.ensures.written (search rules) then back (c.words-else-tables-ne1.ensures.written
    then c.words-else-tables-ne1-2.ensures.written then c.words-else-tables-ne1-3.ensures.written
    then c.nth-else-tables-ne1.ensures.written) (search rules)
