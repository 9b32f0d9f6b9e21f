use Rattle.std.proofs.Common.{rules}
use Rattle.rbc_track_report.proofs.Written.{back, ◌then◌}
use Rattle.rbc_track_report.proofs.line_table.push_group.Goals as goal

pub returns : goal.returns
returns c =
    c.push_km.ensures then back (c.words.ensures.written then c.column.ensures.written then c.words-2.ensures.written
    then c.column-2.ensures.written then c.words-3.ensures.written then c.column-3.ensures.written
    then c.words-4.ensures.written then c.words-5.ensures.written) (search rules) then c.push_name.ensures
    then back c.words-6.ensures.written (search rules)
