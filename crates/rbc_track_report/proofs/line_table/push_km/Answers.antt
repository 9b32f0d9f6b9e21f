use Rattle.std.proofs.Common.{rules}
use Rattle.rbc_track_report.proofs.Written.{back, ◌then◌}
use Rattle.rbc_track_report.proofs.line_table.push_km.Goals as goal

pub returns-then-units-eq0 : goal.returns-then-units-eq0
returns-then-units-eq0 c =
    back (c.column.ensures.written then c.words.ensures.written then c.number.ensures.written
    then c.number-2.ensures.written then c.number-3.ensures.written) (search rules)
    then back c.words-then-units-eq0.ensures.written (search rules)

pub returns-else-units-eq0 : goal.returns-else-units-eq0
returns-else-units-eq0 c =
    back (c.column.ensures.written then c.words.ensures.written then c.number.ensures.written
    then c.number-2.ensures.written then c.number-3.ensures.written) (search rules)
    then back c.number-else-units-eq0.ensures.written (search rules)
