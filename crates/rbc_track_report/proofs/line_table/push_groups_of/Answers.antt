use Rattle.std.proofs.Common.{rules}
use Rattle.rbc_track_report.proofs.Written.{back, ◌then◌}
use Rattle.rbc_track_report.proofs.line_table.push_groups_of.Goals as goal

pub returns-then-number-eq0 : goal.returns-then-number-eq0
returns-then-number-eq0 c = back c.words.ensures.written (search rules)

pub loop-group-init : goal.loop-group-init
loop-group-init c = c.push_heading.ensures

pub returns : goal.returns
returns c = c.loop-group.invariant
