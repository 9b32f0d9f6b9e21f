use Rattle.rbc_track_report.proofs.Written.{written_none, ◌then◌}
use Rattle.rbc_track_report.proofs.line_table.push_lines.Goals as goal

pub loop-index-init : goal.loop-index-init
loop-index-init c = written_none _

pub loop-index-preserved : goal.loop-index-preserved
loop-index-preserved c = c.loop-index.invariant then c.push_line.ensures then c.push_groups_of.ensures

pub returns : goal.returns
returns c = c.loop-index.invariant
