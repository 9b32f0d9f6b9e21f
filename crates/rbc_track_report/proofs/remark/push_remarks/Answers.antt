use Rattle.std.proofs.Common.{rules}
use Rattle.rbc_track_report.proofs.Written.{back, ◌then◌}
use Rattle.rbc_track_report.proofs.remark.push_remarks.Goals as goal

pub returns-then-is_empty : goal.returns-then-is_empty
returns-then-is_empty c =
    back c.words.ensures.written (search rules) then back c.words-then-is_empty.ensures.written (search rules)

pub loop-index-init : goal.loop-index-init
loop-index-init c =
    back c.words.ensures.written (search rules) then back (c.words-2.ensures.written then c.number.ensures.written
    then c.words-3.ensures.written) (search rules)

pub loop-index-preserved : goal.loop-index-preserved
loop-index-preserved c =
    c.loop-index.invariant then back (c.column.ensures.written
    then c.words-in-loop-index.ensures.written) (search rules) then c.push_remark.ensures

pub returns : goal.returns
returns c = c.loop-index.invariant
