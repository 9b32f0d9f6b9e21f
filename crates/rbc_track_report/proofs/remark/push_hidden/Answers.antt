use Rattle.std.proofs.Common.{rules}
use Rattle.rbc_track_report.proofs.Written.{back, ◌then◌}
use Rattle.rbc_track_report.proofs.remark.push_hidden.Goals as goal

pub returns : goal.returns
returns c =
    back c.words.ensures.written (search rules) then c.push_named.ensures
    then back c.words-2.ensures.written (search rules)
