use Rattle.std.proofs.Common.{rules}
use Rattle.rbc_track_report.proofs.Written.{back, ◌then◌}
use Rattle.rbc_track_report.proofs.place.push_twice.Goals as goal

pub returns : goal.returns
returns c =
    c.push_group.ensures then back (c.words.ensures.written then c.nth.ensures.written
    then c.words-2.ensures.written) (search rules)
