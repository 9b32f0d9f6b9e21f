use Rattle.std.proofs.Common.{rules}
use Rattle.rbc_track_report.proofs.Written.{back, ◌then◌}
use Rattle.rbc_track_report.proofs.place.push_misfit.Goals as goal

pub returns : goal.returns
returns c =
    c.push_subject.ensures then c.push_what.ensures then back (c.words.ensures.written then c.words-2.ensures.written
    then c.words-3.ensures.written) (search rules)
