use Rattle.std.proofs.Common.{rules}
use Rattle.rbc_track_report.proofs.Written.{back, ◌then◌}
use Rattle.rbc_track_report.proofs.remark.push_same_place.Goals as goal

pub returns : goal.returns
returns c =
    back (c.words.ensures.written then c.number.ensures.written then c.words-2.ensures.written
    then c.number-2.ensures.written then c.words-3.ensures.written then c.number-3.ensures.written
    then c.words-4.ensures.written then c.length.ensures.written then c.words-5.ensures.written) (search rules)
