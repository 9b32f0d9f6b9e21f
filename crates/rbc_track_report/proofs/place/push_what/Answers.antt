use Rattle.std.proofs.Common.{rules}
use Rattle.rbc_track_report.proofs.Written.{back, ◌then◌}
use Rattle.rbc_track_report.proofs.place.push_what.Goals as goal

pub returns-in-Some-Some : goal.returns-in-Some-Some
returns-in-Some-Some c =
    back (c.words.ensures.written then c.words-in-Some-Some.ensures.written
    then c.words-in-Some-Some-2.ensures.written) (search rules) then c.push_kind.ensures

pub returns-in-Some-None : goal.returns-in-Some-None
returns-in-Some-None c =
    back (c.words-in-Some-None.ensures.written then c.words-in-Some-None-2.ensures.written
    then c.words-in-Some-None-3.ensures.written) (search rules)

pub returns-in-None-Some : goal.returns-in-None-Some
returns-in-None-Some c = back c.words-in-None-Some.ensures.written (search rules) then c.push_kind-in-None-Some.ensures

pub returns-in-None-None : goal.returns-in-None-None
returns-in-None-None c = back c.words-in-None-None.ensures.written (search rules)
