use Rattle.std.proofs.Common.{rules}
use Rattle.rbc_track_report.proofs.Written.{back, ◌then◌}
use Rattle.rbc_track_report.proofs.remark.push_remark.Goals as goal

pub returns-in-UnknownKey : goal.returns-in-UnknownKey
returns-in-UnknownKey c = c.push_unknown.ensures

pub returns-in-HiddenName : goal.returns-in-HiddenName
returns-in-HiddenName c = c.push_hidden.ensures

pub returns-in-NoLine : goal.returns-in-NoLine
returns-in-NoLine c = back c.words.ensures.written (search rules)

pub returns-in-NoGroup : goal.returns-in-NoGroup
returns-in-NoGroup c = back c.words-in-NoGroup.ensures.written (search rules)

pub returns-in-BareLine : goal.returns-in-BareLine
returns-in-BareLine c =
    back (c.words-in-BareLine.ensures.written then c.number.ensures.written
    then c.words-in-BareLine-2.ensures.written) (search rules)

pub returns-in-SamePlace : goal.returns-in-SamePlace
returns-in-SamePlace c = c.push_same_place.ensures

pub returns-in-FarHorizon : goal.returns-in-FarHorizon
returns-in-FarHorizon c = c.push_horizon.ensures

pub returns-in-NearHorizon : goal.returns-in-NearHorizon
returns-in-NearHorizon c = c.push_horizon-in-NearHorizon.ensures

pub returns-in-WideGap : goal.returns-in-WideGap
returns-in-WideGap c = c.push_wide_gap.ensures
