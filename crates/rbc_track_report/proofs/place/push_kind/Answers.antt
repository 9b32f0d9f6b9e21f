use Rattle.std.proofs.Common.{rules}
use Rattle.rbc_track_report.proofs.Written.{back, ◌then◌}
use Rattle.rbc_track_report.proofs.place.push_kind.Goals as goal

pub returns-in-String : goal.returns-in-String
returns-in-String c =
    back (c.words.ensures.written then c.shown.ensures.written then c.words-in-String.ensures.written) (search rules)

pub returns-in-Integer : goal.returns-in-Integer
returns-in-Integer c = back (c.words-in-Integer.ensures.written then c.integer.ensures.written) (search rules)

pub returns-in-Float : goal.returns-in-Float
returns-in-Float c = back c.words-in-Float.ensures.written (search rules)

pub returns-in-Boolean : goal.returns-in-Boolean
returns-in-Boolean c = back c.words-in-Boolean.ensures.written (search rules)

pub returns-in-Datetime : goal.returns-in-Datetime
returns-in-Datetime c = back c.words-in-Datetime.ensures.written (search rules)

pub returns-in-Array : goal.returns-in-Array
returns-in-Array c = back c.words-in-Array.ensures.written (search rules)

pub returns-in-Table : goal.returns-in-Table
returns-in-Table c = back c.words-in-Table.ensures.written (search rules)
