use Rattle.rbc_core.proofs.Facts.{attempts_stay, records_stay, numbers_stay, closed_stays}
use Rattle.rbc_core.proofs.law.staying_law.Goals as goal

pub returns-clause-attempts : goal.returns-clause-attempts
returns-clause-attempts c = attempts_stay

pub returns-clause-records : goal.returns-clause-records
returns-clause-records c = records_stay

pub returns-clause-numbers : goal.returns-clause-numbers
returns-clause-numbers c = numbers_stay

pub returns-clause-closed : goal.returns-clause-closed
returns-clause-closed c = closed_stays
