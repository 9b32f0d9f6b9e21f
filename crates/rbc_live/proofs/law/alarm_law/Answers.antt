use Rattle.rbc_live.proofs.AlarmReasons.{each_alarm_has_reason, nothing_is_missed}
use Rattle.rbc_live.proofs.law.alarm_law.Goals as goal

pub returns-clause-reason : goal.returns-clause-reason
returns-clause-reason c = each_alarm_has_reason

pub returns-clause-nothing_missed : goal.returns-clause-nothing_missed
returns-clause-nothing_missed c = nothing_is_missed
