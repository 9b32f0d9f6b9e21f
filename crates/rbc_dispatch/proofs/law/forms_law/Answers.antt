use Rattle.rbc_dispatch.proofs.Forms.{after_all_by_default, alarms_of_live, alarms_of_run, as_many_as_named, begin_at_one_by_default, from_one_by_default, long_if_asked, one_by_default, one_line_by_default}
use Rattle.rbc_dispatch.proofs.law.forms_law.Goals as goal

pub returns-clause-one : goal.returns-clause-one
returns-clause-one c = one_by_default

pub returns-clause-named : goal.returns-clause-named
returns-clause-named c = as_many_as_named

pub returns-clause-first : goal.returns-clause-first
returns-clause-first c = from_one_by_default

pub returns-clause-log : goal.returns-clause-log
returns-clause-log c = begin_at_one_by_default

pub returns-clause-drawn : goal.returns-clause-drawn
returns-clause-drawn c = after_all_by_default

pub returns-clause-run_alarms : goal.returns-clause-run_alarms
returns-clause-run_alarms c = alarms_of_run

pub returns-clause-live_alarms : goal.returns-clause-live_alarms
returns-clause-live_alarms c = alarms_of_live

pub returns-clause-one_line : goal.returns-clause-one_line
returns-clause-one_line c = one_line_by_default

pub returns-clause-long : goal.returns-clause-long
returns-clause-long c = long_if_asked
