use Rattle.rbc_settle.proofs.WitnessTrains as case
use Rattle.rbc_settle.proofs.witnesses.escalation_witnesses.Goals as goal

pub returns-clause-two_reports : goal.returns-clause-two_reports
returns-clause-two_reports c = case.two_reports_stay

pub returns-clause-forced : goal.returns-clause-forced
returns-clause-forced c = case.is_forced

pub returns-clause-told_again : goal.returns-clause-told_again
returns-clause-told_again c = case.is_told_again

pub returns-clause-three_reports_change : goal.returns-clause-three_reports_change
returns-clause-three_reports_change c = case.three_reports_change

pub returns-clause-three_reports_are_behind : goal.returns-clause-three_reports_are_behind
returns-clause-three_reports_are_behind c = case.three_reports_are_behind

pub returns-clause-four_reports : goal.returns-clause-four_reports
returns-clause-four_reports c = case.four_reports

pub returns-clause-counted_at_once : goal.returns-clause-counted_at_once
returns-clause-counted_at_once c = case.counted_at_once
