use Rattle.rbc_live.proofs.Causing.{each_cause_is_true}
use Rattle.rbc_live.proofs.law.waiting_law.Goals as goal

pub returns : goal.returns
returns c = each_cause_is_true
