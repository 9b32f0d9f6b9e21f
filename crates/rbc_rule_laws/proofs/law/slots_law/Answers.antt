use Rattle.rbc_rule_laws.proofs.EachTrain.{each_step_keeps}
use Rattle.rbc_rule_laws.proofs.law.slots_law.Goals as goal

pub returns : goal.returns
returns c = each_step_keeps
