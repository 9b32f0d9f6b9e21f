use Rattle.rbc_rule_laws.proofs.EachTrain.{each_step_revokes}
use Rattle.rbc_rule_laws.proofs.law.revocation_law.Goals as goal

pub returns : goal.returns
returns c = each_step_revokes
