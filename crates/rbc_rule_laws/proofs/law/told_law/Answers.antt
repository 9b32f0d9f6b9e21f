use Rattle.rbc_rule_laws.proofs.Tells.{each_step_tells}
use Rattle.rbc_rule_laws.proofs.law.told_law.Goals as goal

pub returns : goal.returns
returns c = each_step_tells
