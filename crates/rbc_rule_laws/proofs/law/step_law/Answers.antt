use Rattle.rbc_settle.proofs.Keeps.{keeps_trains}
use Rattle.rbc_rule_laws.proofs.Keeps.{step_keeps}
use Rattle.rbc_rule_laws.proofs.law.step_law.Goals as goal

pub returns : goal.returns
returns c = step_keeps keeps_trains
