-- Each step keeps a well-formed world.
use Rattle.rbc_rule_laws.proofs.SettleKeeps.{keeps_trains}
use Rattle.rbc_rule.specs.Laws.{EachStepKeepsWorlds}
use Rattle.rbc_rule_laws.proofs.Keeps as keeps

pub step_keeps : EachStepKeepsWorlds
step_keeps = keeps.step_keeps keeps_trains
