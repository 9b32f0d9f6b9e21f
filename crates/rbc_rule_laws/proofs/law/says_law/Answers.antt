use Rattle.std.proofs.Common.{refl}
use Rattle.rbc_rule_laws.proofs.OneSaid.{says_one_thing}
use Rattle.rbc_rule_laws.proofs.Says.{step_says}
use Rattle.rbc_rule_laws.proofs.law.says_law.Goals as goal

pub returns-clause-says : goal.returns-clause-says
returns-clause-says c = step_says

pub returns-clause-one_thing : goal.returns-clause-one_thing
returns-clause-one_thing c = says_one_thing

pub returns-clause-by_place : goal.returns-clause-by_place
returns-clause-by_place c plan stops limits train action message says = record { said = says.said; wanted = says.said; says = says.says; is_for = says.is_for; same = refl }
