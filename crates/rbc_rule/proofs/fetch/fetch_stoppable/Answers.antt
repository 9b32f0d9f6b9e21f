use Rattle.rbc_rule.proofs.Worlds.{may_have_been}
use Rattle.rbc_rule.proofs.fetch.fetch_stoppable.Goals as goal

pub returns-clause-engines : goal.returns-clause-engines
returns-clause-engines g c = λ plan w m. c.in_ok-engines.ensures.engines plan w (may_have_been c.fetch_trains.ensures.reads.extends m)
