use Rattle.rbc_rule.specs.Lists.{engines_at}
use Rattle.rbc_rule.proofs.Worlds.{may_have_been}
use Rattle.rbc_rule.proofs.Engines.{alone}
use Rattle.rbc_rule.proofs.fetch.fetch_list.Goals as goal

pub returns-clause-engines : goal.returns-clause-engines
returns-clause-engines g c = λ plan w m engine.
    alone (engines_at w c.args.list) c.in_ok-engines.engines _ c.new-nobody.ensures (c.in_ok-engines.ensures.both plan w (may_have_been c.fetch_trains.ensures.reads.extends m)) engine
