use Rattle.std.proofs.Common.{rules, ◌∙◌}
use Rattle.std.proofs.lemmas.Iterator.{YieldsList-from_slice, YieldsList-from_map, items_from_collect}
use Rattle.std.proofs.lemmas.Iterator.Consumers.{YieldsList-at, YieldsList-from_filter}
use Rattle.rbc_settle.specs.Settling.{is_used_by, is_stop_revoked, revoke_stop}
use Rattle.rbc_settle.proofs.judge.stops_revoked.Goals as goal

pub returns-clause-actions : goal.returns-clause-actions
returns-clause-actions c =
    items_from_collect c.collect.result c.collect.ensures.ran
    (YieldsList-from_map _ (revoke_stop c.args.forced_now.now)
    (YieldsList-at c.map.ensures.source
    (YieldsList-from_filter _ (λ held. is_used_by (is_stop_revoked c.args.stops.now c.args.forced_now.now) held.1)
    (YieldsList-at c.filter.ensures.source (YieldsList-from_slice c.args.train.now.stops (c.iter.ensures.rest ∙ c.slots.ensures.value)))
    c.filter.ensures.closure (λ x b q k. search rules)))
    c.map.ensures.closure (λ x r q k. search rules))
