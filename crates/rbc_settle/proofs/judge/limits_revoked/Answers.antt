use Rattle.std.proofs.Common.{◌≡◌, List, rules, sym, subst, ◌∙◌}
use Rattle.std.proofs.lemmas.Iterator.{YieldsList-from_slice, YieldsList-from_map, items_from_collect}
use Rattle.std.proofs.lemmas.Iterator.Consumers.{YieldsList-at, YieldsList-from_filter}
use Rattle.std.specs.Result.{IfOk}
use Rattle.rbc_settle.specs.declared.change.LimitChange.{LimitChange}
use Rattle.rbc_settle.specs.declared.change.LimitChange.TheVariants as limit_change
use Rattle.rbc_settle.specs.Settling.{is_used_by, is_limit_gone}
use Rattle.rbc_settle.proofs.Judging.{map_of_map}
use Rattle.rbc_settle.proofs.judge.limits_revoked.Goals as goal

pub returns-clause-actions : goal.returns-clause-actions
returns-clause-actions c =
    subst (λ (all : List LimitChange). IfOk c.collect.result (λ found. found.items ≡ all)) (sym (map_of_map limit_change.Revoke (λ held. held.0) _))
    (items_from_collect c.collect.result c.collect.ensures.ran
    (YieldsList-from_map _ (λ held. limit_change.Revoke held.0)
    (YieldsList-at c.map.ensures.source
    (YieldsList-from_filter _ (λ held. is_used_by (is_limit_gone c.args.limits.now c.args.train.now.place) held.1)
    (YieldsList-at c.filter.ensures.source (YieldsList-from_slice c.args.train.now.limits (c.iter.ensures.rest ∙ c.slots.ensures.value)))
    c.filter.ensures.closure (λ x b q k. search rules)))
    c.map.ensures.closure (λ x r q k. search rules)))
