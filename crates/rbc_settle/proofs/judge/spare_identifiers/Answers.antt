use Rattle.std.proofs.Common.{◌≡◌, ◌-◌, length, rules, refl, not, ap, ◌∙◌}
use Rattle.std.specs.List.{filter_map}
use Rattle.std.proofs.lemmas.Iterator.{YieldsList-from_slice, YieldsList-from_range}
use Rattle.std.proofs.lemmas.Iterator.Consumers.{YieldsList-at, YieldsList-from_filter, YieldsList-from_filter_map, count_from_yields_List}
use Rattle.rbc_maps.specs.Maps.{has}
use Rattle.rbc_ids.specs.Table.{free_identifiers}
use Rattle.rbc_settle.specs.Settling.{stop_to_tell}
use Rattle.rbc_settle.proofs.Judging.{value_is_none}
use Rattle.rbc_settle.proofs.judge.spare_identifiers.Goals as goal

-- both chains are as long as the definition's lists
pub returns : goal.returns
returns c =
    let train = c.args.train.now in
    let free : c.count-free.result ≡ length (free_identifiers 15 train.stops) =
    count_from_yields_List _ c.count-free.result c.count-free.ensures.ran
    (YieldsList-from_filter _ (λ id. not (has train.stops id))
    (YieldsList-at c.filter.ensures.source (YieldsList-from_range 0 15 15 refl refl))
    c.filter.ensures.closure (λ x b q k. search (rules, value_is_none))) in
    let needed : c.count-needed.result ≡ length (filter_map (stop_to_tell train) c.args.stops.now.active) =
    count_from_yields_List _ c.count-needed.result c.count-needed.ensures.ran
    (YieldsList-from_filter_map _ (stop_to_tell train)
    (YieldsList-at c.filter_map.ensures.source (YieldsList-from_slice c.args.stops.now.active (c.iter.ensures.rest ∙ c.active.ensures.value)))
    c.filter_map.ensures.closure (λ x r q k. search rules)) in
    c.saturating_sub.ensures
    ∙ ap (λ n. n - c.count-needed.result) free
    ∙ ap (λ n. length (free_identifiers 15 train.stops) - n) needed
