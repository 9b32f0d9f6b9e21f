use Rattle.std.proofs.Common.{rules, refl, not, ◌∙◌}
use Rattle.std.proofs.lemmas.Iterator.{YieldsList-from_slice, YieldsList-from_range, YieldsList-from_map, YieldsList-from_zip, items_from_collect}
use Rattle.std.proofs.lemmas.Iterator.Consumers.{YieldsList-at, YieldsList-from_filter, YieldsList-from_filter_map}
use Rattle.rbc_maps.specs.Maps.{has}
use Rattle.rbc_settle.specs.Settling.{next_to_tell, tell_stop}
use Rattle.rbc_settle.proofs.Judging.{value_is_none}
use Rattle.rbc_settle.proofs.judge.stops_told_anywhere.Goals as goal

-- the chain gives the definition's list, step by step
pub returns : goal.returns
returns c =
    let train = c.args.train.now in
    items_from_collect c.collect.result c.collect.ensures.ran
    (YieldsList-from_map _ tell_stop
    (YieldsList-at c.map.ensures.source
    (YieldsList-from_zip
    (YieldsList-at c.zip.ensures.first
    (YieldsList-from_filter_map _ (next_to_tell c.args.forced_now.now train)
    (YieldsList-at c.filter_map.ensures.source (YieldsList-from_slice c.args.stops.now.active (c.iter.ensures.rest ∙ c.active.ensures.value)))
    c.filter_map.ensures.closure (λ x r q k. search rules)))
    (YieldsList-at c.zip.ensures.second
    (YieldsList-from_filter _ (λ id. not (has train.stops id))
    (YieldsList-at c.filter-free.ensures.source (YieldsList-from_range 0 15 15 refl refl))
    c.filter-free.ensures.closure (λ x b q k. search (rules, value_is_none))))))
    c.map.ensures.closure (λ x r q k. search rules))
