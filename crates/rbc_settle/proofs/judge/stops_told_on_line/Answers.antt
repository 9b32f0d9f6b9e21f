use Rattle.std.proofs.Common.{◌≡◌, rules, refl, not, map, subst}
use Rattle.std.specs.Prelude.{IfOk}
use Rattle.std.specs.List.{zip}
use Rattle.std.proofs.lemmas.Iterator.{YieldsList-from_range, YieldsList-from_map, YieldsList-from_zip, items_from_collect}
use Rattle.std.proofs.lemmas.Iterator.Consumers.{YieldsList-at, YieldsList-from_first, YieldsList-from_filter, YieldsList-from_filter_map}
use Rattle.rbc_maps.specs.Maps.{has}
use Rattle.rbc_maps.specs.OnLines.{mark_of, marked}
use Rattle.rbc_zones.specs.Marks.{stop_marks}
use Rattle.rbc_ids.specs.Table.{free_identifiers}
use Rattle.rbc_settle.specs.Trains.{stop_identifiers}
use Rattle.rbc_settle.specs.Settling.{stop_to_tell, tell_stop}
use Rattle.rbc_settle.proofs.Judging.{value_is_none}
use Rattle.rbc_settle.proofs.OneLine.{stops_on_line}
use Rattle.rbc_settle.proofs.judge.stops_told_on_line.Goals as goal

-- the chain gives the definition's list of the stops on the line, and no other stop is told
pub returns : goal.returns
returns c =
    let train = c.args.train.now in
    let stops = c.args.stops.now.active in
    subst (λ wanted. IfOk c.collect.result (λ found. found.items ≡ map tell_stop (zip wanted (free_identifiers stop_identifiers train.stops)))) (stops_on_line train c.args.line c.requires stops c.on_line.ensures.sound)
    (items_from_collect c.collect.result c.collect.ensures.ran
    (YieldsList-from_map _ tell_stop
    (YieldsList-at c.map.ensures.source
    (YieldsList-from_zip
    (YieldsList-at c.zip.ensures.first
    (YieldsList-from_filter_map _ (stop_to_tell train)
    (YieldsList-at c.filter_map.ensures.source (YieldsList-from_first (λ pair. pair.now) (λ rest. rest) (marked stop_marks (mark_of c.args.line) stops) c.on_line.ensures.line))
    c.filter_map.ensures.closure (λ x r q k. search rules)))
    (YieldsList-at c.zip.ensures.second
    (YieldsList-from_filter _ (λ id. not (has train.stops id))
    (YieldsList-at c.filter-free.ensures.source (YieldsList-from_range 0 15 15 refl refl))
    c.filter-free.ensures.closure (λ x b q k. search (rules, value_is_none))))))
    c.map.ensures.closure (λ x r q k. search rules)))
