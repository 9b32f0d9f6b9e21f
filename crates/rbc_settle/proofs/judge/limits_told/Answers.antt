use Rattle.std.proofs.Common.{◌≡◌, ◌∙◌, [], length, map, rules, refl, not, sym, ap, subst}
use Rattle.std.specs.Prelude.{IfOk}
use Rattle.std.specs.List.{filter_map, zip}
use Rattle.std.proofs.lemmas.Iterator.{YieldsList-from_range, YieldsList-from_map, YieldsList-from_zip, items_from_collect}
use Rattle.std.proofs.lemmas.Iterator.Consumers.{YieldsList-at, YieldsList-from_first, YieldsList-from_filter, YieldsList-from_filter_map}
use Rattle.rbc_maps.specs.Maps.{has}
use Rattle.rbc_maps.specs.OnLines.{mark_of, marked}
use Rattle.rbc_zones.specs.Marks.{limit_marks}
use Rattle.rbc_ids.specs.Table.{free_identifiers}
use Rattle.rbc_settle.specs.Trains.{limit_identifiers}
use Rattle.rbc_settle.specs.Settling.{limits_told, limit_to_tell, tell_limit}
use Rattle.rbc_settle.proofs.Judging.{value_is_none}
use Rattle.rbc_settle.proofs.NothingLeft.{nothing_free}
use Rattle.rbc_settle.proofs.OneLine.{limits_on_line, limits_nowhere, none_active, nothing_zipped}
use Rattle.rbc_settle.proofs.judge.limits_told.Goals as goal
use Rattle.rbc_settle.proofs.judge.limits_told.Goals.{then-count-eq0-via-then-count-eq0, then-count-eq0-via-else-count-eq0+then-slots-eq-LIMIT_IDENTIFIERS}

-- no restriction is active, or every identifier is held, so nothing can be told
pub returns-then-count-eq0-clause-actions : goal.returns-then-count-eq0-clause-actions
returns-then-count-eq0-clause-actions c =
    let train = c.args.train.now in
    let limits = c.args.limits.now.active in
    let told : [] ≡ limits_told c.args.horizon c.args.limits.now train = elim c.then-count-eq0.branch [
      | then-count-eq0-via-then-count-eq0 w ↦
          nothing_zipped tell_limit (filter_map (limit_to_tell c.args.horizon train) limits) (free_identifiers limit_identifiers train.limits)
          (ap (filter_map (limit_to_tell c.args.horizon train)) (none_active limits (sym c.count.ensures.value ∙ w.if-count-eq0.true)))
      | then-count-eq0-via-else-count-eq0+then-slots-eq-LIMIT_IDENTIFIERS w ↦
          let full : length train.limits ≡ limit_identifiers = sym (ap length w.slots.ensures.value) ∙ w.if-slots-eq-LIMIT_IDENTIFIERS.true in
          nothing_free tell_limit (filter_map (limit_to_tell c.args.horizon train) limits) limit_identifiers train.limits w.slots.ensures.sound full
    ] in
    c.new.ensures.items ∙ told

-- a train without a place is told of none
pub returns-in_default-clause-actions : goal.returns-in_default-clause-actions
returns-in_default-clause-actions c =
    let train = c.args.train.now in
    let limits = c.args.limits.now.active in
    c.new-in_default.ensures.items
    ∙ nothing_zipped tell_limit (filter_map (limit_to_tell c.args.horizon train) limits) (free_identifiers limit_identifiers train.limits) (limits_nowhere c.args.horizon train c.in_default.is limits)

-- the chain gives the definition's list of the restrictions on the line, and no other one is told
pub returns-clause-actions : goal.returns-clause-actions
returns-clause-actions c =
    let train = c.args.train.now in
    let limits = c.args.limits.now.active in
    let line = c.from.ensures ∙ c.line.ensures in
    subst (λ wanted. IfOk c.collect.result (λ found. found.items ≡ map tell_limit (zip wanted (free_identifiers limit_identifiers train.limits)))) (limits_on_line c.args.horizon train c.in-Some.place c.in-Some.is limits)
    (items_from_collect c.collect.result c.collect.ensures.ran
    (YieldsList-from_map _ tell_limit
    (YieldsList-at c.map.ensures.source
    (YieldsList-from_zip
    (YieldsList-at c.zip.ensures.first
    (YieldsList-from_filter_map _ (limit_to_tell c.args.horizon train)
    (YieldsList-at c.filter_map.ensures.source (YieldsList-from_first (λ pair. pair.now) (λ rest. rest) (marked limit_marks (mark_of c.in-Some.place.line) limits) (c.on_line.ensures.line ∙ ap (λ l. marked limit_marks (mark_of l) limits) line)))
    c.filter_map.ensures.closure (λ x r q k. search rules)))
    (YieldsList-at c.zip.ensures.second
    (YieldsList-from_filter _ (λ id. not (has train.limits id))
    (YieldsList-at c.filter-free.ensures.source (YieldsList-from_range 0 255 255 refl refl))
    c.filter-free.ensures.closure (λ x b q k. search (rules, value_is_none))))))
    c.map.ensures.closure (λ x r q k. search rules)))
