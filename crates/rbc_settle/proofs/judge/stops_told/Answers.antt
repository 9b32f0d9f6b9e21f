use Rattle.std.proofs.Common.{◌≡◌, ◌∙◌, [], sym, ap}
use Rattle.std.specs.List.{filter_map}
use Rattle.rbc_ids.specs.Table.{free_identifiers}
use Rattle.rbc_settle.specs.Trains.{stop_identifiers}
use Rattle.rbc_settle.specs.Settling.{stops_told, next_to_tell, tell_stop}
use Rattle.rbc_settle.proofs.Judging.{none_paired}
use Rattle.rbc_settle.proofs.OneLine.{none_active, nothing_zipped}
use Rattle.rbc_settle.proofs.judge.stops_told.Goals as goal
use Rattle.rbc_settle.proofs.judge.stops_told.Goals.{then-count-eq0-via-then-count-eq0, then-count-eq0-via-else-count-eq0+then-is_none}

-- no stop is active, or no identifier is free, so nothing can be told
pub returns-then-count-eq0-clause-actions : goal.returns-then-count-eq0-clause-actions
returns-then-count-eq0-clause-actions c =
    let train = c.args.train.now in
    let next = next_to_tell c.args.forced_now.now train in
    let told : [] ≡ stops_told c.args.forced_now.now c.args.stops.now train = elim c.then-count-eq0.branch [
      | then-count-eq0-via-then-count-eq0 w ↦
          nothing_zipped tell_stop (filter_map next c.args.stops.now.active) (free_identifiers stop_identifiers train.stops)
          (ap (filter_map next) (none_active c.args.stops.now.active (sym c.count.ensures.value ∙ w.if-count-eq0.true)))
      | then-count-eq0-via-else-count-eq0+then-is_none w ↦
          none_paired tell_stop (filter_map next c.args.stops.now.active) _ w.least_free.result w.is_none.result w.is_none.ensures w.if-is_none.true w.least_free.ensures
    ] in
    c.new.ensures.items ∙ told
