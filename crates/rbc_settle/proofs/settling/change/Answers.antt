use Rattle.std.proofs.Common.{List, map, sym, subst}
use Rattle.std.proofs.lemmas.Result.{on_ok_weaker}
use Rattle.rbc_settle.specs.declared.change.StopChange.{StopChange}
use Rattle.rbc_settle.specs.Actions.{ChangesStop, ChangesLimits, groups}
use Rattle.rbc_settle.specs.Sending.{CanTake, HasTaken}
use Rattle.rbc_settle.proofs.SettleLoop.{can_take_first, after_stops, all_taken}
use Rattle.rbc_settle.proofs.settling.change.Goals as goal

pub change_stops-requires : goal.change_stops-requires
change_stops-requires c =
    let train = c.args.train.now in
    let changes = c.args.changes.now in
    subst (λ (stops : List StopChange). CanTake train (map ChangesStop stops)) (sym c.deref.ensures.value)
    (can_take_first train (map ChangesStop changes.stops.items) (map ChangesLimits (groups changes.limits.items)) c.requires)

pub change_limits-requires : goal.change_limits-requires
change_limits-requires c =
    let train = c.args.train.now in
    let changes = c.args.changes.now in
    let taken : HasTaken train (map ChangesStop c.deref.result.now) c.args.sent.now.items c.change_stops.new.train c.change_stops.new.sent.items = c.in_ok-change_stops.ensures.taken in
    after_stops train changes.stops.items c.deref.result.now changes.limits.items c.deref-2.result.now c.change_stops.new.train c.deref.ensures.value c.deref-2.ensures.value taken.train c.requires

pub returns-clause-taken : goal.returns-clause-taken
returns-clause-taken c =
    let train = c.args.train.now in
    let changes = c.args.changes.now in
    on_ok_weaker c.change_limits.result
    (all_taken train changes.stops.items c.deref.result.now changes.limits.items c.deref-2.result.now c.change_stops.new.train c.change_limits.new.train c.args.sent.now.items c.change_stops.new.sent.items c.change_limits.new.sent.items
    c.deref.ensures.value c.deref-2.ensures.value c.in_ok-change_stops.ensures.taken) c.change_limits.ensures.taken
