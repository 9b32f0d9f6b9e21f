use Rattle.std.proofs.Common.{◌≡◌, length, map, rules}
use Rattle.std.proofs.lemmas.Result.{IfOk-weaker}
use Rattle.rbc_picture.specs.Trains.{train_shown}
use Rattle.rbc_picture.proofs.Choosing.{parts_all, parts_busy, parts_lines}
use Rattle.rbc_picture.proofs.parts.parts_of.Goals as goal

pub returns-in-All : goal.returns-in-All
returns-in-All c =
    let many : c.len.result ≡ length c.args.track.now.lines.items = search rules in
    rw c.in-All.is
    (IfOk-weaker c.all_lines.result _ _ (λ parts are. parts_all (length c.args.track.now.lines.items) c.len.result c.args.stops.now c.args.limits.now
    (map train_shown c.args.trains.now) parts.items many are) c.all_lines.ensures)

pub returns-in-Busy : goal.returns-in-Busy
returns-in-Busy c =
    let many : c.len-in-Busy.result ≡ length c.args.track.now.lines.items = search rules in
    rw c.in-Busy.is
    (IfOk-weaker c.busy_lines.result _ _ (λ parts are. parts_busy (length c.args.track.now.lines.items) c.len-in-Busy.result c.args.stops.now
    c.args.limits.now (map train_shown c.args.trains.now) parts.items many are) c.busy_lines.ensures)

pub returns-in-Lines : goal.returns-in-Lines
returns-in-Lines c =
    rw c.in-Lines.is
    (IfOk-weaker c.from_slice.result _ _ (λ parts are. parts_lines (length c.args.track.now.lines.items) c.args.stops.now c.args.limits.now
    (map train_shown c.args.trains.now) _ parts.items are) c.from_slice.ensures.items)

pub returns-in-Train : goal.returns-in-Train
returns-in-Train c = rw c.in-Train.is c.lines_round.ensures
