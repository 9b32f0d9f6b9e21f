use Rattle.std.proofs.Common.{length}
use Rattle.std.proofs.lemmas.Result.{IfOk-weaker}
use Rattle.rbc_picture.proofs.Choosing.{parts_named, parts_unnamed}
use Rattle.rbc_picture.proofs.parts.lines_round.Goals as goal

pub returns-in-None : goal.returns-in-None
returns-in-None c =
    parts_unnamed c.args.engine (length c.args.track.now.lines.items) c.args.stops.now c.args.limits.now c.args.trains.now _
    (rw c.in-None.is at c.train_named.ensures) c.new.ensures.items

pub returns-in-Some : goal.returns-in-Some
returns-in-Some c =
    IfOk-weaker c.parts_round.result _ _ (λ parts round. parts_named c.args.engine (length c.args.track.now.lines.items) c.args.stops.now c.args.limits.now
    c.args.trains.now c.in-Some.train.now parts.items (rw c.in-Some.is at c.train_named.ensures) round) c.parts_round.ensures
