use Rattle.std.proofs.Common.{rules, sym, subst}
use Rattle.rbc_settle.specs.declared.train.TrainRec.{TrainRec}
use Rattle.rbc_settle.specs.Settling.{in_messages}
use Rattle.rbc_settle.specs.Sending.{CanTake, HasTaken}
use Rattle.rbc_settle.proofs.settling.changed.Goals as goal

pub change-requires : goal.change-requires
change-requires c =
    let changes = c.args.changes.now in
    subst (λ (t : TrainRec). CanTake t (in_messages changes.stops.items changes.limits.items)) (sym c.in_ok-after.ensures) c.requires

pub returns-clause-taken : goal.returns-clause-taken
returns-clause-taken c =
    let changes = c.args.changes.now in
    let all = in_messages changes.stops.items changes.limits.items in
    let sent = c.change.new.sent.items in
    let taken : HasTaken c.in_ok-after.after all c.args.sent.now.items c.change.new.train sent = search rules in
    subst (λ (t : TrainRec). HasTaken t all c.args.sent.now.items c.change.new.train sent) c.in_ok-after.ensures taken
