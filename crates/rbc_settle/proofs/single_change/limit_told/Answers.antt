use Rattle.std.proofs.Common.{sym, ap, ◌∙◌}
use Rattle.rbc_ids.specs.Table.{is_told}
use Rattle.rbc_settle.specs.Settling.{limit_told_to}
use Rattle.rbc_settle.proofs.SingleChange.{can_tell, not_told_yet}
use Rattle.rbc_settle.proofs.single_change.limit_told.Goals as goal

pub returns-clause-allowed : goal.returns-clause-allowed
returns-clause-allowed c =
    let train = c.args.train.now in
    let number = c.args.number in
    let table = c.keeps.ensures.limits in
    let new = not_told_yet (is_told train.limits number) number (limit_told_to c.args.horizon train.place c.args.limit.now) (c.in_ok-number.number, c.in_ok-number.told) (sym c.in_ok-number.ensures) in
    (can_tell 255 train.limits table c.in_ok-id.id (sym c.in_ok-id.ensures) c.in_ok-number.number (ap (is_told train.limits) new.1 ∙ new.0), tt)
