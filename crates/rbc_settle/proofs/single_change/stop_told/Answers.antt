use Rattle.std.proofs.Common.{sym, ap, ◌∙◌}
use Rattle.rbc_ids.specs.Table.{is_told}
use Rattle.rbc_settle.specs.Settling.{told_stop, concern_to}
use Rattle.rbc_settle.proofs.SingleChange.{can_tell, not_told_yet}
use Rattle.rbc_settle.proofs.single_change.stop_told.Goals as goal

pub returns-clause-allowed : goal.returns-clause-allowed
returns-clause-allowed c =
    let train = c.args.train.now in
    let number = c.args.number in
    let table = c.keeps.ensures.stops in
    let new = not_told_yet (is_told train.stops number) number (told_stop train.place (concern_to train (number, c.args.area.now))) (c.in_ok-number.number, c.in_ok-number.told) (sym c.in_ok-number.ensures) in
    can_tell 15 train.stops table c.in_ok-id.id (sym c.in_ok-id.ensures) c.in_ok-number.number (ap (is_told train.stops) new.1 ∙ new.0)
