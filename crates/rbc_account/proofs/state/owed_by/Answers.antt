use Rattle.std.proofs.Common.{◌≤◌, length, arith}
use Rattle.rbc_ids.proofs.Tables.{few}
use Rattle.rbc_account.proofs.state.owed_by.Goals as goal

pub overflow_add-result : goal.overflow_add-result
overflow_add-result c =
    let stops : length c.args.train.now.stops ≤ 15 = few 15 c.args.train.now.stops c.slots.ensures.sound in
    let limits : length c.args.train.now.limits ≤ 255 = few 255 c.args.train.now.limits c.slots-2.ensures.sound in
    omega (arith, stops, limits)
