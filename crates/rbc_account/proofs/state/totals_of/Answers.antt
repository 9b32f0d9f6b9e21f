use Rattle.std.proofs.Common.{arith}
use Rattle.rbc_account.specs.Totals.{owed_told, untold_told, again_told}
use Rattle.rbc_account.proofs.Totals.{one_more, all_seen}
use Rattle.rbc_account.proofs.state.totals_of.Goals as goal

pub loop-train-preserved : goal.loop-train-preserved
loop-train-preserved c =
    let trains = c.args.trains.now in
    let index = c.loop-train.train-index in
    let one = c.train-item.result in
    let sums = c.loop-train.totals in
    let next = c.add.new.self in
    record {
      owed = one_more owed_told trains index one sums.acknowledgements next.acknowledgements c.loop-train-test.true c.train-item.is c.add.ensures.owed c.loop-train.invariant.owed;
      untold = one_more untold_told trains index one sums.untold next.untold c.loop-train-test.true c.train-item.is c.add.ensures.untold c.loop-train.invariant.untold;
      again = one_more again_told trains index one sums.untold_again next.untold_again c.loop-train-test.true c.train-item.is c.add.ensures.again c.loop-train.invariant.again;
    }

pub returns : goal.returns
returns c =
    let trains = c.args.trains.now in
    let index = c.loop-train.train-index in
    let sums = c.loop-train.totals in
    record {
      owed = all_seen owed_told trains index sums.acknowledgements (omega arith) c.loop-train.invariant.owed;
      untold = all_seen untold_told trains index sums.untold (omega arith) c.loop-train.invariant.untold;
      again = all_seen again_told trains index sums.untold_again (omega arith) c.loop-train.invariant.again;
    }
