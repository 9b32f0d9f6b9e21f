use Rattle.std.proofs.Common.{arith}
use Rattle.rbc_account.proofs.Owing.{one_slot, all_slots}
use Rattle.rbc_account.proofs.state.owed_in.Goals as goal

pub loop-index-preserved : goal.loop-index-preserved
loop-index-preserved c = record {
  counted = one_slot c.args.slots.now c.loop-index.index c.held_at.result.now c.behind.result.now c.loop-index.owed c.owed_once-owed.result c.held_at.ensures c.behind.ensures
      c.owed_once-owed.ensures.once c.loop-index.invariant.counted;
  few = omega (arith, c.loop-index.invariant.few, c.owed_once-owed.ensures.one);
}

pub returns : goal.returns
returns c = record {
  owed = all_slots c.args.slots.now c.loop-index.index c.loop-index.owed (omega arith) c.loop-index.invariant.counted;
  few = omega (arith, c.loop-index.invariant.few);
}
