use Rattle.std.proofs.Common.{arith}
use Rattle.ertms_c.proofs.Filled.{one_more, none_has, all_have}
use Rattle.ertms_c.proofs.to_train.packets_of.Goals as goal

pub returns-in-None-clause-none : goal.returns-in-None-clause-none
returns-in-None-clause-none c = λ _ others are.
    none_has others c.args.fields.now c.loop-index.index _ are (omega arith) c.in-None.ensures.none

pub loop-index-preserved : goal.loop-index-preserved
loop-index-preserved c =
    one_more c.loop-index.packets c.args.fields.now c.loop-index.index c.in-Some.packet _ c.loop-index.invariant (omega arith) (omega arith) c.in-Some.ensures.fits c.in-Some.ensures.same

pub returns-clause-are : goal.returns-clause-are
returns-clause-are c = λ _.
    all_have c.loop-index.packets c.args.fields.now c.loop-index.index c.loop-index.invariant (omega arith)
