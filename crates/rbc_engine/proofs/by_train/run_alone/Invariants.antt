use Rattle.std.proofs.Common.{length, ◌-◌}
use Rattle.rbc_engine.proofs.Stretches.{run_of}
use Rattle.rbc_engine.proofs.OneByOne.{AreTakenIn}
use Rattle.rbc_engine.proofs.by_train.run_alone.Given as goal

-- so many are taken in
abbrev pub invariant-loop-taken : goal.invariant-loop-taken
invariant-loop-taken l = AreTakenIn (run_of l.fn.track l.fn.desk l.fn.inputs) l.taken l.desk

abbrev pub decreases-loop-taken : goal.decreases-loop-taken
decreases-loop-taken l = length l.inputs - l.taken
