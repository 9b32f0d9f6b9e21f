use Rattle.std.proofs.Common.{length, ◌-◌}
use Rattle.rbc_engine.proofs.Stretches.{AreDone}
use Rattle.rbc_engine.proofs.workers.run_admitted.Given as goal

-- so many of the inputs are done, one after another
abbrev pub invariant-loop-all : goal.invariant-loop-all
invariant-loop-all g l = AreDone (record { track = l.fn.track; opening = l.fn.desk; inputs = l.fn.inputs }) l.all l.desk

abbrev pub decreases-loop-all : goal.decreases-loop-all
decreases-loop-all g l = length l.inputs - l.all.taken
