use Rattle.std.proofs.Common.{length, ◌-◌}
use Rattle.rbc_engine.proofs.workers.finish.Given as goal

abbrev pub decreases-loop-book : goal.decreases-loop-book
decreases-loop-book g l = length g.N.RunName.run.inputs - l.book.committed
