use Rattle.std.proofs.Common.{◌≤◌, length}
use Rattle.rbc_engine.proofs.job.Job.take.Given as goal

-- the last one is an input of the run
abbrev pub invariant-loop : goal.invariant-loop
invariant-loop g l = l.last ≤ length g.N.RunName.run.inputs
