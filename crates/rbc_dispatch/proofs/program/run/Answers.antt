use Rattle.std.proofs.Common.{refl}
use Rattle.rbc_dispatch.proofs.Whole.{no_task_done, whole}
use Rattle.rbc_dispatch.proofs.program.run.Goals as goal

-- the task that the words ask for was done, or they ask for none
pub returns-in-Ok-clause-does : goal.returns-in-Ok-clause-does
returns-in-Ok-clause-does g c =
    whole (g.O.Write.contents) _ _ _ _ _ _ _ _ _ _ c.perform-outcome.result c.perform-outcome.ensures.does c.perform-outcome.ensures.only c.perform-outcome.ensures.begun
    c.conclude.ensures.same_output c.conclude.ensures.no_help c.conclude.ensures.done c.conclude.ensures.ended
