use Rattle.std.proofs.Common.{ap, refl, inl, inr}
use Rattle.rbc_dispatch.specs.Doing.{Does}
use Rattle.rbc_dispatch.specs.Telling.{TellsPage}
use Rattle.rbc_dispatch.specs.Words.{asked_of}
use Rattle.rbc_dispatch.specs.declared.pages.Topic.TheVariants.{Batch, Track}
use Rattle.rbc_dispatch.proofs.Carried.{does_as, does_nothing, fits, leaves_as, leaves_errors}
use Rattle.rbc_dispatch.proofs.Ends.{at_handed_on, at_memory, no_task_is, refused_as, task_is}
use Rattle.rbc_dispatch.proofs.program.perform.Goals as goal

-- memory runs out over the words, and nothing is read or written

pub returns-in_err-task-clause-does : goal.returns-in_err-task-clause-does
returns-in_err-task-clause-does g c = λ asked asks.
    at_memory _ (Does {E = Unit {0}} asked _ _ _ _ _ _ _ _) c.in_err-task.field-0.0 c.from_residual.ensures.1 (c.in_err-task.ensures.taken asked asks) (does_nothing (Unit {0}) asked _ _ _ _)

pub returns-in_err-task-clause-errors : goal.returns-in_err-task-clause-errors
returns-in_err-task-clause-errors g c = λ asked asks. leaves_errors asked _ _ _ _

-- the task that was carried out is the one that the words ask for

pub returns-in_err-carry_out-clause-does : goal.returns-in_err-carry_out-clause-does
returns-in_err-carry_out-clause-does g c = λ asked asks.
    at_handed_on _ (Does {E = Unit {0}} asked _ _ _ _ _ _ _ _) _ c.from_residual-in_err-carry_out.ensures.1
    (does_as _ asked _ _ _ _ _ _ _ _ _ (c.in_ok-task.ensures.taken asked asks) c.in_err-carry_out.ensures.does)

pub returns-in_err-carry_out-clause-errors : goal.returns-in_err-carry_out-clause-errors
returns-in_err-carry_out-clause-errors g c = λ asked asks.
    leaves_as _ asked _ _ _ _ _ _ (c.in_ok-task.ensures.taken asked asks) c.in_err-carry_out.ensures.errors

pub returns-clause-does : goal.returns-clause-does
returns-clause-does g c = λ asked asks.
    does_as _ asked _ _ _ _ _ _ _ _ _ (c.in_ok-task.ensures.taken asked asks) c.in_ok-carry_out.ensures.does

pub returns-clause-errors : goal.returns-clause-errors
returns-clause-errors g c = λ asked asks.
    leaves_as _ asked _ _ _ _ _ _ (c.in_ok-task.ensures.taken asked asks) c.in_ok-carry_out.ensures.errors

-- a page is had without memory

pub returns-in_err-task-clause-batch_page : goal.returns-in_err-task-clause-batch_page
returns-in_err-task-clause-batch_page g c = λ asked. no_task_is _ _ (c.in_err-task.ensures.page Batch asked)

pub returns-in_err-task-clause-track_page : goal.returns-in_err-task-clause-track_page
returns-in_err-task-clause-track_page g c = λ asked. no_task_is _ _ (c.in_err-task.ensures.page Track asked)

pub returns-in_err-carry_out-clause-batch_page : goal.returns-in_err-carry_out-clause-batch_page
returns-in_err-carry_out-clause-batch_page g c = λ asked.
    at_handed_on _ (TellsPage {E = Unit {0}} _ _ _) _ c.from_residual-in_err-carry_out.ensures.1
    (c.in_err-carry_out.ensures.batch_page (ap asked_of (task_is _ _ (c.in_ok-task.ensures.page Batch asked))))

pub returns-in_err-carry_out-clause-track_page : goal.returns-in_err-carry_out-clause-track_page
returns-in_err-carry_out-clause-track_page g c = λ asked.
    at_handed_on _ (TellsPage {E = Unit {0}} _ _ _) _ c.from_residual-in_err-carry_out.ensures.1
    (c.in_err-carry_out.ensures.track_page (ap asked_of (task_is _ _ (c.in_ok-task.ensures.page Track asked))))

pub returns-clause-batch_page : goal.returns-clause-batch_page
returns-clause-batch_page g c = λ asked. c.in_ok-carry_out.ensures.batch_page (ap asked_of (task_is _ _ (c.in_ok-task.ensures.page Batch asked)))

pub returns-clause-track_page : goal.returns-clause-track_page
returns-clause-track_page g c = λ asked. c.in_ok-carry_out.ensures.track_page (ap asked_of (task_is _ _ (c.in_ok-task.ensures.page Track asked)))

-- words that ask for nothing are refused, and those that ask for something give a task

pub returns-in_err-task-clause-unfit : goal.returns-in_err-task-clause-unfit
returns-in_err-task-clause-unfit g c = λ unfit. refused_as _ c.in_err-task.field-0.0 c.from_residual.ensures.1 (c.in_err-task.ensures.refused unfit.taken)

pub returns-in_err-carry_out-clause-refused : goal.returns-in_err-carry_out-clause-refused
returns-in_err-carry_out-clause-refused g c = λ none. absurd (none _ c.in_ok-task.ensures.task)

pub returns-in_err-carry_out-clause-unfit : goal.returns-in_err-carry_out-clause-unfit
returns-in_err-carry_out-clause-unfit g c = λ unfit. absurd (fits _ _ c.in_ok-task.ensures.task unfit)

pub returns-clause-refused : goal.returns-clause-refused
returns-clause-refused g c = λ none. absurd (none _ c.in_ok-task.ensures.task)

pub returns-clause-unfit : goal.returns-clause-unfit
returns-clause-unfit g c = λ unfit. absurd (fits _ _ c.in_ok-task.ensures.task unfit)

-- where there is a task, words ask for it; before, nothing is read or written

pub returns-in_err-task-clause-begun : goal.returns-in_err-task-clause-begun
returns-in_err-task-clause-begun g c = inr (refl, refl)

pub returns-in_err-carry_out-clause-begun : goal.returns-in_err-carry_out-clause-begun
returns-in_err-carry_out-clause-begun g c = inl (_, c.in_ok-task.ensures.task)

pub returns-clause-begun : goal.returns-clause-begun
returns-clause-begun g c = inl (_, c.in_ok-task.ensures.task)
