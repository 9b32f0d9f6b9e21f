-- How a task ends that a `?` leaves.
use Rattle.std.proofs.Common.{◌≡◌, ap, Result, Ok, Err}
use Rattle.std.specs.Result.{IsErrAnd, result_unwrap_or}
use Rattle.rbc_dispatch.specs.declared.no_task.NoTask.{NoTask}
use Rattle.rbc_dispatch.specs.declared.no_task.NoTask.TheVariants as words
use Rattle.rbc_dispatch.specs.Ending.{AtTask, IsRefusal, ending_of}
use Rattle.rbc_dispatch.specs.declared.ending.Ending.{Ending}
use Rattle.rbc_dispatch.specs.declared.ending.Ending.TheVariants.{Fault as at_fault}
use Rattle.rbc_dispatch.specs.declared.fault.Fault.{Fault}
use Rattle.rbc_dispatch.specs.declared.fault.Fault.TheVariants.{OutOfMemory}

-- a fault that is handed on
pub at_handed_on : {E : Type 0} (r : Result E Ending) (P : Result E Fault → Type 0) (fault : Fault) → IsErrAnd r (λ x. x ≡ at_fault fault)
    → P (Err fault) → AtTask P r
at_handed_on (Ok done) P fault same holds = absurd same
at_handed_on (Err ending) P fault same holds = rw same holds

-- the words are not taken, since memory ran out
pub at_memory : {E : Type 0} (r : Result E Ending) (P : Result E Fault → Type 0) (no_task : NoTask) → IsErrAnd r (λ x. x ≡ ending_of no_task) → no_task ≡ words.OutOfMemory
    → P (Err OutOfMemory) → AtTask P r
at_memory (Ok done) P no_task same memory holds = absurd same
at_memory (Err ending) P no_task same memory holds = rw same (rw memory holds)

-- a task that is had is the one that it is said to be
pub task_is : {A E : Type 0} (x y : A) → ◌≡◌ {A = Result A E} (Ok x) (Ok y) → x ≡ y
task_is x y same = ap (λ r. result_unwrap_or r x) same

-- no task is had where there is one
pub no_task_is : {A E P : Type 0} (e : E) (y : A) → ◌≡◌ {A = Result A E} (Err e) (Ok y) → P
no_task_is e y same = absurd cc

-- words that are refused are handed on
pub refused_as : {E : Type 0} (r : Result E Ending) (no_task : NoTask) → IsErrAnd r (λ x. x ≡ ending_of no_task) → IsRefusal (ending_of no_task) → IsErrAnd r IsRefusal
refused_as (Ok done) no_task same refused = absurd same
refused_as (Err ending) no_task same refused = rw same refused
