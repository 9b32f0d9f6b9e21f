-- Why words ask for no task.
use Rattle.std.specs.Prelude.{ℕ}
use Rattle.clap.specs.Words.{kind_of}
use Rattle.clap.specs.declared.error.Error.{Error}
use Rattle.clap.specs.declared.error.kind.ErrorKind.{ErrorKind}
use Rattle.clap.specs.declared.error.kind.ErrorKind.TheVariants as kind
use Rattle.rbc_dispatch.specs.declared.no_task.NoTask.{NoTask}
use Rattle.rbc_dispatch.specs.declared.no_task.NoTask.TheVariants.{Words, OutOfMemory}

-- the exit status of what clap answers: help is no mistake
abbrev pub status_of_kind : ErrorKind → ℕ
status_of_kind kind.DisplayHelp = 0
status_of_kind kind.DisplayVersion = 0
status_of_kind _ = 2

-- the exit status if there is no task
abbrev pub status_of : NoTask → ℕ
status_of (Words error) = status_of_kind (kind_of error)
status_of OutOfMemory = 1

-- why there is no task, by what clap answers
abbrev pub no_task_of_kind : ErrorKind → Error → NoTask
no_task_of_kind kind.OutOfMemory error = OutOfMemory
no_task_of_kind _ error = Words error

-- what is made of clap's answer
abbrev pub no_task_of : Error → NoTask
no_task_of error = no_task_of_kind (kind_of error) error
