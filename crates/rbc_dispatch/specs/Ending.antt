-- How the program ends if its task was not done.
use Rattle.std.specs.Prelude.{◌≡◌, ◌⊎◌, ◌≢◌, ℕ, List, [], ◌∷◌, ◌++◌, Option, Result, Ok, Err}
use Rattle.std.specs.Io.KnownBytes.{Appends}
use Rattle.clap.specs.Words.{kind_of}
use Rattle.rbc_account.specs.declared.fault.TellError.TheVariants as telling
use Rattle.rbc_dispatch.specs.NoTask.{status_of_kind}
use Rattle.rbc_dispatch.specs.declared.no_task.NoTask.{NoTask}
use Rattle.rbc_dispatch.specs.declared.no_task.NoTask.TheVariants as no_task
use Rattle.rbc_dispatch.specs.Fault.{line_of}
use Rattle.rbc_dispatch.specs.declared.ending.Ending.{Ending}
use Rattle.rbc_dispatch.specs.declared.ending.Ending.TheVariants.{Words, Fault}
use Rattle.rbc_dispatch.specs.declared.fault.Fault.{Fault as AnyFault}
use Rattle.rbc_dispatch.specs.declared.fault.Fault.TheVariants.{OutOfMemory, ReaderGone, Tell}

-- the exit status of a fault; it is 0 if the reader of a text for people went away
abbrev pub status_of_fault : AnyFault → ℕ
status_of_fault (ReaderGone sent) = 0
status_of_fault (Tell (telling.ReaderGone sent)) = 0
status_of_fault _ = 1

-- the exit status of an ending
abbrev pub status_of : Ending → ℕ
status_of (Words error) = status_of_kind (kind_of error)
status_of (Fault fault) = status_of_fault fault

-- the ending if the words ask for no task: lack of memory is a fault
abbrev pub ending_of : NoTask → Ending
ending_of (no_task.Words error) = Words error
ending_of no_task.OutOfMemory = Fault OutOfMemory

-- memory ran out, or the words are refused with status 2
abbrev pub IsRefusal : Ending → Type 0
IsRefusal ending = (ending ≡ Fault OutOfMemory) ⊎ (status_of ending ≡ 2)

-- a fault adds its line, with a line feed, to what the stream held; a reader that went away is told nothing
abbrev pub PrintsLine : AnyFault → Option (List ℕ) → Option (List ℕ) → Type 0
PrintsLine (ReaderGone sent) old new = Unit {0}
PrintsLine (Tell (telling.ReaderGone sent)) old new = Unit {0}
PrintsLine fault old new = Appends old new (line_of fault ++ 10 ∷ [])

abbrev pub PrintsFault : Ending → Option (List ℕ) → Option (List ℕ) → Type 0
PrintsFault (Words error) old new = Unit {0}
PrintsFault (Fault fault) old new = PrintsLine fault old new

-- the ending is not help, which is printed on standard output
abbrev pub IsNoHelp : Ending → Type 0
IsNoHelp (Words error) = status_of_kind (kind_of error) ≢ 0
IsNoHelp (Fault fault) = Unit {0}

-- the words are taken, and the task ends as the fact says
abbrev pub AtTask : {E : Type 0} → (Result E AnyFault → Type 0) → Result E Ending → Type 0
AtTask P (Ok done) = P (Ok done)
AtTask P (Err (Fault fault)) = P (Err fault)
AtTask P (Err (Words error)) = ⊥
