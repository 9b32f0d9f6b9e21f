-- What a run by several workers leaves (own rule).
use Rattle.std.specs.Prelude.{◌≡◌, ◌⊎◌, ℕ, ◌+◌, ◌<◌, ◌≤◌, List, ◌++◌, codes, length, drop, take, Result, Ok, Err}
use Rattle.std.specs.Fmt.{decimal}
use Rattle.rbc_track.specs.Plan.{Plan}
use Rattle.rbc_rule.specs.declared.input.Input.{Input}
use Rattle.rbc_core.specs.Serial.{Desk}
use Rattle.rbc_core.specs.Held.{Held, Holds, standing, max_results}
use Rattle.rbc_core.specs.declared.book.Stats.{Stats}
use Rattle.rbc_core.specs.Runs.{Run, IsSerialRun, IsSaidSince}
use Rattle.rbc_engine.specs.declared.workers.RunError.{RunError}
use Rattle.rbc_engine.specs.declared.workers.RunError.TheVariants.{Workers, TooManyInputs, OutOfMemory}

-- the most workers
abbrev pub max_workers : ℕ
max_workers = 16

-- the most inputs of one run
abbrev pub max_inputs : ℕ
max_inputs = 100000

-- a run on this track can begin from what is held: it is a desk of the rules, with a well-formed world
abbrev pub IsOpening : Plan → Held → Type 0
IsOpening track held = (desk : Desk) × Holds track (standing held) desk

-- this many workers are allowed
abbrev pub MayWork : ℕ → Type 0
MayWork workers = (1 ≤ workers) × (workers ≤ max_workers)

-- the inputs are not too many, and there is room for their results
abbrev pub AreFew : Run → Type 0
AreFew run = (length run.inputs ≤ max_inputs) × (length run.opening.results + length run.inputs ≤ max_results)

-- what is held is the desk of the rules applied to the first inputs, this many, one after another, and each mail that
-- was added says what the rules give its train
abbrev pub IsDeskAfter : Run → ℕ → Held → Type 0
IsDeskAfter run count held = IsSerialRun run count (standing held) × IsSaidSince run count held.outboxes

-- What a stretch of a run leaves: some of its first inputs are done, at least one if it has any; or memory was refused
-- after the first of them.
abbrev pub IsStretch : Run → Result Stats RunError → Held → Type 0
IsStretch run (Ok stats) new =
    IsDeskAfter run stats.taken new × (stats.taken ≤ length run.inputs) × ((stats.taken ≡ length run.inputs) ⊎ (0 < stats.taken)) × (stats.recomputed ≤ stats.taken)
IsStretch run (Err (OutOfMemory committed)) new = IsDeskAfter run committed new × (committed ≤ length run.inputs)
IsStretch run (Err Workers) new = ⊥
IsStretch run (Err TooManyInputs) new = ⊥

-- some of the first inputs, at least one if there are any
abbrev pub AreFirst : List Input → List Input → Type 0
AreFirst inputs first = (count : ℕ) × (count ≤ length inputs) × ((count ≡ length inputs) ⊎ (0 < count)) × (first ≡ take count inputs)

-- the inputs of a run after this many, from the desk that these left
abbrev pub rest_of : Run → ℕ → Held → Run
rest_of run count mid = record { track = run.track; opening = mid; inputs = drop count run.inputs }

-- the sum of two counts
abbrev pub plus : Stats → Stats → Stats
plus all more = record { taken = all.taken + more.taken; recomputed = all.recomputed + more.recomputed }

-- the error of a run whose last stretch, after this many inputs, ended with an error
abbrev pub error_behind : ℕ → RunError → RunError
error_behind taken (OutOfMemory committed) = OutOfMemory (taken + committed)
error_behind taken error = error

-- what a run that was not refused leaves: every input is done, or memory was refused after the first of them
abbrev pub IsFinished : Run → Result Stats RunError → Held → Type 0
IsFinished run (Ok stats) new = IsDeskAfter run (length run.inputs) new × (stats.taken ≡ length run.inputs) × (stats.recomputed ≤ stats.taken)
IsFinished run (Err (OutOfMemory committed)) new = IsDeskAfter run committed new × (committed ≤ length run.inputs)
IsFinished run (Err Workers) new = ⊥
IsFinished run (Err TooManyInputs) new = ⊥

-- what a run by this many workers leaves, by its answer: refused because of the workers, refused because of the inputs, or not refused
abbrev pub IsRun : Run → ℕ → Result Stats RunError → Held → Type 0
IsRun run workers (Ok stats) new = MayWork workers × AreFew run × IsFinished run (Ok stats) new
IsRun run workers (Err Workers) new = ¬ (MayWork workers) × (new ≡ run.opening)
IsRun run workers (Err TooManyInputs) new = MayWork workers × ¬ (AreFew run) × (new ≡ run.opening)
IsRun run workers (Err (OutOfMemory committed)) new = MayWork workers × AreFew run × IsFinished run (Err (OutOfMemory committed)) new

-- the text of a fault
abbrev pub fault_text : RunError → List ℕ
fault_text Workers = codes "workers must be 1 to 16"
fault_text TooManyInputs = codes "too many inputs"
fault_text (OutOfMemory committed) = codes "out of memory after " ++ decimal committed ++ codes " inputs"
