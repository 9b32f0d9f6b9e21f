-- A run: inputs taken on a track, from a desk on (own rule).
use Rattle.std.specs.Prelude.{◌≡◌, ℕ, ◌+◌, ◌-◌, ◌≤◌, List, [], length, take, Some, slice_get}
use Rattle.std.specs.List.{All}
use Rattle.rbc_track.specs.Plan.{Plan, IsPlan}
use Rattle.rbc_rule.specs.declared.input.Input.{Input}
use Rattle.rbc_rule.specs.Inputs.{Fits}
use Rattle.rbc_desk.specs.declared.outbox.Mail.{Mail}
use Rattle.rbc_desk.specs.Serial.{Desk, serial}
use Rattle.rbc_desk.specs.Held.{Held, Standing, standing, Holds, AreOutboxes, max_results}
use Rattle.rbc_desk.specs.SaidMails.{AreSaidMails}

-- the track, what is held before, and the inputs
pub record Run : Type 0 where
  pub track : Plan
  pub opening : Held
  pub inputs : List Input

-- a run of no inputs, from a new desk on an empty track
abbrev pub empty_run : Run
empty_run = record { track = record { horizon = 0; lines = []; groups = [] }; opening = record { records = []; results = []; outboxes = [] }; inputs = [] }

-- A run can be made: what is held before is a desk with a well-formed world, each input is one that a batch can have, and there is room
-- for the result of each.
pub record IsGoodRun (run : Run) : Type 0 where
  pub track : IsPlan run.track
  pub desk : Desk
  pub holds : Holds run.track (standing run.opening) desk
  pub in_order : AreOutboxes run.opening.outboxes
  pub fit : All Fits run.inputs
  pub few : length run.opening.results + length run.inputs ≤ max_results

-- the input of a number, which counts from 1
pub record IsInput (run : Run) (number : ℕ) (input : Input) : Type 0 where
  pub first : 1 ≤ number
  pub there : slice_get run.inputs (number - 1) ≡ Some input

-- what is held is the desk of the rules applied to the first inputs, one after another
abbrev pub IsSerialRun : Run → ℕ → Standing → Type 0
IsSerialRun run count held = (desk : Desk) → Holds run.track (standing run.opening) desk → Holds run.track held (serial run.track desk (take count run.inputs))

-- what is held after the first inputs of a run adds only such mails to what was held before
abbrev pub IsSaidSince : Run → ℕ → List (ℕ × List Mail) → Type 0
IsSaidSince run count outboxes =
    (desk : Desk) → Holds run.track (standing run.opening) desk → AreSaidMails run.track desk (take count run.inputs) run.opening.outboxes outboxes
