-- Lines that have begun, and lead to the same result however they go on.
use Rattle.std.specs.Prelude.{◌≡◌, ℕ, Bool, true, false, List, ◌++◌}
use Rattle.rbc_track.specs.Plan.{Plan}
use Rattle.rbc_rule.specs.declared.input.Input.{Input}
use Rattle.rbc_rule.specs.declared.input.Input.TheVariants.{Enrol, Withdraw, Stop, Release, Restrict, Lift, Received, Bad}
use Rattle.rbc_rule.specs.World.{World}
use Rattle.rbc_rule.specs.Step.{step}
use Rattle.rbc_text.specs.BatchText.{Line, line_of, IsInput}

-- for each input of the first line, the second line has an input whose step is the same, on each track and in each world
abbrev pub ActsAs : Line → Line → Type 0
ActsAs kept line = (input : Input) → IsInput kept input → (other : Input) × IsInput line other × ((plan : Plan) (w : World) → step plan w other ≡ step plan w input)

-- the same for two lines that have begun, whatever follows
abbrev pub GoesOnAs : List ℕ → List ℕ → Type 0
GoesOnAs kept line = (more : List ℕ) → ActsAs (line_of (kept ++ more)) (line_of (line ++ more))

-- the most bytes that are kept of a line that has not ended
abbrev pub max_kept : ℕ
max_kept = 65536

-- an emergency stop
abbrev pub is_stop : Input → Bool
is_stop (Stop number segments) = true
is_stop (Enrol engine train_length) = false
is_stop (Withdraw engine) = false
is_stop (Release number) = false
is_stop (Restrict number segment dirs speed front) = false
is_stop (Lift number) = false
is_stop (Received message) = false
is_stop (Bad code) = false
