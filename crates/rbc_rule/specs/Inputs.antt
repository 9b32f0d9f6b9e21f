-- The inputs that a batch can have (own rule).
use Rattle.std.specs.Prelude.{◌≤◌, length}
use Rattle.rbc_settle.specs.Trains.{max_engine, max_train_length}
use Rattle.rbc_rule.specs.Bounds.{max_bad_code}
use Rattle.rbc_rule.specs.declared.input.Input.{Input}
use Rattle.rbc_rule.specs.declared.input.Input.TheVariants.{Enrol, Withdraw, Stop, Release, Restrict, Lift, Received, Bad}

-- an engine number has 24 bits, a train is 1 to 40,000 units of 10 cm long, a stop has at least one segment, and a bad line a code of 1 to 6
abbrev pub Fits : Input → Type 0
Fits (Enrol engine train_length) = (engine ≤ max_engine) × ((1 ≤ train_length) × (train_length ≤ max_train_length))
Fits (Withdraw engine) = engine ≤ max_engine
Fits (Stop number segments) = 1 ≤ length segments
Fits (Release number) = Unit
Fits (Restrict number segment dirs speed front) = Unit
Fits (Lift number) = Unit
Fits (Received message) = Unit
Fits (Bad code) = (1 ≤ code) × (code ≤ max_bad_code)
