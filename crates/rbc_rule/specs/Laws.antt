-- What the rules promise of each step (own rule).
use Rattle.rbc_track.specs.Plan.{Plan, IsPlan}
use Rattle.rbc_rule.specs.declared.input.Input.{Input}
use Rattle.rbc_rule.specs.Inputs.{Fits}
use Rattle.rbc_rule.specs.World.{World}
use Rattle.rbc_rule.specs.Step.{step}
use Rattle.rbc_rule.specs.WellFormed.{IsWellFormed}

-- this holds on each track and for each input that a batch can have
abbrev pub EachStepKeepsWorlds : Type 0
EachStepKeepsWorlds =
    (plan : Plan) (w : World) (input : Input) → IsPlan plan → Fits input → IsWellFormed plan w → IsWellFormed plan (step plan w input).world
