-- A step of a well-formed world leaves a well-formed world.
use Rattle.std.proofs.Common.{ℕ, Result, Ok, Err}
use Rattle.rbc_track.specs.Plan.{Plan}
use Rattle.rbc_settle.specs.WellFormed.{SettlingKeepsTrains}
use Rattle.rbc_rule.specs.World.{World}
use Rattle.rbc_rule.specs.Effect.{effect}
use Rattle.rbc_rule.specs.Step.{after}
use Rattle.rbc_rule.specs.WellFormed.{IsWellFormed}
use Rattle.rbc_rule.specs.Laws.{EachStepKeepsWorlds}
use Rattle.rbc_rule_laws.proofs.KeepsWorlds.{ReadyIfOk, ready_settled, effect_ready}

kept_after : SettlingKeepsTrains → (plan : Plan) (w : World) (r : Result World ℕ) → IsWellFormed plan w → ReadyIfOk plan r → IsWellFormed plan (after plan w r).world
kept_after keeps plan w (Ok changed) well ready = ready_settled plan keeps changed ready
kept_after keeps plan w (Err code) well ready = well

-- where settling keeps trains, each step keeps worlds
pub step_keeps : SettlingKeepsTrains → EachStepKeepsWorlds
step_keeps keeps plan w input track fits well = kept_after keeps plan w (effect plan input w) well (effect_ready plan w well input track fits)
