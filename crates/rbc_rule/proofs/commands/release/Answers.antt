use Rattle.std.proofs.Common.{Some, ap, ◌∙◌}
use Rattle.rbc_records.specs.declared.record.Key.TheVariants as key
use Rattle.rbc_records.specs.declared.record.Rec.TheVariants as rec
use Rattle.rbc_rule.specs.Effect.{after_removing}
use Rattle.rbc_rule.proofs.Begun.{removing_ends, removing_there}
use Rattle.rbc_rule.proofs.Differs.{ended_differs}
use Rattle.rbc_rule.specs.declared.input.Input.TheVariants.{Release}
use Rattle.rbc_rule.specs.Codes.{code_of}
use Rattle.rbc_rule.proofs.Worlds.{may_have_been, refusal_is}
use Rattle.rbc_rule.proofs.AllTrains.{release_refused, release_right}
use Rattle.rbc_rule.proofs.AllChanges.{settled_changes, stops_change}
use Rattle.rbc_rule.proofs.Deciding.{fault_decides, outcome_decides, refusal_decides}
use Rattle.rbc_rule.proofs.commands.release.Goals as goal

pub returns-in_err-stops : goal.returns-in_err-stops
returns-in_err-stops g c =
    let residual = c.from_residual-in_err-stops in
    fault_decides residual.result c.in_err-stops.field-0.0 residual.ensures.1 (c.in_err-stops.ensures.fault c.args.track.now) c.fetch.ensures.reads.extends c.in_ok-fetch.ensures.reads.failed

pub stop_ended-requires-clause-ended : goal.stop_ended-requires-clause-ended
stop_ended-requires-clause-ended g c = λ w m.
    let was = c.in_ok-stops.ensures.stops c.args.track.now w m in
    removing_ends c.args.number w.stops c.in-Ok.stops (c.in-Ok.ensures.ok ∙ ap (after_removing c.args.number) was)

-- what was read is the world's, so the outcome is the step's
pub returns-in-Ok : goal.returns-in-Ok
returns-in-Ok g c =
    let plan = c.args.track.now in
    let new = c.in-Ok.stops in
    outcome_decides (Release c.args.number) c.stop_ended.result c.stop_ended.ensures c.fetch.ensures.reads.extends c.in_ok-fetch.ensures.reads.failed
    (λ w outcome m is.
    let was = c.in_ok-stops.ensures.stops plan w (may_have_been c.stop_ended.ensures.extends m) in
    let ok = c.in-Ok.ensures.ok ∙ ap (after_removing c.args.number) was in (
      release_right plan w c.args.number new outcome ok is m.well_formed,
      settled_changes plan new w.limits (Some c.args.number) w (Release c.args.number) key.Stops (rec.Stops new) outcome m.well_formed is
          (stops_change w new (ended_differs c.args.number w.stops new (removing_there c.args.number w.stops new ok) (removing_ends c.args.number w.stops new ok))),
    ))

pub returns-in-Err-Refused : goal.returns-in-Err-Refused
returns-in-Err-Refused g c =
    let plan = c.args.track.now in
    let code = code_of c.in-Err-Refused.refusal in
    refusal_decides code c.refused.result c.refused.ensures.outcome
    (λ w m.
    let reason = refusal_is _ c.in-Err-Refused.field-0 c.in-Err-Refused.refusal c.in-Err-Refused.field-0-is c.in-Err-Refused.ensures.err in
    release_refused plan w c.args.number code (reason ∙ ap (after_removing c.args.number) (c.in_ok-stops.ensures.stops plan w m)))
    c.fetch.ensures.reads.extends c.in_ok-fetch.ensures.reads.failed
