use Rattle.std.proofs.Common.{None, ap, ◌∙◌}
use Rattle.rbc_records.specs.declared.record.Key.TheVariants as key
use Rattle.rbc_records.specs.declared.record.Rec.TheVariants as rec
use Rattle.rbc_rule.specs.Effect.{stops_after}
use Rattle.rbc_rule.specs.Bounds.{max_stops}
use Rattle.rbc_rule.proofs.Begun.{adding_begins, adding_good}
use Rattle.rbc_rule.proofs.Differs.{begun_differs}
use Rattle.rbc_rule.specs.declared.input.Input.TheVariants.{Stop}
use Rattle.rbc_rule.specs.Codes.{code_of}
use Rattle.rbc_rule.proofs.Worlds.{may_have_been, refusal_is}
use Rattle.rbc_rule.proofs.AllTrains.{stop_refused, stop_right}
use Rattle.rbc_rule.proofs.AllChanges.{settled_changes, stops_change}
use Rattle.rbc_rule.proofs.Deciding.{fault_decides, outcome_decides, refusal_decides}
use Rattle.rbc_rule.proofs.commands.stop.Goals as goal

pub returns-in_err-stops : goal.returns-in_err-stops
returns-in_err-stops g c =
    let residual = c.from_residual-in_err-stops in
    fault_decides residual.result c.in_err-stops.field-0.0 residual.ensures.1 (c.in_err-stops.ensures.fault c.args.track.now) c.fetch.ensures.reads.extends c.in_ok-fetch.ensures.reads.failed

pub stop_begun-requires-clause-good : goal.stop_begun-requires-clause-good
stop_begun-requires-clause-good g c = adding_good max_stops _ c.args.number c.args.segments.now c.in_ok-stops.stops.now c.in-Ok.stops c.in-Ok.ensures.ok

pub stop_begun-requires-clause-begun : goal.stop_begun-requires-clause-begun
stop_begun-requires-clause-begun g c = λ w m.
    let plan = c.args.track.now in
    let was = c.in_ok-stops.ensures.stops plan w m in
    adding_begins max_stops _ c.args.number c.args.segments.now w.stops c.in-Ok.stops (c.in-Ok.ensures.ok ∙ ap (stops_after plan c.args.number c.args.segments.now) was)

-- what was read is the world's, so the outcome is the step's
pub returns-in-Ok : goal.returns-in-Ok
returns-in-Ok g c =
    let plan = c.args.track.now in
    let new = c.in-Ok.stops in
    outcome_decides (Stop c.args.number c.args.segments.now) c.stop_begun.result c.stop_begun.ensures c.fetch.ensures.reads.extends c.in_ok-fetch.ensures.reads.failed
    (λ w outcome m is.
    let was = c.in_ok-stops.ensures.stops plan w (may_have_been c.stop_begun.ensures.extends m) in
    let ok = c.in-Ok.ensures.ok ∙ ap (stops_after plan c.args.number c.args.segments.now) was in (
      stop_right plan w c.args.number c.args.segments.now new outcome ok is m.well_formed,
      settled_changes plan new w.limits None w (Stop c.args.number c.args.segments.now) key.Stops (rec.Stops new) outcome m.well_formed is
          (stops_change w new (begun_differs c.args.number c.args.segments.now w.stops new (adding_begins max_stops _ c.args.number c.args.segments.now w.stops new ok))),
    ))

pub returns-in-Err-Refused : goal.returns-in-Err-Refused
returns-in-Err-Refused g c =
    let plan = c.args.track.now in
    let code = code_of c.in-Err-Refused.refusal in
    refusal_decides code c.refused.result c.refused.ensures.outcome
    (λ w m.
    let reason = refusal_is _ c.in-Err-Refused.field-0 c.in-Err-Refused.refusal c.in-Err-Refused.field-0-is c.in-Err-Refused.ensures.err in
    stop_refused plan w c.args.number c.args.segments.now code (reason ∙ ap (stops_after plan c.args.number c.args.segments.now) (c.in_ok-stops.ensures.stops plan w m)))
    c.fetch.ensures.reads.extends c.in_ok-fetch.ensures.reads.failed
