use Rattle.std.proofs.Common.{None, ap, ◌∙◌}
use Rattle.rbc_records.specs.declared.record.Key.TheVariants as key
use Rattle.rbc_records.specs.declared.record.Rec.TheVariants as rec
use Rattle.rbc_rule.specs.Effect.{limits_after}
use Rattle.rbc_rule.specs.Bounds.{max_limits}
use Rattle.rbc_rule.specs.Touching.{limit_of}
use Rattle.rbc_rule.proofs.Begun.{adding_begins, adding_good}
use Rattle.rbc_rule.proofs.Differs.{begun_differs}
use Rattle.rbc_rule.specs.declared.input.Input.TheVariants.{Restrict}
use Rattle.rbc_rule.specs.Codes.{code_of}
use Rattle.rbc_rule.proofs.Worlds.{may_have_been, refusal_is}
use Rattle.rbc_rule.proofs.AllTrains.{restrict_refused, restrict_right}
use Rattle.rbc_rule.proofs.AllChanges.{settled_changes, limits_change}
use Rattle.rbc_rule.proofs.Deciding.{fault_decides, outcome_decides, refusal_decides}
use Rattle.rbc_rule.proofs.commands.restrict.Goals as goal

pub returns-in_err-limits : goal.returns-in_err-limits
returns-in_err-limits g c =
    let residual = c.from_residual-in_err-limits in
    fault_decides residual.result c.in_err-limits.field-0.0 residual.ensures.1 (c.in_err-limits.ensures.fault c.args.track.now) c.fetch.ensures.reads.extends c.in_ok-fetch.ensures.reads.failed

pub limit_begun-requires-clause-good : goal.limit_begun-requires-clause-good
limit_begun-requires-clause-good g c = adding_good max_limits _ c.args.new.now.number (limit_of c.args.new.now) c.in_ok-limits.limits.now c.in-Ok.limits c.in-Ok.ensures.ok

pub limit_begun-requires-clause-begun : goal.limit_begun-requires-clause-begun
limit_begun-requires-clause-begun g c = λ w m.
    let plan = c.args.track.now in
    let new = c.args.new.now in
    let was = c.in_ok-limits.ensures.limits plan w m in
    adding_begins max_limits _ new.number (limit_of new) w.limits c.in-Ok.limits (c.in-Ok.ensures.ok ∙ ap (limits_after plan new.number new.segment new.dirs new.speed new.front) was)

-- what was read is the world's, so the outcome is the step's
pub returns-in-Ok : goal.returns-in-Ok
returns-in-Ok g c =
    let plan = c.args.track.now in
    let new = c.in-Ok.limits in
    outcome_decides (Restrict c.args.new.now.number c.args.new.now.segment c.args.new.now.dirs c.args.new.now.speed c.args.new.now.front) c.limit_begun.result c.limit_begun.ensures c.fetch.ensures.reads.extends c.in_ok-fetch.ensures.reads.failed
    (λ w outcome m is.
    let was = c.in_ok-limits.ensures.limits plan w (may_have_been c.limit_begun.ensures.extends m) in
    let ok = c.in-Ok.ensures.ok ∙ ap (limits_after plan c.args.new.now.number c.args.new.now.segment c.args.new.now.dirs c.args.new.now.speed c.args.new.now.front) was in (
      restrict_right plan w c.args.new.now.number c.args.new.now.segment c.args.new.now.dirs c.args.new.now.speed c.args.new.now.front new outcome ok is m.well_formed,
      settled_changes plan w.stops new None w (Restrict c.args.new.now.number c.args.new.now.segment c.args.new.now.dirs c.args.new.now.speed c.args.new.now.front) key.Limits (rec.Limits new) outcome m.well_formed is
          (limits_change w new (begun_differs c.args.new.now.number (limit_of c.args.new.now) w.limits new (adding_begins max_limits _ c.args.new.now.number (limit_of c.args.new.now) w.limits new ok))),
    ))

pub returns-in-Err-Refused : goal.returns-in-Err-Refused
returns-in-Err-Refused g c =
    let plan = c.args.track.now in
    let code = code_of c.in-Err-Refused.refusal in
    refusal_decides code c.refused.result c.refused.ensures.outcome
    (λ w m.
    let reason = refusal_is _ c.in-Err-Refused.field-0 c.in-Err-Refused.refusal c.in-Err-Refused.field-0-is c.in-Err-Refused.ensures.err in
    restrict_refused plan w c.args.new.now.number c.args.new.now.segment c.args.new.now.dirs c.args.new.now.speed c.args.new.now.front code (reason ∙ ap (limits_after plan c.args.new.now.number c.args.new.now.segment c.args.new.now.dirs c.args.new.now.speed c.args.new.now.front) (c.in_ok-limits.ensures.limits plan w m)))
    c.fetch.ensures.reads.extends c.in_ok-fetch.ensures.reads.failed
