use Rattle.std.proofs.Common.{◌∙◌, sym, ap, option_copied, eq-eqb}
use Rattle.std.proofs.lemmas.Bool.{ne_eqb}
use Rattle.rbc_maps.specs.Maps.{keys}
use Rattle.rbc_rule.specs.declared.input.Input.TheVariants.{Withdraw}
use Rattle.rbc_rule.specs.Codes.{code_of}
use Rattle.rbc_rule.specs.declared.refuse.Refusal.TheVariants.{StopsOutstanding}
use Rattle.rbc_rule.specs.Lists.{engines_at}
use Rattle.rbc_rule.specs.Gathered.{withdrawn_outcome}
use Rattle.rbc_rule.proofs.GatherKnown.{extends_on}
use Rattle.rbc_rule.proofs.Worlds.{may_have_been}
use Rattle.rbc_rule.proofs.EachChanges.{withdraw_changes}
use Rattle.rbc_rule.proofs.OneTrain.{withdraw_outstanding, withdraw_right}
use Rattle.rbc_rule.proofs.Deciding.{fault_decides, made, outcome_decides, refusal_decides}
use Rattle.rbc_rule.proofs.withdraw.withdraw.Goals as goal

pub returns-in_err-train : goal.returns-in_err-train
returns-in_err-train g c =
    let residual = c.from_residual-in_err-train in
    fault_decides residual.result c.in_err-train.field-0.0 residual.ensures.1 (c.in_err-train.ensures.fault c.args.track.now) c.fetch.ensures.reads.extends c.in_ok-fetch.ensures.reads.failed

pub returns-then-held-ne0 : goal.returns-then-held-ne0
returns-then-held-ne0 g c =
    let plan = c.args.track.now in
    refusal_decides (code_of StopsOutstanding) c.refused-then-held-ne0.result c.refused-then-held-ne0.ensures.outcome
    (λ w m.
    let found = sym (ap option_copied c.in-Some.is) ∙ c.in_ok-train.ensures.train plan w m in
    withdraw_outstanding plan w c.args.engine c.in-Some.train.now found (ne_eqb _ 0 (λ none. c.if-held-ne0.true (c.held.ensures.value ∙ none))))
    c.fetch.ensures.reads.extends c.in_ok-fetch.ensures.reads.failed

-- what was read is the world's, so the outcome is the step's
pub returns : goal.returns
returns g c =
    let plan = c.args.track.now in
    let lists = extends_on c.fetch-2.ensures.reads.extends c.fetch-3.ensures.reads.extends in
    outcome_decides (Withdraw c.args.engine) c.withdrawn.result
    (made c.withdrawn.result (c.withdrawn.ensures plan) lists (c.in_ok-fetch-3.ensures.reads.failed ∙ c.in_ok-fetch-2.ensures.reads.failed))
    c.fetch.ensures.reads.extends c.in_ok-fetch.ensures.reads.failed
    (λ w outcome m is.
    let found = sym (ap option_copied c.in-Some.is) ∙ c.in_ok-train.ensures.train plan w (may_have_been lists m) in
    let made = is ∙ ap (λ list. withdrawn_outcome c.args.engine (keys w.trains) list (engines_at w list)) c.list_of-list.ensures.list in (
      withdraw_right plan w c.args.engine c.in-Some.train.now found outcome made m.well_formed (eq-eqb _ 0 (sym c.held.ensures.value ∙ c.if-held-ne0.false)),
      withdraw_changes plan w c.args.engine c.in-Some.train.now m.well_formed.ascending (sym found) outcome made,
    ))
