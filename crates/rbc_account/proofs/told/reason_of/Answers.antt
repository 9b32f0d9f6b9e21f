use Rattle.std.proofs.Common.{Bool, Option, option_copied, sym, ap, ◌∙◌, subst}
use Rattle.rbc_place.specs.Placing.{Place}
use Rattle.rbc_settle.specs.Numbers.{has_number}
use Rattle.rbc_account.specs.Reasons.{IsStopReason}
use Rattle.rbc_account.proofs.told.reason_of.Goals as goal

pub returns-clause-is : goal.returns-clause-is
returns-clause-is c =
    let area = c.in_ok-area.area.now in
    let reason = c.stop_reason.result in (
      area,
      sym c.active_stop.ensures ∙ ap option_copied c.in_ok-area.was,
      subst (λ (place : Option Place). IsStopReason area (has_number c.args.train.now.forced c.args.number) place reason) c.as_ref.ensures.value
          (subst (λ (forced : Bool). IsStopReason area forced (option_copied c.as_ref.result) reason) c.has.ensures c.stop_reason.ensures.is),
    )
