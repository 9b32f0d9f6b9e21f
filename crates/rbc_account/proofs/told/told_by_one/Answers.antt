use Rattle.std.proofs.Common.{◌≡◌, option_copied, sym, ap, ◌∙◌, subst}
use Rattle.std.proofs.lemmas.Option.{same_Some}
use Rattle.rbc_settle.specs.declared.train.TrainRec.{TrainRec}
use Rattle.rbc_live.specs.Known.{active_stops, active_limits}
use Rattle.rbc_account.specs.Found.{HasSubject, IsRevokedBy, IsLiftedBy}
use Rattle.rbc_account.proofs.told.told_by_one.Goals as goal

pub returns-clause-known : goal.returns-clause-known
returns-clause-known c =
    let records = c.args.desk.now.records in
    let before = option_copied c.args.before in
    λ found.
    let same : found.0 ≡ c.in-Some.train.now = same_Some found.0 c.in-Some.train.now (sym found.1 ∙ sym c.train_in.ensures ∙ ap option_copied c.in-Some.is) in
    c.in_ok-what.ensures.known
    (subst (λ (train : TrainRec). HasSubject (active_stops records) (active_limits records) train (IsRevokedBy c.args.input.now before)
    (IsLiftedBy c.args.input.now before (active_limits records) train.place) c.args.sent.now.message) same found.2)
