use Rattle.std.proofs.Common.{◌≡◌, Some, sym, ◌∙◌}
use Rattle.std.proofs.lemmas.Result.{IfOk-weaker}
use Rattle.rbc_settle.specs.Settling.{actions_with_stamp}
use Rattle.rbc_records.specs.declared.record.Rec.TheVariants as rec
use Rattle.rbc_rule.proofs.in_place.is_settled_in.Goals as goal

pub returns-in-Some : goal.returns-in-Some
returns-in-Some c =
    let plan = c.args.track.now in
    IfOk-weaker c.is_settled.result _ _ (λ is settles yes w train well stops limits there.
    let stops_are = c.stops_in-stops.ensures plan w well stops in
    let limits_are = c.limits_in-limits.ensures plan w well limits in
    let both : Some (rec.Train c.in-Some.train.now) ≡ Some (rec.Train train) = sym c.in-Some.ensures.found ∙ there in
    let same : c.in-Some.train.now ≡ train = cc in
    sym (λ i. actions_with_stamp plan (stops_are i) (limits_are i) (same i)) ∙ settles yes) c.is_settled.ensures.settled
