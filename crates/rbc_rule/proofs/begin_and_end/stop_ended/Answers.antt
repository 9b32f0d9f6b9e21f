use Rattle.std.proofs.Common.{Some, rules, subst, ap, sym}
use Rattle.rbc_settle.specs.Numbers.{AreNumbers}
use Rattle.rbc_records.specs.declared.record.Key.TheVariants as key
use Rattle.rbc_records.specs.declared.record.Rec.TheVariants as rec
use Rattle.rbc_rule.specs.Gathered.{IsEnough, settled_outcome}
use Rattle.rbc_rule.proofs.Worlds.{may_have_been}
use Rattle.rbc_rule.proofs.Deciding.{in_words, made}
use Rattle.rbc_rule.proofs.Begun.{released_ended}
use Rattle.rbc_rule.proofs.Concerned.{stop_end_enough}
use Rattle.rbc_rule.proofs.begin_and_end.stop_ended.Goals as goal

pub settled_with_stops-requires-clause-enough : goal.settled_with_stops-requires-clause-enough
settled_with_stops-requires-clause-enough g c = λ w m.
    let plan = c.args.track.now in
    let stops = c.args.stops in
    let engines = c.in_ok-engines.engines in
    let ended = c.requires.ended w (may_have_been c.fetch_told.ensures.reads.extends m) in
    let numbers : AreNumbers engines = search rules in
    subst (λ released. IsEnough plan stops w.limits released w.trains engines) (sym (released_ended c.args.number w.stops stops ended))
    (stop_end_enough plan w m.well_formed stops c.args.number engines ended numbers (c.in_ok-engines.ensures.sought plan w m))

pub returns : goal.returns
returns g c =
    let plan = c.args.track.now in
    let stops = c.args.stops in
    made c.settled_with_stops.result (in_words (λ w. settled_outcome plan stops w.limits (Some c.args.number) w.trains key.Stops (rec.Stops stops)) c.settled_with_stops.result c.settled_with_stops.ensures
    (λ w m.
    let ended = c.requires.ended w (may_have_been c.fetch_told.ensures.reads.extends m) in
    ap (λ released. settled_outcome plan stops w.limits released w.trains key.Stops (rec.Stops stops)) (released_ended c.args.number w.stops stops ended)))
    c.fetch_told.ensures.reads.extends c.in_ok-engines.ensures.reads.failed
