use Rattle.std.proofs.Common.{None, subst, ap, sym}
use Rattle.rbc_records.specs.declared.record.Key.TheVariants as key
use Rattle.rbc_records.specs.declared.record.Rec.TheVariants as rec
use Rattle.rbc_rule.specs.Gathered.{IsEnough, settled_outcome}
use Rattle.rbc_rule.proofs.Worlds.{may_have_been}
use Rattle.rbc_rule.proofs.Deciding.{in_words, made}
use Rattle.rbc_rule.proofs.Begun.{released_begun}
use Rattle.rbc_rule.proofs.begin_and_end.stop_begun.Goals as goal

pub settled_with_stops-requires-clause-enough : goal.settled_with_stops-requires-clause-enough
settled_with_stops-requires-clause-enough g c = λ w m.
    let stops = c.args.stops in
    let begun = c.requires.begun w (may_have_been c.fetch_concerned.ensures.reads.extends m) in
    subst (λ released. IsEnough c.args.track.now stops w.limits released w.trains c.in_ok-engines.engines) (sym (released_begun c.args.number c.args.segments.now w.stops stops begun))
    (c.in_ok-engines.ensures.enough w m)

pub returns : goal.returns
returns g c =
    let plan = c.args.track.now in
    let stops = c.args.stops in
    made c.settled_with_stops.result (in_words (λ w. settled_outcome plan stops w.limits None w.trains key.Stops (rec.Stops stops)) c.settled_with_stops.result c.settled_with_stops.ensures
    (λ w m.
    let begun = c.requires.begun w (may_have_been c.fetch_concerned.ensures.reads.extends m) in
    ap (λ released. settled_outcome plan stops w.limits released w.trains key.Stops (rec.Stops stops)) (released_begun c.args.number c.args.segments.now w.stops stops begun)))
    c.fetch_concerned.ensures.reads.extends c.in_ok-engines.ensures.reads.failed
