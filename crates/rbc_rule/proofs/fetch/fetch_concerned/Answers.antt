use Rattle.std.proofs.Common.{rules, refl, subst, sym, ap, ◌∙◌, IfSome, option_copied}
use Rattle.rbc_track.specs.Plan.{Plan}
use Rattle.rbc_settle.specs.Numbers.{AreNumbers}
use Rattle.rbc_records.specs.declared.search.Sought.TheVariants as sought
use Rattle.rbc_rule.specs.World.{World}
use Rattle.rbc_rule.specs.Right.{MayBe}
use Rattle.rbc_rule.specs.Lists.{AreEnginesOf, HaveSought, may_stop}
use Rattle.rbc_rule.proofs.Worlds.{may_have_been}
use Rattle.rbc_rule.proofs.GatherKnown.{extends_same}
use Rattle.rbc_rule.proofs.Deciding.{read_fault}
use Rattle.rbc_rule.proofs.Concerned.{concerned_enough, stop_enough}
use Rattle.rbc_rule.proofs.fetch.fetch_concerned.Goals as goal

pub returns-in_err-engines-clause-reads : goal.returns-in_err-engines-clause-reads
returns-in_err-engines-clause-reads g c =
    read_fault c.from_residual.result c.in_err-engines.field-0.0 c.from_residual.ensures.1 c.in_err-engines.ensures.fault extends_same refl

pub returns-in-Some-2-clause-enough : goal.returns-in-Some-2-clause-enough
returns-in-Some-2-clause-enough g c = λ w m.
    let plan = c.args.track.now in
    let notes = g.S.Reader.notes c.args.store.now in
    let engines = c.in-Some-2.engines in
    let numbers : AreNumbers engines = search rules in
    let what = sought.Stoppable c.args.number c.in-Some.area in
    let have : HaveSought what w engines =
    subst (λ found. IfSome found (λ engines. (plan : Plan) (w : World) → MayBe plan notes w → HaveSought what w engines)) c.in-Some-2.is c.in_ok-engines.ensures.sought plan w m in
    concerned_enough plan w m.well_formed c.args.stops.now c.args.number c.args.segments.now c.in-Some.area engines (c.requires.begun w m)
    (sym (ap option_copied c.in-Some.is) ∙ c.get.ensures) numbers have

pub returns-clause-enough : goal.returns-clause-enough
returns-clause-enough g c = λ w m.
    let plan = c.args.track.now in
    let engines = c.in_ok-engines-2.engines in
    let numbers : AreNumbers engines = search rules in
    stop_enough plan w m.well_formed c.args.stops.now c.args.number c.args.segments.now engines (c.requires.begun w (may_have_been c.fetch_stoppable.ensures.reads.extends m)) numbers
    (subst (λ segments. AreEnginesOf (may_stop segments) w engines) c.as_slice.ensures (c.in_ok-engines-2.ensures.engines plan w m))
