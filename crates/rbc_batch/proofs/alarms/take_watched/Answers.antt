use Rattle.std.proofs.Common.{◌++◌, ◌∙◌, List, ℕ, length, ap, subst, sym}
use Rattle.std.specs.Prelude.{OnOk}
use Rattle.rbc_desk.proofs.Stands.{taken_in}
use Rattle.rbc_engine.specs.Held.{Held, Holds, Standing, after_outcome, standing}
use Rattle.rbc_engine.specs.Serial as serial
use Rattle.rbc_live.specs.Watching.{IsWatch}
use Rattle.rbc_live.proofs.Writing.{appended, in_any_case}
use Rattle.rbc_batch.proofs.Watched.{followed, one_watched, seen_between}
use Rattle.rbc_batch.proofs.alarms.take_watched.Goals as goal

pub returns-clause-taken : goal.returns-clause-taken
returns-clause-taken c = λ before h.
    let outcome = c.in-Ok.outcome in
    subst (λ (d : Held). OnOk c.extend_from_slice.result (Holds c.args.track.now (standing d) (serial.step c.args.track.now before c.args.input.now))) (sym c.keep_spare.ensures)
    (in_any_case c.extend_from_slice.result
    (taken_in c.args.track.now c.args.input.now (standing c.args.desk.now) (standing c.take_over.new.self) outcome c.is_plan.ensures c.requires.fits c.decide.ensures.in_order.0 c.in-Ok.ensures.right
    (c.in_ok-replaced.ensures.ok ∙ ap (λ (s : Standing). after_outcome s outcome) c.decide.ensures.same) before h))

pub returns-clause-watched : goal.returns-clause-watched
returns-clause-watched c = λ before h is.
    let outcome = c.in-Ok.outcome in
    subst (λ (d : Held). OnOk c.extend_from_slice.result (IsWatch c.args.track.now.horizon d.records c.follow.new.self)) (sym c.keep_spare.ensures)
    (in_any_case c.extend_from_slice.result
    (followed c.args.track.now c.args.input.now c.args.desk.now c.decide.new.self c.take_over.new.self outcome c.in_ok-replaced.replaced c.decide.ensures.same c.in_ok-replaced.ensures.ok c.in_ok-replaced.ensures.old
    c.horizon.result 0 c.store.result.now c.horizon.ensures.value c.store.ensures.records c.args.watch.now c.follow.new.self is c.in_ok-alarms.ensures.watch))

pub returns-clause-written : goal.returns-clause-written
returns-clause-written c = λ before h is.
    let outcome = c.in-Ok.outcome in
    let number = length c.results.result.now in
    let after = taken_in c.args.track.now c.args.input.now (standing c.args.desk.now) (standing c.take_over.new.self) outcome c.is_plan.ensures c.requires.fits c.decide.ensures.in_order.0 c.in-Ok.ensures.right
    (c.in_ok-replaced.ensures.ok ∙ ap (λ (s : Standing). after_outcome s outcome) c.decide.ensures.same) before h in
    let seen = seen_between c.args.track.now c.args.input.now c.args.desk.now c.decide.new.self c.take_over.new.self outcome c.in_ok-replaced.replaced c.decide.ensures.same c.in_ok-replaced.ensures.ok c.in_ok-replaced.ensures.old
    c.horizon.result number c.store.result.now c.horizon.ensures.value c.store.ensures.records c.args.watch.now c.follow.new.self is c.in_ok-alarms.alarms.items c.in_ok-alarms.ensures.lines in
    appended c.extend_from_slice.result c.push_result.new.text.items c.extend_from_slice.new.self.items c.deref.result.now c.extend_from_slice.ensures.items
    (λ e. one_watched c.args.track.now c.args.input.now c.args.desk.now c.decide.new.self c.take_over.new.self outcome c.in_ok-replaced.replaced c.decide.ensures.same c.in_ok-replaced.ensures.ok c.in_ok-replaced.ensures.old
    before c.args.text.now.items c.extend_from_slice.new.self.items c.in_ok-alarms.alarms.items number h after (c.in-Ok.ensures.right before.world h.world).answer (ap length c.results.ensures.results) seen
    (e ∙ ap (λ (more : List ℕ). c.push_result.new.text.items ++ more) c.deref.ensures.value ∙ ap (λ (front : List ℕ). front ++ c.in_ok-alarms.alarms.items) c.in_ok-push_result.ensures))
