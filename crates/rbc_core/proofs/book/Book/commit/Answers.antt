use Rattle.std.proofs.Common.{◌<◌, ◌≤◌, ◌∙◌, ap, arith, refl, Some, length}
use Rattle.rbc_core.specs.declared.stage.Stage.TheVariants.{Free, Tried, Void}
use Rattle.rbc_core.specs.Books.{state_of, number_now}
use Rattle.rbc_core.proofs.Books.{fails, fails_kept, stays_closed, waits, commits_kept, applies, recomputes}
use Rattle.rbc_core.proofs.Presents.{present_after, present_still}
use Rattle.rbc_core.proofs.Turns.{front_within, front_still, front_room, judged_stage, present_in, ends}
use Rattle.rbc_core.proofs.Bounding.{bound_still}
use Rattle.rbc_core.proofs.book.Book.commit.Goals as goal

pub returns-then-front-inputs : goal.returns-then-front-inputs
returns-then-front-inputs g c =
    let past : length g.N.RunName.run.inputs ≤ c.self.inside.committed = omega (arith, ap length c.self.invariant.1, c.if-front-inputs.true) in
    record { event = ends g.N.RunName.run _ _ (ap state_of c.self.view_is) c.self.invariant.2.kept past }

pub returns-then-self : goal.returns-then-self
returns-then-self g c =
    let more : c.self.inside.committed < length g.N.RunName.run.inputs = omega (arith, ap length c.self.invariant.1, c.if-front-inputs.false) in
    record { event = stays_closed g.N.RunName.run _ _ (ap state_of c.self.view_is) c.if-self.true more }

pub judge-requires-clause-within : goal.judge-requires-clause-within
judge-requires-clause-within g c =
    let more : c.self.inside.committed < length g.N.RunName.run.inputs = omega (arith, ap length c.self.invariant.1, c.if-front-inputs.false) in
    front_within g.N.RunName.run _ c.self.invariant.2.kept more

pub judge-requires-clause-log : goal.judge-requires-clause-log
judge-requires-clause-log g c = c.self.invariant.0

pub judge-requires-clause-present : goal.judge-requires-clause-present
judge-requires-clause-present g c = (present_in _ _ _ _ c.self.invariant.0 c.self.invariant.2.present).stand

pub returns-in_default : goal.returns-in_default
returns-in_default g c =
    let more : c.self.inside.committed < length g.N.RunName.run.inputs = omega (arith, ap length c.self.invariant.1, c.if-front-inputs.false) in
    record { event = waits g.N.RunName.run _ _ _ (ap state_of c.self.view_is) c.if-self.false more c.in_default.ensures }

pub taken_out-stage-requires : goal.taken_out-stage-requires
taken_out-stage-requires g c =
    let more : c.self.inside.committed < length g.N.RunName.run.inputs = omega (arith, ap length c.self.invariant.1, c.if-front-inputs.false) in
    front_within g.N.RunName.run _ c.self.invariant.2.kept more

pub carry_out-requires-clause-run : goal.carry_out-requires-clause-run
carry_out-requires-clause-run g c = (c.requires, c.self.invariant.1, c.self.invariant.0, c.self.invariant.2.kept.good)

pub carry_out-requires-clause-within : goal.carry_out-requires-clause-within
carry_out-requires-clause-within g c = c.if-front-inputs.false

pub carry_out-requires-clause-judged : goal.carry_out-requires-clause-judged
carry_out-requires-clause-judged g c = judged_stage c.self.inside.stages.items c.self.inside.committed _ _ _ c.in-Some.ensures c.taken_out-stage.ensures.stage

pub carry_out-requires-clause-present : goal.carry_out-requires-clause-present
carry_out-requires-clause-present g c = present_in _ _ _ _ c.self.invariant.0 c.self.invariant.2.present

pub carry_out-requires-clause-number : goal.carry_out-requires-clause-number
carry_out-requires-clause-number g c a e =
    (c.self.invariant.2.kept.stages c.self.inside.committed (Tried a) (c.taken_out-stage.ensures.stage ∙ ap Some e)).2

pub carry_out-requires-clause-room : goal.carry_out-requires-clause-room
carry_out-requires-clause-room g c =
    let more : c.self.inside.committed < length g.N.RunName.run.inputs = omega (arith, ap length c.self.invariant.1, c.if-front-inputs.false) in
    front_room g.N.RunName.run _ c.self.invariant.2.kept more

pub invariant_of-self : goal.invariant_of-self
invariant_of-self g c =
    let i = c.self.invariant in
    let failed = c.in_default-carry_out.ensures in (
      i.0,
      i.1,
      record {
        kept = fails_kept _ _ _ _ _ _ _ i.2.kept c.in-Some.ensures failed.err c.taken_out-stage.ensures.void;
        present = present_still _ _ _ c.self.inside.desk c.carry_out.new.desk failed.err failed.kept i.2.present;
      },
      bound_still _ _ _ _ Void i.3 (λ k. refl) c.taken_out-stage.ensures.void,
    )

pub returns-in_default-carry_out : goal.returns-in_default-carry_out
returns-in_default-carry_out g c =
    let failed = c.in_default-carry_out.ensures in
    record { event = fails g.N.RunName.run _ _ _ _ _ _ _ (ap state_of c.self.view_is) c.self.invariant.2.kept c.if-self.false c.in-Some.ensures failed.err (ap number_now failed.kept) c.taken_out-stage.ensures.void }

pub set_stage-requires : goal.set_stage-requires
set_stage-requires g c =
    let more : c.self.inside.committed < length g.N.RunName.run.inputs = omega (arith, ap length c.self.invariant.1, c.if-front-inputs.false) in
    front_still g.N.RunName.run _ _ c.self.invariant.2.kept more c.taken_out-stage.ensures.void

pub invariant_of-self-then-is_fresh : goal.invariant_of-self-then-is_fresh
invariant_of-self-then-is_fresh g c =
    let i = c.self.invariant in
    let done = c.in-Ok.ensures.done in (
      i.0,
      i.1,
      record {
        kept = commits_kept _ _ _ _ _ _ _ _ _ _ _ i.2.kept c.in-Some.ensures done c.taken_out-stage.ensures.void c.set_stage.ensures (let n = i.2.kept.counted in omega (arith, n));
        present = present_after _ _ _ _ _ _ _ _ _ i.2.present done;
      },
      bound_still _ _ _ _ Free (bound_still _ _ _ _ Void i.3 (λ k. refl) c.taken_out-stage.ensures.void) (λ k. refl) c.set_stage.ensures,
    )

pub invariant_of-self-2 : goal.invariant_of-self-2
invariant_of-self-2 g c =
    let i = c.self.invariant in
    let done = c.in-Ok.ensures.done in (
      i.0,
      i.1,
      record {
        kept = commits_kept _ _ _ _ _ _ _ _ _ _ _ i.2.kept c.in-Some.ensures done c.taken_out-stage.ensures.void c.set_stage.ensures (let n = i.2.kept.counted in omega (arith, n));
        present = present_after _ _ _ _ _ _ _ _ _ i.2.present done;
      },
      bound_still _ _ _ _ Free (bound_still _ _ _ _ Void i.3 (λ k. refl) c.taken_out-stage.ensures.void) (λ k. refl) c.set_stage.ensures,
    )

pub returns-then-is_fresh : goal.returns-then-is_fresh
returns-then-is_fresh g c =
    record { event = applies g.N.RunName.run _ _ _ _ _ _ _ _ _ _ (ap state_of c.self.view_is) c.self.invariant.2.kept refl c.if-self.false c.if-is_fresh.true c.in-Some.ensures c.taken_out-stage.ensures.stage c.in-Ok.ensures.done c.taken_out-stage.ensures.void c.set_stage.ensures }

pub returns : goal.returns
returns g c =
    record { event = recomputes g.N.RunName.run _ _ _ _ _ _ _ _ _ _ (ap state_of c.self.view_is) c.self.invariant.2.kept refl c.if-self.false c.if-is_fresh.false c.in-Some.ensures c.in-Ok.ensures.done c.taken_out-stage.ensures.void c.set_stage.ensures }
