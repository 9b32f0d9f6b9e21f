use Rattle.std.proofs.Common.{◌≡◌, ◌+◌, ◌-◌, ◌∙◌, refl, sym, ap, arith}
use Rattle.std.proofs.lemmas.Bool.{false≢true}
use Rattle.rbc_core.specs.declared.stage.Stage.TheVariants.{Tried}
use Rattle.rbc_core.specs.Books.{IsOutIn, state_of}
use Rattle.rbc_core.proofs.Books.{keeps_set, out_within, deposits, hands_back}
use Rattle.rbc_core.proofs.Bounding.{bound_set}
use Rattle.rbc_core.proofs.book.Book.deposit.Goals as goal

pub set_stage-requires : goal.set_stage-requires
set_stage-requires g c = out_within _ c.number-number.result (c.if-not-is_out.ensures.0 refl)

pub invariant_of-self : goal.invariant_of-self
invariant_of-self g c =
    let i = c.self.invariant in
    let out : IsOutIn c.self.inside.stages.items c.number-number.result = c.if-not-is_out.ensures.0 refl in
    let turn = i.2.kept.stages (c.number-number.result - 1) _ out.1 in
    let first = out.0 in
    let number : c.args.attempt.number ≡ c.number-number.result - 1 + 1 = sym c.number-number.ensures.number ∙ omega (arith, first) in (
      i.0,
      i.1,
      record { kept = keeps_set _ _ _ (Tried c.args.attempt) _ i.2.kept (turn.0, turn.1, number) c.set_stage.ensures; present = i.2.present },
      bound_set _ _ _ _ _ (Tried c.args.attempt) i.3 c.raise.ensures.rises (λ k n put. let up = c.raise.ensures.raised k n put in omega (arith, up, number)) c.set_stage.ensures,
    )

pub returns-clause-event : goal.returns-clause-event
returns-clause-event g c =
    deposits g.N.RunName.run _ _ c.args.attempt c.number-number.result _ (ap state_of c.self.view_is) c.self.invariant.2.kept c.number-number.ensures.right (c.if-not-is_out.ensures.0 refl) c.number-number.ensures.number c.set_stage.ensures

pub returns-then-not-is_out-clause-event : goal.returns-then-not-is_out-clause-event
returns-then-not-is_out-clause-event g c =
    hands_back g.N.RunName.run _ _ c.args.attempt c.number-number.result (ap state_of c.self.view_is) c.number-number.ensures.right (λ out. false≢true (c.if-not-is_out.ensures.1 out)) c.number-number.ensures.number
