use Rattle.std.proofs.Common.{◌-◌, refl, ap}
use Rattle.std.proofs.lemmas.Bool.{false≢true}
use Rattle.rbc_core.specs.declared.stage.Stage.TheVariants.{Void}
use Rattle.rbc_core.specs.Books.{state_of}
use Rattle.rbc_core.proofs.Books.{keeps_set, out_within, voids, voids_none}
use Rattle.rbc_core.proofs.Bounding.{bound_still}
use Rattle.rbc_core.proofs.book.Book.void.Goals as goal

pub set_stage-requires : goal.set_stage-requires
set_stage-requires g c = out_within _ c.args.number (c.if-not-is_out.ensures.0 refl)

pub invariant_of-self : goal.invariant_of-self
invariant_of-self g c =
    let i = c.self.invariant in
    let out = c.if-not-is_out.ensures.0 refl in
    let turn = i.2.kept.stages (c.args.number - 1) _ out.1 in
    (i.0, i.1, record { kept = keeps_set _ _ _ Void _ i.2.kept (turn.0, turn.1) c.set_stage.ensures; present = i.2.present }, bound_still _ _ _ _ Void i.3 (λ k. refl) c.set_stage.ensures)

pub returns : goal.returns
returns g c = voids g.N.RunName.run _ _ c.args.number _ (ap state_of c.self.view_is) c.self.invariant.2.kept (c.if-not-is_out.ensures.0 refl) c.set_stage.ensures

pub returns-then-not-is_out : goal.returns-then-not-is_out
returns-then-not-is_out g c = voids_none g.N.RunName.run _ _ c.args.number (ap state_of c.self.view_is) (λ out. false≢true (c.if-not-is_out.ensures.1 out))
