use Rattle.std.proofs.Common.{◌≡◌, ◌<◌, length, refl, ap, arith, rules, false}
use Rattle.rbc_core.specs.declared.stage.Stage.TheVariants.{Out}
use Rattle.rbc_core.specs.Books.{state_of}
use Rattle.rbc_core.proofs.Books.{takes_set, takes_next}
use Rattle.rbc_core.proofs.Bounding.{bound_still}
use Rattle.rbc_core.proofs.book.Book.take.Goals as goal

pub invariant_of-self : goal.invariant_of-self
invariant_of-self g c =
    let i = c.self.invariant in
    let more : c.self.inside.taken < length g.N.RunName.run.inputs = omega (arith, ap length i.1) in
    (i.0, i.1, record { kept = takes_set _ _ _ i.2.kept more c.set_stage.ensures; present = i.2.present }, bound_still _ _ _ _ Out i.3 (λ k. refl) c.set_stage.ensures)

pub returns : goal.returns
returns g c =
    let more : c.self.inside.taken < length g.N.RunName.run.inputs = omega (arith, ap length c.self.invariant.1) in
    let opened : c.self.inside.is_closed ≡ false = search rules in
    record { event = takes_next g.N.RunName.run _ _ _ (ap state_of c.self.view_is) opened more c.set_stage.ensures }
