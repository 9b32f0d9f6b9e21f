use Rattle.std.proofs.Common.{sym, ap, ◌∙◌, Some, None}
use Rattle.std.specs.Map.{lookup}
use Rattle.rbc_records.specs.contracts.record.KeyPartialEq.TheImpl.{eq-value}
use Rattle.rbc_versions.proofs.Finding.{put_number}
use Rattle.rbc_versions.proofs.published.Published.number.Goals as goal

pub returns-in-Some-Some : goal.returns-in-Some-Some
returns-in-Some-Some c =
    let found = ap Some (sym c.in-Some-Some.field-0-is) ∙ c.in-Some-Some.ensures.value ∙ ap (λ all. lookup (eq-value.it c.args.key) all.entries) c.deref.ensures in
    ap Some c.number.ensures.number ∙ put_number c.self.inside.all.value.entries c.args.self.now c.args.key (Some (Some c.in-Some-Some.ticket)) found c.self.view_is c.self.invariant.0

pub returns-in-Some-None : goal.returns-in-Some-None
returns-in-Some-None c =
    let found = ap Some (sym c.in-Some-None.field-0-is) ∙ c.in-Some-None.ensures.value ∙ ap (λ all. lookup (eq-value.it c.args.key) all.entries) c.deref.ensures in
    put_number c.self.inside.all.value.entries c.args.self.now c.args.key (Some None) found c.self.view_is c.self.invariant.0

pub returns-in-None : goal.returns-in-None
returns-in-None c =
    put_number c.self.inside.all.value.entries c.args.self.now c.args.key None (c.in-None.ensures.value ∙ ap (λ all. lookup (eq-value.it c.args.key) all.entries) c.deref.ensures) c.self.view_is c.self.invariant.0
