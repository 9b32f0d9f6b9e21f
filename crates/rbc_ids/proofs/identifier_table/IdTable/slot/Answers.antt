use Rattle.std.proofs.Common.{◌≡◌, ◌∙◌, subst}
use Rattle.rbc_ids.specs.Table.{IsTable}
use Rattle.rbc_ids.proofs.Tables.{value_there, value_other, value_past}
use Rattle.rbc_ids.proofs.identifier_table.IdTable.slot.Goals as goal

pub returns-in-Some-clause-value : goal.returns-in-Some-clause-value
returns-in-Some-clause-value g c =
    let same : c.deref.result.now ≡ c.args.self.now = c.deref.ensures.value ∙ c.self.view_is in
    value_there g.row.N c.deref.result.now c.args.self.now same (subst (IsTable g.row.N) c.self.view_is c.self.invariant) c.args.id c.index_of.result c.index_of.ensures c.in-Some.field-0.now c.in-Some.ensures.lookup.0 c.in-Some.ensures.lookup.1 c.if-held-id.true

pub returns-in_default-clause-value : goal.returns-in_default-clause-value
returns-in_default-clause-value g c =
    let same : c.deref.result.now ≡ c.args.self.now = c.deref.ensures.value ∙ c.self.view_is in
    value_other g.row.N c.deref.result.now c.args.self.now same (subst (IsTable g.row.N) c.self.view_is c.self.invariant) c.args.id c.index_of.result c.index_of.ensures c.in-Some.field-0.now c.in-Some.ensures.lookup.0 c.in-Some.ensures.lookup.1 c.if-held-id.false

pub returns-in_default-2-clause-value : goal.returns-in_default-2-clause-value
returns-in_default-2-clause-value g c =
    let same : c.deref.result.now ≡ c.args.self.now = c.deref.ensures.value ∙ c.self.view_is in
    let lookup = rw c.in_default.is at c.get.ensures.lookup in
    value_past g.row.N c.deref.result.now c.args.self.now same (subst (IsTable g.row.N) c.self.view_is c.self.invariant) c.args.id c.index_of.result c.index_of.ensures lookup.0
