use Rattle.std.proofs.Common.{◌≡◌, ap, ◌∙◌}
use Rattle.rbc_ids.specs.Table.{after_report}
use Rattle.rbc_ids.proofs.Reported.{reports_next, all_reported, reported_whole, reported_stays}
use Rattle.rbc_ids.proofs.identifier_table.IdTable.reported.Goals as goal

pub invariant_of-self : goal.invariant_of-self
invariant_of-self g c =
    let old = c.deref_mut-held-items.result.now in
    let same : old ≡ c.self.inside.held.items = c.deref_mut-held-items.ensures.value in
    let all : c.loop-held.held-items ≡ after_report c.self.inside.held.items = c.loop-held.invariant ∙ all_reported old c.loop-held.held-index c.loop-held-test.false ∙ ap after_report same in
    reported_stays g.row.N c.self.inside.held.len c.self.inside.held.items c.loop-held.held-items all c.self.inside.held.ok.0 c.self.invariant

pub loop-held-preserved : goal.loop-held-preserved
loop-held-preserved g c =
    reports_next c.deref_mut-held-items.result.now c.loop-held.held-items c.loop-held.held-index c.loop-held.invariant c.loop-held-test.true _ c.reported-held.result c.reported-held.ensures

pub returns : goal.returns
returns g c =
    let old = c.deref_mut-held-items.result.now in
    let same : old ≡ c.self.inside.held.items = c.deref_mut-held-items.ensures.value in
    let all : c.loop-held.held-items ≡ after_report c.self.inside.held.items = c.loop-held.invariant ∙ all_reported old c.loop-held.held-index c.loop-held-test.false ∙ ap after_report same in
    reported_whole c.self.inside.held.len c.self.inside.held.items c.loop-held.held-items all c.self.inside.held.ok.0 ∙ ap after_report c.self.view_is
