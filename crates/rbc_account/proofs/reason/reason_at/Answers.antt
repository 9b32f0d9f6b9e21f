use Rattle.std.proofs.Common.{◌≡◌, None, Some, refl, sym, ap, ◌∙◌}
use Rattle.rbc_zones.specs.Concerns.{edges_ahead, nearest, is_behind_group}
use Rattle.rbc_account.specs.Reasons.{first_met, nearest_edge}
use Rattle.rbc_account.proofs.Meetings.{met_now, by_edge, behind_where_now}
use Rattle.rbc_account.proofs.reason.reason_at.Goals as goal

pub returns-in-Some-clause-concern : goal.returns-in-Some-clause-concern
returns-in-Some-clause-concern c =
    let p = c.args.place.now in
    met_now p c.args.area.now c.in-Some.segment (sym (c.first_met.ensures ∙ ap (λ segments. first_met segments p) c.segments.ensures.value) ∙ c.in-Some.is)

pub returns-in-Now-clause-is : goal.returns-in-Now-clause-is
returns-in-Now-clause-is c =
    let p = c.args.place.now in
    let area = c.args.area.now in
    let none : first_met area p ≡ None = sym (c.first_met.ensures ∙ ap (λ segments. first_met segments p) c.segments.ensures.value) ∙ c.in_default.is in
    let behind = behind_where_now p (nearest p.facing (edges_ahead p area)) (sym (by_edge p area none) ∙ sym c.concern.ensures.value ∙ c.in-Now.is) in
    let edge : c.nearest_edge.result ≡ nearest_edge p area = c.nearest_edge.ensures ∙ ap (nearest_edge p) c.segments-in-Now.ensures.value in
    (p, refl, refl, none, behind.is ∙ ap Some (sym edge), ap (is_behind_group p.facing p.at) edge ∙ behind.behind)
