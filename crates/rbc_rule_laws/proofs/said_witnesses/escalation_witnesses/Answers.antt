use Rattle.std.proofs.Common.{◌≡◌, [], ◌∷◌, refl, sym, ap, ◌∙◌, arith, subst}
use Rattle.std.proofs.lemmas.Option.{same_Some}
use Rattle.rbc_settle.specs.Settling.{concern_to}
use Rattle.rbc_rule.specs.Saying.{Said, StopsAtOnce, StopsBefore}
use Rattle.rbc_rule.specs.SaidFor.{IsConcernSaid, IsEdgeSaid}
use Rattle.rbc_rule_laws.specs.Witnesses.{on_line_0, unanswered}
use Rattle.rbc_rule_laws.proofs.Sendable as sendable
use Rattle.rbc_rule_laws.proofs.WitnessSays.{at_5}
use Rattle.rbc_rule_laws.proofs.said_witnesses.escalation_witnesses.Goals as goal

pub returns-clause-told_again : goal.returns-clause-told_again
returns-clause-told_again c = record {
  said = StopsAtOnce 1 ∷ [];
  says = refl;
  is_for = record { one = StopsAtOnce 1; is = record { area = on_line_0 20000 21000 ∷ []; active = refl; concern = refl }; alone = refl };
  next_stamp = refl;
  known_time = omega arith;
  by_its_kind = refl;
  by_its_group = refl;
  sendable = sendable.stop_at_once (at_5 1002) (omega arith) (omega arith) 1 1 (omega arith);
}

-- before the third report the stop lies ahead of the train still
pub returns-clause-too_soon : goal.returns-clause-too_soon
returns-clause-too_soon c h =
    let stop = h.is_for.is in
    let its_area : stop.area ≡ on_line_0 20000 21000 ∷ [] = same_Some _ _ (sym stop.active) in
    let edge : IsEdgeSaid (unanswered 2) 20000 1 h.is_for.one = subst (λ area. IsConcernSaid (unanswered 2) (concern_to (unanswered 2) (1, area)) 1 h.is_for.one) its_area stop.concern in
    let bad : StopsAtOnce 1 ∷ [] ≡ StopsBefore 1 edge.spot ∷ [] = sym h.says ∙ h.is_for.alone ∙ ap (λ (one : Said). one ∷ []) edge.is_said in
    absurd (cc bad)

-- after it the train stops at once
pub returns-clause-before_again : goal.returns-clause-before_again
returns-clause-before_again c h =
    let stop = h.is_for.is in
    let its_area : stop.area ≡ on_line_0 20000 21000 ∷ [] = same_Some _ _ (sym stop.active) in
    let now : h.is_for.one ≡ StopsAtOnce 1 = subst (λ area. IsConcernSaid (unanswered 3) (concern_to (unanswered 3) (1, area)) 1 h.is_for.one) its_area stop.concern in
    let bad : StopsBefore 1 h.says.1.0 ∷ [] ≡ StopsAtOnce 1 ∷ [] = sym h.says.1.1.1 ∙ h.is_for.alone ∙ ap (λ (one : Said). one ∷ []) now in
    absurd (cc bad)
