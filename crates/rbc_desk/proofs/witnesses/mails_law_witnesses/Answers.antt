use Rattle.std.proofs.Common.{◌≡◌, ℕ, ◌≤◌, Bool, true, false, cond, eqb, List, [], ◌∷◌, ◌++◌, length, Some, None, refl, sym, ap, ◌∙◌, subst, arith}
use Rattle.std.specs.List.{All}
use Rattle.std.proofs.lemmas.Bool.{eqb-true}
use Rattle.std.proofs.lemmas.Option.{same_Some}
use Rattle.std.proofs.lemmas.List.Elements.{All-nil, All-cons, All-head, All-tail}
use Rattle.ertms_codec.specs.declared.to_train.ToTrain.{ToTrain}
use Rattle.rbc_zones.specs.declared.segment.Segment.{Segment}
use Rattle.rbc_settle.specs.Settling.{concern_to}
use Rattle.rbc_rule.specs.Saying.{Said, StopsAtOnce, StopsBefore, RevokesStop}
use Rattle.rbc_rule.specs.SaidFor.{IsEdgeSaid, IsConcernSaid}
use Rattle.rbc_rule_laws.specs.Witnesses.{track_a, on_line_0, stop_before, stop_now, revoke, naming, stamped, asking, world_released}
use Rattle.rbc_rule_laws.proofs.WitnessSays.{differ, revokes_right}
use Rattle.rbc_desk.specs.declared.outbox.Mail.{Mail}
use Rattle.rbc_desk.specs.Serial.{mail}
use Rattle.rbc_desk.specs.SaidMails.{AreSaidTo, AreSaidInTurn, AreMailsOf}
use Rattle.rbc_desk.specs.Witnesses.{desk_7, stop_and_release, stop_told, stop_revoked, IsSaidThere, AreSaidThere}
use Rattle.rbc_desk.proofs.WitnessMails.{waiting, with_stop, told_train, in_turn_here, two_mails, stop_is_told, stop_is_revoked, first_to_7, tells_stop, revokes_stop, no_third}
use Rattle.rbc_desk.proofs.witnesses.mails_law_witnesses.Goals as goal

pub returns-clause-told : goal.returns-clause-told
returns-clause-told c = stop_is_told

pub returns-clause-revoked : goal.returns-clause-revoked
returns-clause-revoked c = stop_is_revoked

-- the outbox of engine 7, and none of another
boxes : (engine : ℕ) (b : Bool) → eqb 7 engine ≡ b → (more : List Mail) × (cond b (stop_told ∷ stop_revoked ∷ []) [] ≡ [] ++ more) × AreMailsOf track_a desk_7 stop_and_release engine more
boxes engine true e =
    let all : All (IsSaidThere 7) (stop_told ∷ stop_revoked ∷ []) = All-cons (IsSaidThere 7) stop_told (stop_revoked ∷ []) stop_is_told (All-cons (IsSaidThere 7) stop_revoked [] stop_is_revoked (All-nil (IsSaidThere 7))) in
    let there : AreMailsOf track_a desk_7 stop_and_release 7 (stop_told ∷ stop_revoked ∷ []) = record { each = all; in_turn = in_turn_here } in
    (stop_told ∷ stop_revoked ∷ [], refl, subst (λ (k : ℕ). AreMailsOf track_a desk_7 stop_and_release k (stop_told ∷ stop_revoked ∷ [])) (eqb-true 7 engine e) there)
boxes engine false e =
    let first : AreSaidTo track_a with_stop (cond (eqb 7 engine) (Some waiting) None) [] = subst (λ (b : Bool). AreSaidTo track_a with_stop (cond b (Some waiting) None) []) (sym e) refl in
    let second : AreSaidTo track_a world_released (cond (eqb 7 engine) (Some told_train) None) [] = subst (λ (b : Bool). AreSaidTo track_a world_released (cond b (Some told_train) None) []) (sym e) refl in
    ([], refl, record { each = All-nil (IsSaidThere engine); in_turn = ([], [], refl, first, ([], [], refl, second, refl)) })

pub returns-clause-both : goal.returns-clause-both
returns-clause-both c engine = boxes engine (eqb 7 engine) refl

pub returns-clause-other_number : goal.returns-clause-other_number
returns-clause-other_number c h =
    let says = revokes_stop 7 (stop_before 1 0 10000) h in
    let same : StopsBefore 0 says.says.1.0 ∷ [] ≡ RevokesStop 0 ∷ [] = sym says.says.1.1.1 ∙ says.is_for in
    absurd (cc same)

pub returns-clause-past_the_inputs : goal.returns-clause-past_the_inputs
returns-clause-past_the_inputs c h = no_third 7 (stop_before 1 0 10000) h

pub returns-clause-other_train : goal.returns-clause-other_train
returns-clause-other_train c h = differ 8 7 refl (first_to_7 8 (stop_before 1 0 10000) h)

pub returns-clause-other_kind : goal.returns-clause-other_kind
returns-clause-other_kind c h =
    let says = tells_stop 7 (stop_now 1 0) h in
    let is_for = says.is_for in
    let area : on_line_0 20000 21000 ∷ [] ≡ is_for.is.area = same_Some _ _ is_for.is.active in
    let edge : IsEdgeSaid waiting 20000 0 is_for.one = subst (λ (a : List Segment). IsConcernSaid waiting (concern_to waiting (1, a)) 0 is_for.one) (sym area) is_for.is.concern in
    let same : StopsAtOnce 0 ∷ [] ≡ StopsBefore 0 edge.spot ∷ [] = sym says.says ∙ is_for.alone ∙ ap (λ (one : Said). one ∷ []) edge.is_said in
    absurd (cc same)

other_identifier : IsSaidThere 7 (mail 2 (revoke 1)) → ⊥
other_identifier h = differ 1 0 refl (revokes_right _ _ _ _ _ _ _ (revokes_stop 7 (revoke 1) h))

pub returns-clause-other_group : goal.returns-clause-other_group
returns-clause-other_group c h = differ 6 5 refl (tells_stop 7 (naming 6 (stop_before 1 0 10000)) h).by_its_group

pub returns-clause-cut_identifier : goal.returns-clause-cut_identifier
returns-clause-cut_identifier c h = let most : 16 ≤ 15 = h.fits.body in absurd (omega (arith, most))

pub returns-clause-other_identifier : goal.returns-clause-other_identifier
returns-clause-other_identifier c h = other_identifier h

pub returns-clause-one_too_many : goal.returns-clause-one_too_many
returns-clause-one_too_many c h =
    let at_7 = h 7 in
    let P = IsSaidThere 7 in
    let all : All P (stop_told ∷ stop_revoked ∷ mail 2 (revoke 1) ∷ []) = subst (All P) (sym at_7.1) at_7.2.each in
    other_identifier (All-head P (mail 2 (revoke 1)) [] (All-tail P stop_revoked (mail 2 (revoke 1) ∷ []) (All-tail P stop_told (stop_revoked ∷ mail 2 (revoke 1) ∷ []) all)))

pub returns-clause-engine_8_told : goal.returns-clause-engine_8_told
returns-clause-engine_8_told c h =
    let at_8 = h 8 in
    let all : All (IsSaidThere 8) (stop_told ∷ []) = subst (All (IsSaidThere 8)) (sym at_8.1) at_8.2.each in
    differ 8 7 refl (first_to_7 8 (stop_before 1 0 10000) (All-head (IsSaidThere 8) stop_told [] all))

pub returns-clause-one_before_gone : goal.returns-clause-one_before_gone
returns-clause-one_before_gone c h = let same = (h 8).1 in absurd (cc same)

-- the mails to engine 7 are two, the first of input 1
there_two : (mails : List Mail) → AreSaidThere [] ((7, mails) ∷ []) → (first : ToTrain) × (second : ToTrain) × (mails ≡ mail 1 first ∷ mail 2 second ∷ [])
there_two mails h =
    let at_7 = h 7 in
    two_mails mails (subst (AreSaidInTurn track_a 7 desk_7 stop_and_release) (sym at_7.1) at_7.2.in_turn)

abbrev first_input : List Mail → ℕ
first_input [] = 0
first_input (one ∷ mails) = one.input

pub returns-clause-lost : goal.returns-clause-lost
returns-clause-lost c h = differ 1 2 refl (ap (length {A = Mail}) (there_two (stop_told ∷ []) h).2)

pub returns-clause-doubled : goal.returns-clause-doubled
returns-clause-doubled c h = differ 3 2 refl (ap (length {A = Mail}) (there_two (stop_told ∷ stop_told ∷ stop_revoked ∷ []) h).2)

pub returns-clause-other_order : goal.returns-clause-other_order
returns-clause-other_order c h = differ 2 1 refl (ap first_input (there_two (stop_revoked ∷ stop_told ∷ []) h).2)

pub returns-clause-other_stamp : goal.returns-clause-other_stamp
returns-clause-other_stamp c h = differ 4294967295 1001 refl (tells_stop 7 (stamped 4294967295 (stop_before 1 0 10000)) h).next_stamp

pub returns-clause-asks_not : goal.returns-clause-asks_not
returns-clause-asks_not c h = let asks : false ≡ true = (revokes_stop 7 (asking false (revoke 0)) h).by_its_kind in absurd (cc asks)
