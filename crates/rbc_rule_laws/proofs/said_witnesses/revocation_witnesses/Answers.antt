use Rattle.std.proofs.Common.{◌≤◌, [], ◌∷◌, refl, arith}
use Rattle.rbc_rule.specs.Saying.{RevokesLimit}
use Rattle.rbc_rule_laws.proofs.WitnessSays.{lift_sendable, lifts_right, lifts_both_ways, no_limit_revoked, no_stop_revoked, differ}
use Rattle.rbc_rule_laws.proofs.said_witnesses.revocation_witnesses.Goals as goal

pub returns-clause-lifted : goal.returns-clause-lifted
returns-clause-lifted c = (refl, ((record { said = RevokesLimit 0 ∷ []; says = ((refl, refl), tt); is_for = (refl, tt); next_stamp = refl; known_time = omega arith; by_its_kind = refl; by_its_group = refl; sendable = lift_sendable 0 (omega arith) }, tt), tt))

pub returns-clause-one_way : goal.returns-clause-one_way
returns-clause-one_way c h = differ 1 2 refl (lifts_both_ways _ _ _ _ _ _ _ _ h.1.0.0)

pub returns-clause-as_a_stop : goal.returns-clause-as_a_stop
returns-clause-as_a_stop c h = no_stop_revoked _ _ _ _ _ _ _ h.1.0.0

pub returns-clause-other_identifier : goal.returns-clause-other_identifier
returns-clause-other_identifier c h = differ 1 0 refl (lifts_right _ _ _ _ _ _ _ _ h.1.0.0)

pub returns-clause-other_group : goal.returns-clause-other_group
returns-clause-other_group c h = differ 6 5 refl h.1.0.0.by_its_group

pub returns-clause-stop_other_group : goal.returns-clause-stop_other_group
returns-clause-stop_other_group c h = differ 6 5 refl h.1.0.0.by_its_group

pub returns-clause-as_a_restriction : goal.returns-clause-as_a_restriction
returns-clause-as_a_restriction c h = no_limit_revoked _ _ _ _ _ _ _ _ h.1.0.0

pub returns-clause-while_active : goal.returns-clause-while_active
returns-clause-while_active c h = h.1.0

pub returns-clause-no_room : goal.returns-clause-no_room
returns-clause-no_room c h = let most : 16 ≤ 15 = h.sendable.fits.body in absurd (omega (arith, most))
