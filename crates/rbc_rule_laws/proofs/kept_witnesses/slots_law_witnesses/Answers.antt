use Rattle.std.proofs.Common.{◌≡◌, ℕ, Bool, true, false, Some, None, refl, ap}
use Rattle.std.proofs.lemmas.Option.{same_Some}
use Rattle.rbc_ids.specs.declared.slot.Slot.{Slot}
use Rattle.rbc_ids.specs.declared.slot.Slot.TheVariants.{Used, Revoking}
use Rattle.rbc_ids.specs.declared.slot.Kind.TheVariants.{Conditional, Unconditional, Restriction}
use Rattle.rbc_ids.specs.Table.{told_now, is_conditional, stamp_of}
use Rattle.rbc_rule_laws.specs.Witnesses.{slot_of}
use Rattle.rbc_rule_laws.proofs.WitnessSays.{differ}
use Rattle.rbc_rule_laws.proofs.kept_witnesses.slots_law_witnesses.Goals as goal

-- what a slot has that is used
abbrev number_of : Slot → ℕ
number_of (Used used) = used.number
number_of (Revoking stamp) = 0

abbrev is_conditional_in : Slot → Bool
is_conditional_in (Used used) = is_conditional used.kind
is_conditional_in (Revoking stamp) = false

abbrev is_acked_in : Slot → Bool
is_acked_in (Used used) = used.acked
is_acked_in (Revoking stamp) = false

pub returns-clause-told : goal.returns-clause-told
returns-clause-told c = refl

pub returns-clause-revoked : goal.returns-clause-revoked
returns-clause-revoked c = refl

pub returns-clause-both : goal.returns-clause-both
returns-clause-both c = (refl, (refl, tt))

pub returns-clause-other_stamp : goal.returns-clause-other_stamp
returns-clause-other_stamp c h = differ 1000 1001 refl (ap stamp_of (same_Some (told_now 1 1000 Conditional) (told_now 1 1001 Conditional) h))

pub returns-clause-other_number : goal.returns-clause-other_number
returns-clause-other_number c h = differ 2 1 refl (ap number_of (same_Some (told_now 2 1001 Conditional) (told_now 1 1001 Conditional) h))

pub returns-clause-other_kind : goal.returns-clause-other_kind
returns-clause-other_kind c h = let kind : false ≡ true = ap is_conditional_in (same_Some (told_now 1 1001 Unconditional) (told_now 1 1001 Conditional) h) in absurd (cc kind)

pub returns-clause-answered_already : goal.returns-clause-answered_already
returns-clause-answered_already c h = let acked : true ≡ false = ap is_acked_in (same_Some (slot_of Conditional true 0) (told_now 1 1001 Conditional) h) in absurd (cc acked)

pub returns-clause-not_held : goal.returns-clause-not_held
returns-clause-not_held c h = let bad : None ≡ Some (told_now 1 1001 Conditional) = h in absurd (cc bad)

pub returns-clause-still_used : goal.returns-clause-still_used
returns-clause-still_used c h = let bad : told_now 1 1001 Conditional ≡ Revoking 1002 = same_Some _ _ h in absurd (cc bad)

pub returns-clause-other_answer : goal.returns-clause-other_answer
returns-clause-other_answer c h = differ 1001 1002 refl (ap stamp_of (same_Some (Revoking 1001) (Revoking 1002) h))

pub returns-clause-other_restriction : goal.returns-clause-other_restriction
returns-clause-other_restriction c h = differ 1000 1001 refl (ap stamp_of (same_Some (told_now 1 1000 Restriction) (told_now 1 1001 Restriction) h.1.0))
