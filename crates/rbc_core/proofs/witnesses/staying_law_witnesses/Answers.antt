use Rattle.std.proofs.Common.{◌≡◌, ◌⊎◌, zero, suc, Bool, true, false, ◌||◌, cond, eqb, [], Option, Some, None, inl, inr, IsTrue, refl, ap, ⊎_elim, arith}
use Rattle.rbc_records.specs.declared.record.Key.TheVariants as key
use Rattle.rbc_records.specs.declared.record.Rec.{Rec}
use Rattle.rbc_rule_laws.proofs.WitnessSays.{differ}
use Rattle.rbc_core.specs.declared.stage.Stage.TheVariants.{Tried}
use Rattle.rbc_core.specs.Core.{Try, IsAt}
use Rattle.rbc_core.specs.Witnesses.{first_try, second_try, unread_try, both_tried, train_7}
use Rattle.rbc_core.proofs.witnesses.staying_law_witnesses.Goals as goal

pub returns-clause-second_stays : goal.returns-clause-second_stays
returns-clause-second_stays c zero a at = let low = at.uncommitted in absurd (omega arith)
returns-clause-second_stays c (suc zero) a at = inr (refl, inl refl)
returns-clause-second_stays c (suc (suc zero)) a at = inl (record { uncommitted = omega arith; taken = omega arith; at = at.at })
returns-clause-second_stays c (suc (suc (suc n))) a at = let high = at.taken in absurd (omega arith)

pub returns-clause-lost_as_closed : goal.returns-clause-lost_as_closed
returns-clause-lost_as_closed c zero a at = let low = at.uncommitted in absurd (omega arith)
returns-clause-lost_as_closed c (suc zero) a at = inr (refl, inr (refl, refl))
returns-clause-lost_as_closed c (suc (suc zero)) a at = inl (record { uncommitted = omega arith; taken = omega arith; at = at.at })
returns-clause-lost_as_closed c (suc (suc (suc n))) a at = let high = at.taken in absurd (omega arith)

-- the record of a train is there, or it is not train 7
seven_or_none : (b : Bool) (r : Option Rec) → (cond b r None ≡ None) ⊎ IsTrue (b || false)
seven_or_none true r = inr refl
seven_or_none false r = inl refl

pub returns-clause-written : goal.returns-clause-written
returns-clause-written c key.Roster = inr refl
returns-clause-written c (key.Train engine) = seven_or_none (eqb engine 7) (Some train_7)
returns-clause-written c key.Stops = inl refl
returns-clause-written c key.Limits = inl refl
returns-clause-written c (key.Line line) = inl refl
returns-clause-written c key.Unplaced = inr refl

pub returns-clause-still_closed : goal.returns-clause-still_closed
returns-clause-still_closed c closed = refl

-- each attempt is at its input
second_is_there : IsAt both_tried 2 (Tried second_try)
second_is_there = record { uncommitted = omega arith; taken = omega arith; at = refl }

pub returns-clause-gone : goal.returns-clause-gone
returns-clause-gone c h = ⊎_elim (λ at. let is = at.at in absurd (cc is)) (λ lost. differ 2 1 refl lost.0) (h 2 second_try second_is_there)

pub returns-clause-changed : goal.returns-clause-changed
returns-clause-changed c h =
    ⊎_elim
    (λ at. let is : unread_try ≡ second_try = let same = at.at in cc same in let none : [] ≡ second_try.notes = ap (λ (a : Try). a.notes) is in absurd (cc none))
    (λ lost. differ 2 1 refl lost.0) (h 2 second_try second_is_there)

pub returns-clause-lost_though_closed : goal.returns-clause-lost_though_closed
returns-clause-lost_though_closed c h =
    ⊎_elim (λ at. let is = at.at in absurd (cc is)) (λ lost. ⊎_elim (λ committed. differ 0 1 refl committed) (λ closed. let opened = closed.0 in absurd (cc opened)) lost.1)
    (h 1 first_try (record { uncommitted = omega arith; taken = omega arith; at = refl }))

pub returns-clause-written_at_deposit : goal.returns-clause-written_at_deposit
returns-clause-written_at_deposit c h = ⊎_elim (λ same. absurd (cc same)) (λ named. named) (h key.Roster)

pub returns-clause-written_at_take : goal.returns-clause-written_at_take
returns-clause-written_at_take c h = ⊎_elim (λ same. absurd (cc same)) (λ named. named) (h key.Roster)

pub returns-clause-not_named : goal.returns-clause-not_named
returns-clause-not_named c h = ⊎_elim (λ same. absurd (cc same)) (λ named. absurd (cc named)) (h key.Stops)

pub returns-clause-numbered_at_deposit : goal.returns-clause-numbered_at_deposit
returns-clause-numbered_at_deposit c h = ⊎_elim (λ same. differ 1 0 refl same) (λ named. absurd (cc named)) (h key.Roster)

pub returns-clause-numbered_at_take : goal.returns-clause-numbered_at_take
returns-clause-numbered_at_take c h = ⊎_elim (λ same. differ 1 0 refl same) (λ named. absurd (cc named)) (h key.Roster)

pub returns-clause-number_not_named : goal.returns-clause-number_not_named
returns-clause-number_not_named c h = ⊎_elim (λ same. differ 4 0 refl same) (λ named. absurd (cc named)) (h key.Stops)

pub returns-clause-opened_again : goal.returns-clause-opened_again
returns-clause-opened_again c h = let opened = h refl in absurd (cc opened)
