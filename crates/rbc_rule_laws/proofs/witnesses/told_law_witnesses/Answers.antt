use Rattle.std.proofs.Common.{◌≡◌, ◌⊎◌, ℕ, true, false, ◌≤◌, [], ◌∷◌, Some, None, inl, inr, refl, arith}
use Rattle.std.proofs.lemmas.List.Elements.{All-nil, All-head}
use Rattle.rbc_maps.specs.Numbered.{none_numbered}
use Rattle.rbc_ids.specs.declared.slot.Slot.{Slot}
use Rattle.rbc_ids.specs.Table.{told_now}
use Rattle.rbc_ids.specs.declared.slot.Kind.TheVariants.{Conditional}
use Rattle.rbc_zones.specs.declared.stop_meaning.Concern.TheVariants as concern
use Rattle.rbc_settle.specs.declared.train.TrainRec.{TrainRec}
use Rattle.rbc_settle.specs.Settling.{Stops, Limits, last_stamp, is_stop_gone, is_limit_gone, is_used_by, due_number}
use Rattle.rbc_settle.specs.Told.{Part}
use Rattle.rbc_settle.specs.UpToDate.{IsToldIfItCan, IsLimitToldIfItCan, IsUpToDate, IsUpToDateOrAtTheEnd}
use Rattle.rbc_rule_laws.specs.Witnesses.{track_a, facing_up, on_line_0, train_7, stop_1, limit_80, restriction_1, told_as_0, slot_of}
use Rattle.rbc_rule_laws.proofs.WitnessSays.{differ}
use Rattle.rbc_rule_laws.proofs.WitnessWorlds.{now_up_to_date}
use Rattle.rbc_rule_laws.proofs.witnesses.told_law_witnesses.Goals as goal
use Rattle.rbc_rule.proofs.EachChanges.{one_of}

-- what is promised of each train of a world
abbrev IsNow : Stops → Limits → ℕ × TrainRec → Type 0
IsNow stops limits train = IsUpToDateOrAtTheEnd track_a stops limits train.1

pub returns-clause-told : goal.returns-clause-told
returns-clause-told c =
    let train = train_7 (Some facing_up) 1001 (told_as_0 1) in
    let stops = stop_1 (on_line_0 20000 21000) in
    let now : IsUpToDate track_a stops none_numbered train = record {
      told = one_of (IsToldIfItCan train) (1, on_line_0 20000 21000 ∷ []) (inr (inl refl));
      limits_told = All-nil (IsLimitToldIfItCan 100000 train);
      no_stop_gone = one_of (λ (held : ℕ × Slot). is_used_by (is_stop_gone stops) held.1 ≡ false) (0, told_now 1 1001 Conditional) refl;
      no_limit_gone = All-nil (λ (held : ℕ × Slot). is_used_by (is_limit_gone none_numbered (Some facing_up)) held.1 ≡ false);
      none_due = inl (one_of (λ (held : ℕ × Slot). due_number stops held.1 ≡ None) (0, told_now 1 1001 Conditional) refl);
    } in
    one_of (IsNow stops none_numbered) (7, train) (inr now)

pub returns-clause-stamps_ended : goal.returns-clause-stamps_ended
returns-clause-stamps_ended c =
    let train = train_7 (Some facing_up) last_stamp [] in
    let ended : last_stamp ≤ train.stamp = omega arith in
    one_of (IsNow (stop_1 (on_line_0 20000 21000)) none_numbered) (7, train) (inl ended)

-- what is nothing to the train, or told, or finds no identifier, is neither of these
neither : {A : Type 0} (x y : A) (count most : ℕ) → (x ≡ y → ⊥) → (count ≡ most → ⊥) → (x ≡ y) ⊎ ((false ≡ true) ⊎ (count ≡ most)) → ⊥
neither x y count most not not_full (inl is) = not is
neither x y count most not not_full (inr (inl is)) = cc
neither x y count most not not_full (inr (inr is)) = not_full is

not_before : (edge : ℕ) → concern.Before edge ≡ concern.None → ⊥
not_before edge is = cc

not_now : concern.Now ≡ concern.None → ⊥
not_now is = cc

not_some : (told : Part) → Some told ≡ None → ⊥
not_some told is = cc

pub returns-clause-not_told : goal.returns-clause-not_told
returns-clause-not_told c h =
    let train = train_7 (Some facing_up) 1000 [] in
    let stops = stop_1 (on_line_0 20000 21000) in
    let now = now_up_to_date train stops none_numbered (omega arith) h in
    neither _ _ _ _ (not_before 20000) (differ 0 15 refl) (All-head (IsToldIfItCan train) (1, on_line_0 20000 21000 ∷ []) [] now.told)

pub returns-clause-not_told_without_place : goal.returns-clause-not_told_without_place
returns-clause-not_told_without_place c h =
    let train = train_7 None 1000 [] in
    let stops = stop_1 (on_line_0 20000 21000) in
    let now = now_up_to_date train stops none_numbered (omega arith) h in
    neither _ _ _ _ not_now (differ 0 15 refl) (All-head (IsToldIfItCan train) (1, on_line_0 20000 21000 ∷ []) [] now.told)

pub returns-clause-not_revoked : goal.returns-clause-not_revoked
returns-clause-not_revoked c h =
    let train = train_7 (Some facing_up) 1001 (told_as_0 1) in
    let stops : Stops = record { last = 1; active = [] } in
    let now = now_up_to_date train stops none_numbered (omega arith) h in
    let gone : true ≡ false = All-head (λ (held : ℕ × Slot). is_used_by (is_stop_gone stops) held.1 ≡ false) (0, told_now 1 1001 Conditional) [] now.no_stop_gone in
    cc

pub returns-clause-restriction_not_told : goal.returns-clause-restriction_not_told
returns-clause-restriction_not_told c h =
    let train = train_7 (Some facing_up) 1000 [] in
    let limits = restriction_1 (on_line_0 11050 12050) in
    let now = now_up_to_date train none_numbered limits (omega arith) h in
    neither _ _ _ _ (not_some _) (differ 0 255 refl) (All-head (IsLimitToldIfItCan 100000 train) (1, limit_80 (on_line_0 11050 12050)) [] now.limits_told)

pub returns-clause-left_unanswered : goal.returns-clause-left_unanswered
returns-clause-left_unanswered c h =
    let slots = (0, slot_of Conditional false 3) ∷ [] in
    let train = train_7 (Some facing_up) 1001 slots in
    let stops = stop_1 (on_line_0 20000 21000) in
    let now = now_up_to_date train stops none_numbered (omega arith) h in
    elim now.none_due [
      | inl none ↦ absurd (let bad : Some 1 ≡ None = All-head (λ (held : ℕ × Slot). due_number stops held.1 ≡ None) (0, slot_of Conditional false 3) [] none in cc)
      | inr full ↦ differ 1 15 refl full
    ]
