use Rattle.std.proofs.Common.{◌≡◌, true, [], ◌∷◌, ◌++◌, refl, arith, inl, inr}
use Rattle.std.proofs.lemmas.List.Elements.{All-nil, All-cons, Contains-get_or}
use Rattle.rbc_records.specs.declared.record.Key.{Key}
use Rattle.rbc_records.specs.declared.record.Key.TheVariants as key
use Rattle.rbc_versions.specs.Entries.{NumberedRec}
use Rattle.rbc_core.specs.declared.stage.Stage.TheVariants.{Tried}
use Rattle.rbc_core.specs.Events.Event.{Reads, Deposits, Voids, Applies, Recomputes, Ends}
use Rattle.rbc_core.specs.Witnesses.{two_inputs, absent, under, train_7, enrolled, refused, enrolled_numbers, start, first_try, reading_first, committing_first, second_try, after_events, second_overtaken, second_given_up, nothing_read, forwarded_try, first_tried, forwarding, applying_forwarded, passing_over}
use Rattle.rbc_core.proofs.Fates.{follow_append}
use Rattle.rbc_core.proofs.WitnessEvents.{right_first, right_second, both_taken, first_turn, follow_overtaken, follow_given_up, again, again_by_number, nothing_now}
use Rattle.rbc_core.proofs.WitnessConflicts.{Each, WasRead, IsAnswered, are_answered, IsOther, not_read, taken, first_answered}
use Rattle.rbc_core.proofs.WitnessForwards.{none_voided, are_latest, are_after, none_kept, first_latest, first_after, latest_of_first, second_after, latest_of_none, not_latest}
use Rattle.rbc_core.proofs.witnesses.forward_law_witnesses.Goals as goal

-- ---- the note of the attempt at the second was read

second_answered : IsAnswered (first_tried ++ Reads 2 (key.Train 7) 2 ∷ []) (Deposits forwarded_try true)
second_answered =
    let P : Key × NumberedRec → Type 0 = WasRead (first_tried ++ Reads 2 (key.Train 7) 2 ∷ []) forwarded_try in
    All-cons P (key.Train 7, under 2 train_7) [] (first_tried, [], refl) (All-nil P)

passed_answered : IsAnswered (first_tried ++ Reads 2 (key.Train 7) 0 ∷ []) (Deposits second_try true)
passed_answered =
    let P : Key × NumberedRec → Type 0 = WasRead (first_tried ++ Reads 2 (key.Train 7) 0 ∷ []) second_try in
    All-cons P (key.Train 7, absent) [] (first_tried, [], refl) (All-nil P)

early_answered : IsAnswered (taken ++ Reads 2 (key.Train 7) 0 ∷ []) (Deposits second_try true)
early_answered =
    let P : Key × NumberedRec → Type 0 = WasRead (taken ++ Reads 2 (key.Train 7) 0 ∷ []) second_try in
    All-cons P (key.Train 7, absent) [] (taken, [], refl) (All-nil P)

-- ---- train 7 is read as the first writes it

pub returns-clause-all_met : goal.returns-clause-all_met
returns-clause-all_met c = (
  are_answered applying_forwarded (tt, (tt, (tt, (tt, (tt, (tt, (tt, (tt, (first_answered taken, (tt, (second_answered, (tt, (tt, (tt, tt)))))))))))))),
  none_voided applying_forwarded (tt, (tt, (tt, (tt, (tt, (tt, (tt, (tt, (tt, (tt, (tt, (tt, (tt, (tt, tt)))))))))))))),
  are_latest applying_forwarded (tt, (tt, (tt, (tt, (tt, (first_latest _ _ refl, (first_latest _ _ refl, (first_latest _ _ refl, (tt, (latest_of_first _ (record { uncommitted = omega arith; taken = omega arith; at = refl }), (tt, (tt, (tt, (tt, tt)))))))))))))),
  are_after applying_forwarded (tt, (tt, (tt, (tt, (tt, (first_after _, (first_after _, (first_after _, (tt, (second_after _ (taken ++ reading_first) [] refl, (tt, (tt, (tt, (tt, tt)))))))))))))),
)

pub returns-clause-forwarding : goal.returns-clause-forwarding
returns-clause-forwarding c =
    let P : Key × NumberedRec → Type 0 = λ (e : Key × NumberedRec). e.1.number ≡ (after_events forwarding).present e.0 in
    both_taken (reading_first ++ Deposits first_try true ∷ Reads 2 (key.Train 7) 2 ∷ Deposits forwarded_try true ∷ Applies enrolled enrolled_numbers ∷ Applies refused [] ∷ Ends ∷ [])
    (inl refl, (inl refl, (inl refl, ((right_first, record { uncommitted = omega arith; taken = omega arith; at = refl }), (inr (1, first_try, omega arith, record { uncommitted = omega arith; taken = omega arith; at = refl }, refl), ((right_second _, record { uncommitted = omega arith; taken = omega arith; at = refl }), ((refl, (first_try, record { uncommitted = omega arith; taken = omega arith; at = refl }, nothing_now, refl, refl)), ((refl, (forwarded_try, record { uncommitted = omega arith; taken = omega arith; at = refl }, All-cons P (key.Train 7, under 2 train_7) [] refl (All-nil P), refl, refl)), (refl, tt)))))))))

pub returns-clause-forwarded : goal.returns-clause-forwarded
returns-clause-forwarded c = (1, first_try, omega arith, record { uncommitted = omega arith; taken = omega arith; at = refl }, refl)

-- ---- what was not read

pub returns-clause-unread : goal.returns-clause-unread
returns-clause-unread c = (
  (λ h.
      (let other : Each (IsOther 2 (key.Train 7) 0) [] taken = ((λ e. cc e), ((λ e. cc e), ((λ e. cc e), ((λ e. cc e), ((λ e. cc e), tt))))) in
      let read = h taken committing_first second_try refl (key.Train 7, absent) (Contains-get_or second_try.notes 0 (key.Train 7, absent) (omega arith)) in
      not_read 2 (key.Train 7) 0 taken read.0 read.1 other read.2)),
  none_voided nothing_read (tt, (tt, (tt, (tt, (tt, (tt, (tt, (tt, (tt, (tt, (tt, tt))))))))))),
  are_latest nothing_read (tt, (tt, (tt, (tt, (tt, (tt, (first_latest _ _ refl, (first_latest _ _ refl, (first_latest _ _ refl, (tt, (tt, tt))))))))))),
  are_after nothing_read (tt, (tt, (tt, (tt, (tt, (tt, (first_after _, (first_after _, (first_after _, (tt, (tt, tt))))))))))),
)

pub returns-clause-unread_again : goal.returns-clause-unread_again
returns-clause-unread_again c =
    follow_append two_inputs start nothing_read (Recomputes refused [] ∷ Ends ∷ [])
    (both_taken (Deposits second_try true ∷ committing_first) ((right_second _, record { uncommitted = omega arith; taken = omega arith; at = refl }), first_turn 2 (Tried second_try) (omega arith)))
    (again_by_number (after_events nothing_read) refused [] refl refl (omega arith) refl refl)

-- ---- what was given up

pub returns-clause-given_up : goal.returns-clause-given_up
returns-clause-given_up c = (
  are_answered second_given_up (tt, (tt, (tt, (tt, (tt, (tt, (tt, (tt, (tt, (first_answered (taken ++ Voids 2 true ∷ []), (tt, tt))))))))))),
  (λ h. h taken committing_first 2 refl),
  are_latest second_given_up (tt, (tt, (tt, (tt, (tt, (tt, (first_latest _ _ refl, (first_latest _ _ refl, (first_latest _ _ refl, (tt, (tt, tt))))))))))),
  are_after second_given_up (tt, (tt, (tt, (tt, (tt, (tt, (first_after _, (first_after _, (first_after _, (tt, (tt, tt))))))))))),
)

pub returns-clause-given_up_again : goal.returns-clause-given_up_again
returns-clause-given_up_again c =
    follow_append two_inputs start second_given_up (Recomputes refused [] ∷ Ends ∷ []) follow_given_up
    (again (after_events second_given_up) refl refl (inl (record { uncommitted = omega arith; taken = omega arith; at = refl })))

-- ---- what was read as it stood before

pub returns-clause-passed_over : goal.returns-clause-passed_over
returns-clause-passed_over c = (
  are_answered passing_over (tt, (tt, (tt, (tt, (tt, (tt, (tt, (tt, (first_answered taken, (tt, (passed_answered, (tt, tt)))))))))))),
  none_voided passing_over (tt, (tt, (tt, (tt, (tt, (tt, (tt, (tt, (tt, (tt, (tt, (tt, tt)))))))))))),
  (λ h. not_latest (after_events first_tried) refl (record { uncommitted = omega arith; taken = omega arith; at = refl }) (h first_tried (Deposits second_try true ∷ Applies enrolled enrolled_numbers ∷ []) 2 (key.Train 7) 0 refl)),
  are_after passing_over (tt, (tt, (tt, (tt, (tt, (first_after _, (first_after _, (first_after _, (tt, (second_after _ (taken ++ reading_first) [] refl, (tt, (tt, tt)))))))))))),
)

pub returns-clause-passed_over_again : goal.returns-clause-passed_over_again
returns-clause-passed_over_again c =
    follow_append two_inputs start passing_over (Recomputes refused [] ∷ Ends ∷ [])
    (
    both_taken (reading_first ++ Deposits first_try true ∷ Reads 2 (key.Train 7) 0 ∷ Deposits second_try true ∷ Applies enrolled enrolled_numbers ∷ [])
    (inl refl, (inl refl, (inl refl, ((right_first, record { uncommitted = omega arith; taken = omega arith; at = refl }), (inl refl, ((right_second _, record { uncommitted = omega arith; taken = omega arith; at = refl }), ((refl, (first_try, record { uncommitted = omega arith; taken = omega arith; at = refl }, nothing_now, refl, refl)), tt)))))))
    )
    (again_by_number (after_events passing_over) refused [] refl refl (omega arith) refl refl)

-- ---- what was read too early

pub returns-clause-too_early : goal.returns-clause-too_early
returns-clause-too_early c = (
  are_answered second_overtaken (tt, (tt, (tt, (tt, (tt, (tt, (early_answered, (tt, (tt, (tt, (first_answered (taken ++ Reads 2 (key.Train 7) 0 ∷ Deposits second_try true ∷ []), (tt, tt)))))))))))),
  none_voided second_overtaken (tt, (tt, (tt, (tt, (tt, (tt, (tt, (tt, (tt, (tt, (tt, (tt, tt)))))))))))),
  are_latest second_overtaken (tt, (tt, (tt, (tt, (tt, (latest_of_none _ _ refl refl, (tt, (first_latest _ _ refl, (first_latest _ _ refl, (first_latest _ _ refl, (tt, (tt, tt)))))))))))),
  (λ h. none_kept taken 1 (tt, (tt, (tt, (tt, (tt, tt))))) (h taken (Deposits second_try true ∷ committing_first) 2 (key.Train 7) 0 refl 1 (omega arith) (omega arith))),
)

pub returns-clause-too_early_again : goal.returns-clause-too_early_again
returns-clause-too_early_again c =
    follow_append two_inputs start second_overtaken (Recomputes refused [] ∷ Ends ∷ []) follow_overtaken
    (again_by_number (after_events second_overtaken) refused [] refl refl (omega arith) refl refl)
