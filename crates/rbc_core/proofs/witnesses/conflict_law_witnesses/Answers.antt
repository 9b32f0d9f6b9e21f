use Rattle.std.proofs.Common.{◌≡◌, true, [], ◌∷◌, ◌++◌, refl, arith, inl, inr}
use Rattle.std.proofs.lemmas.List.Elements.{All-nil, All-cons, All-head, All-tail, Contains-get_or}
use Rattle.rbc_records.specs.declared.record.Key.{Key}
use Rattle.rbc_records.specs.declared.record.Key.TheVariants as key
use Rattle.rbc_versions.specs.Entries.{NumberedRec, AreCurrent, records_of}
use Rattle.rbc_rule.specs.declared.input.Input.TheVariants as input
use Rattle.rbc_rule_laws.proofs.WitnessSays.{differ}
use Rattle.rbc_core.specs.Core.{State}
use Rattle.rbc_core.specs.Events.Event.{Reads, Deposits, Voids, Applies, Recomputes, Ends}
use Rattle.rbc_core.specs.Conflicts.{after, IsOvertaken, WasVoided}
use Rattle.rbc_core.specs.Witnesses.{two_inputs, absent, enrolled, refused, enrolled_numbers, start, first_try, reading_first, committing_first, second_try, stops_try, after_events, second_overtaken, second_given_up, stops_read, nothing_read, train_7, under, forwarded_try, forwarding, third_try, both_engines, third_read, started_with_4, stops_at_4, again_numbers, second_misled}
use Rattle.rbc_core.proofs.Fates.{follow_append}
use Rattle.rbc_core.proofs.WitnessEvents.{follow_given_up, again, right_first, right_second, recomputes_first}
use Rattle.rbc_core.proofs.WitnessConflicts.{Each, WasRead, IsAnswered, are_answered, IsOther, not_read, not_written, taken, first_answered}
use Rattle.rbc_core.proofs.WitnessForwards.{not_misled}
use Rattle.rbc_core.proofs.witnesses.conflict_law_witnesses.Goals as goal

second_answered : IsAnswered (taken ++ Reads 2 (key.Train 7) 0 ∷ []) (Deposits second_try true)
second_answered =
    let P : Key × NumberedRec → Type 0 = WasRead (taken ++ Reads 2 (key.Train 7) 0 ∷ []) second_try in
    All-cons P (key.Train 7, absent) [] (taken, [], refl) (All-nil P)

pub returns-clause-answered : goal.returns-clause-answered
returns-clause-answered c = are_answered second_overtaken (tt, (tt, (tt, (tt, (tt, (tt, (second_answered, (tt, (tt, (tt, (first_answered (taken ++ Reads 2 (key.Train 7) 0 ∷ Deposits second_try true ∷ []), (tt, tt))))))))))))

overtaken : IsOvertaken start second_overtaken second_try (key.Train 7, absent)
overtaken = (
  taken,
  [],
  committing_first,
  refl,
  (refl, (1, omega arith, (Deposits second_try true ∷ reading_first ++ Deposits first_try true ∷ [], Applies enrolled enrolled_numbers, [], refl, refl, refl))),
)

pub returns-clause-overtaken : goal.returns-clause-overtaken
returns-clause-overtaken c = overtaken

pub returns-clause-explained : goal.returns-clause-explained
returns-clause-explained c =
    inr (
      second_try,
      record { uncommitted = omega arith; taken = omega arith; at = refl },
      ((key.Train 7, absent), Contains-get_or second_try.notes 0 (key.Train 7, absent) (omega arith), inl overtaken),
    )

pub returns-clause-giving_up : goal.returns-clause-giving_up
returns-clause-giving_up c =
    follow_append two_inputs start second_given_up (Recomputes refused [] ∷ Ends ∷ []) follow_given_up
    (again (after_events second_given_up) refl refl (inl (record { uncommitted = omega arith; taken = omega arith; at = refl })))

pub returns-clause-answered_too : goal.returns-clause-answered_too
returns-clause-answered_too c = are_answered second_given_up (tt, (tt, (tt, (tt, (tt, (tt, (tt, (tt, (tt, (first_answered (taken ++ Voids 2 true ∷ []), (tt, tt)))))))))))

given_up : WasVoided second_given_up 2
given_up = (taken, committing_first, refl)

pub returns-clause-given_up : goal.returns-clause-given_up
returns-clause-given_up c = given_up

pub returns-clause-explained_too : goal.returns-clause-explained_too
returns-clause-explained_too c = inl given_up

pub returns-clause-unwritten : goal.returns-clause-unwritten
returns-clause-unwritten c h = not_written start stops_read stops_try (key.Stops, absent) (refl, (refl, (refl, (refl, (refl, (refl, (refl, (refl, (refl, (refl, (refl, (refl, tt)))))))))))) h

pub returns-clause-unread : goal.returns-clause-unread
returns-clause-unread c h =
    let other : Each (IsOther 2 (key.Train 7) 0) [] nothing_read = (
      (λ e. cc e),
      ((λ e. cc e), ((λ e. cc e), ((λ e. cc e), ((λ e. cc e), ((λ e. cc e), ((λ e. cc e), ((λ e. cc e), ((λ e. cc e), ((λ e. cc e), ((λ e. cc e), tt)))))))))),
    ) in
    not_read 2 (key.Train 7) 0 nothing_read h.0 (h.1 ++ Deposits second_try true ∷ h.2) other h.3

pub returns-clause-unanswered : goal.returns-clause-unanswered
returns-clause-unanswered c h =
    let other : Each (IsOther 2 (key.Train 7) 0) [] taken = ((λ e. cc e), ((λ e. cc e), ((λ e. cc e), ((λ e. cc e), ((λ e. cc e), tt))))) in
    let read = h taken committing_first second_try refl (key.Train 7, absent) (Contains-get_or second_try.notes 0 (key.Train 7, absent) (omega arith)) in
    not_read 2 (key.Train 7) 0 taken read.0 read.1 other read.2

pub returns-clause-misled : goal.returns-clause-misled
returns-clause-misled c = (
  taken ++ Deposits first_try true ∷ [],
  [],
  Recomputes enrolled again_numbers ∷ [],
  refl,
  (
    1,
    first_try,
    omega arith,
    record { uncommitted = omega arith; taken = omega arith; at = refl },
    refl,
    inl (Deposits forwarded_try true ∷ [], enrolled, again_numbers, [], refl, refl),
  ),
)

pub returns-clause-misled_again : goal.returns-clause-misled_again
returns-clause-misled_again c =
    let stale : AreCurrent first_try.notes stops_at_4 → ⊥ =
    λ current. differ 0 4 refl (
    All-head (λ (e : Key × NumberedRec). e.1.number ≡ stops_at_4 e.0) (key.Stops, absent) ((key.Limits, absent) ∷ [])
    (All-tail (λ (e : Key × NumberedRec). e.1.number ≡ stops_at_4 e.0) (key.Roster, absent) ((key.Stops, absent) ∷ (key.Limits, absent) ∷ []) current)
    ) in
    let s : State = after started_with_4 second_misled in
    let other : AreCurrent forwarded_try.notes s.present → ⊥ =
    λ current. differ 2 6 refl (All-head (λ (e : Key × NumberedRec). e.1.number ≡ s.present e.0) (key.Train 7, under 2 train_7) [] current) in
    follow_append two_inputs started_with_4 second_misled (Recomputes refused [] ∷ Ends ∷ [])
    (tt, (tt, (tt, ((refl, omega arith, refl), ((refl, omega arith, refl), ((right_first, record { uncommitted = omega arith; taken = omega arith; at = refl }), (inr (1, first_try, omega arith, record { uncommitted = omega arith; taken = omega arith; at = refl }, refl), ((right_second _, record { uncommitted = omega arith; taken = omega arith; at = refl }), ((refl, inr (first_try, record { uncommitted = omega arith; taken = omega arith; at = refl }, stale), (input.Enrol 7 2000, record { first = omega arith; there = refl }, recomputes_first), λ records k. refl), tt)))))))))
    (again s refl refl (inr (forwarded_try, record { uncommitted = omega arith; taken = omega arith; at = refl }, other)))

pub returns-clause-misled_in_between : goal.returns-clause-misled_in_between
returns-clause-misled_in_between c = (
  third_read,
  [],
  Applies enrolled enrolled_numbers ∷ Voids 2 true ∷ Recomputes (record enrolled { writes = records_of both_engines }) both_engines ∷ [],
  refl,
  (
    1,
    first_try,
    omega arith,
    record { uncommitted = omega arith; taken = omega arith; at = refl },
    refl,
    inr (
      2,
      omega arith,
      omega arith,
      (
        Deposits third_try true ∷ Applies enrolled enrolled_numbers ∷ Voids 2 true ∷ [],
        Recomputes (record enrolled { writes = records_of both_engines }) both_engines,
        [],
        refl,
        refl,
        refl,
      ),
    ),
  ),
)

pub returns-clause-not_misled : goal.returns-clause-not_misled
returns-clause-not_misled c h = not_misled forwarding forwarded_try (key.Train 7, under 2 train_7) refl (tt, (tt, (tt, (tt, (tt, (tt, (tt, (tt, (tt, (tt, (tt, (tt, tt)))))))))))) h
