use Rattle.std.proofs.Common.{true, false, List, [], ◌∷◌, ◌++◌, Some, None, refl, arith, inl, inr}
use Rattle.std.proofs.lemmas.List.Elements.{All-nil}
use Rattle.rbc_core.specs.declared.stage.Stage.TheVariants.{Free}
use Rattle.rbc_core.specs.Events.{Event, Follow}
use Rattle.rbc_core.specs.Events.Event.{Takes, Deposits, Voids, Applies, Recomputes, Ends, Fails}
use Rattle.rbc_core.specs.Witnesses.{two_inputs, refused, publishing, start, first_try, reading_first, committing_first, unread_try, after_events, second_overtaken}
use Rattle.rbc_core.proofs.Fates.{follow_append}
use Rattle.rbc_core.proofs.WitnessEvents.{right_first, right_second, both_taken, first_turn, follow_overtaken, again_by_number}
use Rattle.rbc_core.proofs.witnesses.event_law_witnesses.Goals as goal

pub returns-clause-computing_again : goal.returns-clause-computing_again
returns-clause-computing_again c =
    follow_append two_inputs start second_overtaken (Recomputes refused [] ∷ Ends ∷ []) follow_overtaken
    (again_by_number (after_events second_overtaken) refused [] refl refl (omega arith) refl refl)

pub returns-clause-applying : goal.returns-clause-applying
returns-clause-applying c =
    let more : List Event = Takes (Some 2) ∷ Deposits unread_try true ∷ Applies refused [] ∷ Takes None ∷ Ends ∷ [] in
    let rest : Follow two_inputs (after_events (publishing ++ Takes (Some 1) ∷ committing_first)) more = (
      (refl, omega arith, refl),
      (
        (right_second [], record { uncommitted = omega arith; taken = omega arith; at = refl }),
        ((refl, (unread_try, record { uncommitted = omega arith; taken = omega arith; at = refl }, All-nil _, refl, refl)), (inl refl, (refl, tt))),
      ),
    ) in
    follow_append two_inputs start (publishing ++ Takes (Some 1) ∷ committing_first) more (tt, (tt, (tt, ((refl, omega arith, refl), first_turn 1 Free (omega arith))))) rest

pub returns-clause-failing : goal.returns-clause-failing
returns-clause-failing c =
    both_taken (reading_first ++ Deposits first_try true ∷ Fails false ∷ Voids 2 true ∷ Voids 1 false ∷ Takes None ∷ Fails true ∷ []) (
      inl refl,
      (
        inl refl,
        (
          inl refl,
          (
            (right_first, record { uncommitted = omega arith; taken = omega arith; at = refl }),
            (
              (refl, inl (first_try, record { uncommitted = omega arith; taken = omega arith; at = refl })),
              (
                record { uncommitted = omega arith; taken = omega arith; at = refl },
                ((λ at. let x = at.at in absurd (cc x)), (inr refl, ((omega arith, inl refl), tt))),
              ),
            ),
          ),
        ),
      ),
    )
