-- What holds of worked events.
use Rattle.std.proofs.Common.{◌≡◌, ℕ, ◌+◌, ◌-◌, ◌≤◌, Bool, true, false, cond, eqb, leb, option_map, List, [], ◌∷◌, ◌++◌, Option, Some, None, inl, inr, refl, sym, ap, ◌∙◌, subst, arith}
use Rattle.std.specs.Prelude.{slice_get}
use Rattle.std.specs.List.{All}
use Rattle.std.proofs.lemmas.Bool.{and_parts, leb-true, eqb-true}
use Rattle.std.proofs.lemmas.List.Elements.{All-head, All-tail, All-nil, All-cons}
use Rattle.rbc_maps.specs.Maps.{keys, rises_from}
use Rattle.rbc_maps.specs.Numbered.{Numbered, AreNumbered, none_numbered}
use Rattle.ertms_codec.specs.declared.to_train.ToTrain.{ToTrain}
use Rattle.rbc_settle.specs.Trains.{new_train}
use Rattle.rbc_settle.specs.declared.train.TrainRec.{TrainRec}
use Rattle.rbc_records.specs.declared.record.Key.{Key}
use Rattle.rbc_records.specs.declared.record.Key.TheVariants as key
use Rattle.rbc_records.specs.declared.record.Rec.{Rec}
use Rattle.rbc_records.specs.declared.record.Rec.TheVariants as rec
use Rattle.rbc_records.specs.Notes.{Part}
use Rattle.rbc_records.specs.Writes.{written}
use Rattle.rbc_versions.specs.Entries.{NumberedRec, AreCurrent, records_of}
use Rattle.rbc_rule.specs.declared.input.Input.TheVariants as input
use Rattle.rbc_rule.specs.declared.outcome.Outcome.{Outcome}
use Rattle.rbc_rule.specs.World.{World, new_world}
use Rattle.rbc_rule.specs.Step.{step}
use Rattle.rbc_rule.specs.Records.{record_of, engines_record}
use Rattle.rbc_rule.specs.Right.{MayBe, IsStep}
use Rattle.rbc_rule.specs.WellFormed.{IsWellFormed}
use Rattle.rbc_rule_laws.specs.Witnesses.{track_a}
use Rattle.rbc_rule_laws.proofs.WitnessSays.{differ}
use Rattle.rbc_desk.specs.Held.{IsOutcomeOf}
use Rattle.rbc_core.specs.declared.stage.Stage.{Stage}
use Rattle.rbc_core.specs.declared.stage.Stage.TheVariants.{Out, Tried, Void}
use Rattle.rbc_core.specs.Runs.{IsInput}
use Rattle.rbc_core.specs.Core.{Try, State, IsRightTry, front, IsStale}
use Rattle.rbc_core.specs.Events.{Event, Follow}
use Rattle.rbc_core.specs.Events.Event.{Takes, Reads, Deposits, Voids, Recomputes, Ends}
use Rattle.rbc_core.specs.Witnesses.{two_inputs, enrolled, refused, train_7, absent, under, publishing, no_numbers, start, nothing_there, first_try, committing_first, second_try, stale_try, second_overtaken, second_given_up}
use Rattle.rbc_track.proofs.Entries.{eqb_turned}

-- ---- the outcomes

-- a line that is no input is refused in each world
bad_step : (w : World) → IsStep track_a (input.Bad 1) w refused.result refused.writes refused.messages
bad_step w = record { after = λ k. refl; answer = refl; sent = λ engine. refl }

-- an attempt at it is right, whatever was read
pub right_second : (notes : List (Key × NumberedRec)) → IsRightTry two_inputs (record second_try { notes = notes })
right_second notes = record {
  input = input.Bad 1;
  is_input = record { first = omega arith; there = refl };
  right = λ w m. bad_step w;
  fit = All-nil _;
  writes = λ records k. refl;
}

-- nobody is enrolled where there is no record of engines
nobody : (trains : List (ℕ × TrainRec)) → None ≡ engines_record (keys trains) → trains ≡ []
nobody [] e = refl
nobody (train ∷ trains) e = absurd (cc e)

-- nothing is active where no number was ever given
none_active : {V : Type 0} (last : ℕ) (active : List (ℕ × V)) → rises_from 1 (keys active) ≡ true → All (λ n. n ≤ last) (keys active) → last ≡ 0 → active ≡ []
none_active last [] rises within none = refl
none_active last (pair ∷ pairs) rises within none =
    let above = leb-true 1 pair.0 (and_parts (leb 1 pair.0) _ rises).0 in
    let below = All-head (λ n. n ≤ last) pair.0 (keys pairs) within in
    absurd (omega (arith, above, below, none))

none_given : {V : Type 0} (n : Numbered V) (r : Rec) → AreNumbered n → None ≡ cond (eqb n.last 0) None (Some r) → n ≡ none_numbered
none_given n r are e =
    let zero : n.last ≡ 0 = eqb-true n.last 0 (test (eqb n.last 0) e) in
    λ i. record { last = zero i; active = none_active n.last n.active are.ascending are.within zero i }
  where
    test : (b : Bool) → None ≡ cond b None (Some r) → b ≡ true
    test true e = refl
    test false e = absurd (cc e)

-- so a well-formed world without those records is the new one
new_by : (w : World) → IsWellFormed track_a w → None ≡ record_of w key.Roster → None ≡ record_of w key.Stops → None ≡ record_of w key.Limits → w ≡ new_world
new_by w well_formed no_engines no_stops no_limits =
    let trains = nobody w.trains no_engines in
    let stops = none_given w.stops _ well_formed.stops.numbered no_stops in
    let limits = none_given w.limits _ well_formed.limits.numbered no_limits in
    λ i. record { trains = trains i; stops = stops i; limits = limits i }

is_new : (w : World) → MayBe track_a (Part (records_of nothing_there)) w → w ≡ new_world
is_new w m = new_by w m.well_formed (m.agrees key.Roster refl) (m.agrees key.Stops refl) (m.agrees key.Limits refl)

-- whether an engine is train 7, asked either way
is_seven : (b : Bool) (train : TrainRec) → cond b (Some (rec.Train train)) None ≡ option_map rec.Train (cond b (Some train) None)
is_seven true train = refl
is_seven false train = refl

no_message : (b : Bool) → ◌≡◌ {A = List ToTrain} [] (cond b [] [])
no_message true = refl
no_message false = refl

enrol_step : IsStep track_a (input.Enrol 7 2000) new_world enrolled.result enrolled.writes enrolled.messages
enrol_step = record { after = after; answer = refl; sent = λ engine. no_message (eqb 7 engine) }
  where
    after : (k : Key) → written enrolled.writes (record_of new_world) k ≡ record_of (step track_a new_world (input.Enrol 7 2000)).world k
    after key.Roster = refl
    after (key.Train engine) =
        is_seven (eqb engine 7) (new_train 7 2000 0) ∙ ap (λ b. option_map rec.Train (cond b (Some (new_train 7 2000 0)) None)) (eqb_turned engine 7)
    after key.Stops = refl
    after key.Limits = refl
    after (key.Line line) = refl
    after key.Unplaced = refl

pub right_first : IsRightTry two_inputs first_try
right_first = record {
  input = input.Enrol 7 2000;
  is_input = record { first = omega arith; there = refl };
  right = λ w m. subst (λ (v : World). IsStep track_a (input.Enrol 7 2000) v enrolled.result enrolled.writes enrolled.messages) (sym (is_new w m)) enrol_step;
  fit = All-nil _;
  writes = λ records k. refl;
}

-- ---- the events

-- each number that was read for the first is the present one at the opening
pub nothing_now : AreCurrent nothing_there no_numbers
nothing_now =
    let P : Key × NumberedRec → Type 0 = λ entry. entry.1.number ≡ no_numbers entry.0 in
    All-cons P (key.Roster, absent) ((key.Stops, absent) ∷ (key.Limits, absent) ∷ []) refl (All-cons P (key.Stops, absent) ((key.Limits, absent) ∷ []) refl (All-cons P (key.Limits, absent) [] refl (All-nil P)))

-- the second is recomputed in each world
pub recomputes_second : (records : Key → Option Rec) → IsOutcomeOf track_a (input.Bad 1) records refused
recomputes_second records w are = bad_step w

-- and the first, from a new desk
pub recomputes_first : IsOutcomeOf track_a (input.Enrol 7 2000) (λ k. None) enrolled
recomputes_first w are =
    subst (λ (v : World). IsStep track_a (input.Enrol 7 2000) v enrolled.result enrolled.writes enrolled.messages)
    (sym (new_by w are.well_formed (are.same key.Roster) (are.same key.Stops) (are.same key.Limits))) enrol_step

-- an attempt with these three numbers of which the last is not the present one is not fresh
pub third_is_stale : (notes : List (Key × NumberedRec)) (numbers : Key → ℕ) → stale_try.notes ≡ notes → AreCurrent notes numbers → 2 ≡ numbers (key.Train 7)
third_is_stale notes numbers same current =
    let P : Key × NumberedRec → Type 0 = λ entry. entry.1.number ≡ numbers entry.0 in
    let all : All P ((key.Roster, absent) ∷ (key.Stops, absent) ∷ (key.Train 7, under 2 train_7) ∷ []) = subst (All P) (sym same) current in
    All-head P (key.Train 7, under 2 train_7) [] (All-tail P (key.Stops, absent) ((key.Train 7, under 2 train_7) ∷ []) (All-tail P (key.Roster, absent) ((key.Stops, absent) ∷ (key.Train 7, under 2 train_7) ∷ []) all))

-- the number of a note that there is no train 7 is not the present one once it is enrolled
pub train_note_stale : (numbers : Key → ℕ) → numbers (key.Train 7) ≡ 2 → AreCurrent second_try.notes numbers → ⊥
train_note_stale numbers is current = differ 0 2 refl (All-head (λ (entry : Key × NumberedRec). entry.1.number ≡ numbers entry.0) (key.Train 7, absent) [] current ∙ is)

-- ---- runs

-- the records are published, and then both inputs are taken
pub both_taken : (events : List Event) → Follow two_inputs (record start { stages = Out ∷ Out ∷ []; taken = 2 }) events → Follow two_inputs start (publishing ++ Takes (Some 1) ∷ Takes (Some 2) ∷ events)
both_taken events h = (tt, (tt, (tt, ((refl, omega arith, refl), ((refl, omega arith, refl), h)))))

-- the first input is read for, attempted and committed, however far the second one is
pub first_turn : (taken : ℕ) (x : Stage Try) → 1 ≤ taken → Follow two_inputs (record start { stages = Out ∷ x ∷ []; taken = taken }) committing_first
first_turn taken x one = (
  inl refl,
  (
    inl refl,
    (
      inl refl,
      (
        (right_first, record { uncommitted = omega arith; taken = one; at = refl }),
        ((refl, (first_try, record { uncommitted = omega arith; taken = one; at = refl }, nothing_now, refl, refl)), tt),
      ),
    ),
  ),
)

pub follow_overtaken : Follow two_inputs start second_overtaken
follow_overtaken =
    both_taken (Reads 2 (key.Train 7) 0 ∷ Deposits second_try true ∷ committing_first)
    (inl refl, ((right_second _, record { uncommitted = omega arith; taken = omega arith; at = refl }), first_turn 2 (Tried second_try) (omega arith)))

pub follow_given_up : Follow two_inputs start second_given_up
follow_given_up = both_taken (Voids 2 true ∷ committing_first) (record { uncommitted = omega arith; taken = omega arith; at = refl }, first_turn 2 Void (omega arith))

-- then the second is recomputed
pub again : (s : State) → s.closed ≡ false → s.committed ≡ 1 → IsStale s → Follow two_inputs s (Recomputes refused [] ∷ Ends ∷ [])
again s live one stale =
    let second : IsInput two_inputs (front s) (input.Bad 1) = subst (λ n. IsInput two_inputs n (input.Bad 1)) (ap (λ n. n + 1) (sym one)) (record { first = omega arith; there = refl }) in
    ((live, stale, (input.Bad 1, second, recomputes_second s.desk.records), λ records k. refl), (ap (λ n. n + 1) one, tt))

-- where the number of a note of its attempt is not the present one any more
pub again_by_number : (s : State) (outcome : Outcome) (writes : List (Key × NumberedRec)) → s.closed ≡ false → s.committed ≡ 1 → 2 ≤ s.taken → slice_get s.stages 1 ≡ Some (Tried (record second_try { outcome = outcome; writes = writes }))
    → s.present (key.Train 7) ≡ 2 → Follow two_inputs s (Recomputes refused [] ∷ Ends ∷ [])
again_by_number s outcome writes live one taken there number =
    again s live one (inr (
      record second_try { outcome = outcome; writes = writes },
      record { uncommitted = omega arith; taken = omega (arith, one, taken); at = subst (λ n. slice_get s.stages (n + 1 - 1) ≡ Some (Tried (record second_try { outcome = outcome; writes = writes }))) (sym one) there },
      train_note_stale s.present number,
    ))
