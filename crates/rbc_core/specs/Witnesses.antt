-- Worked cases of the laws of events and of what is recomputed. Lengths are in units of 10 cm.
use Rattle.std.specs.Prelude.{ℕ, zero, suc, true, false, List, [], ◌∷◌, ◌++◌, Some, None, if◌then◌else◌, slice_get}
use Rattle.rbc_maps.specs.Numbered.{none_numbered}
use Rattle.rbc_settle.specs.Trains.{new_train}
use Rattle.rbc_records.specs.declared.record.Key.{Key}
use Rattle.rbc_records.specs.declared.record.Key.TheVariants as key
use Rattle.rbc_records.specs.declared.record.Rec.{Rec}
use Rattle.rbc_records.specs.declared.record.Rec.TheVariants as rec
use Rattle.rbc_records.specs.Notes.{same_key}
use Rattle.rbc_versions.specs.declared.log.Version.{Version}
use Rattle.rbc_versions.specs.Entries.{NumberedRec, records_of}
use Rattle.rbc_rule.specs.declared.input.Input.TheVariants as input
use Rattle.rbc_rule.specs.declared.outcome.Outcome.{Outcome}
use Rattle.rbc_rule.specs.declared.outcome.Reply.TheVariants.{Done, Refused}
use Rattle.rbc_rule_laws.specs.Witnesses.{track_a}
use Rattle.rbc_desk.specs.Held.{Held, standing}
use Rattle.rbc_core.specs.declared.stage.Stage.TheVariants.{Free, Out, Tried, Void}
use Rattle.rbc_core.specs.Runs.{Run}
use Rattle.rbc_core.specs.Core.{Try, State, opening}
use Rattle.rbc_core.specs.Events.{Event, Meaning}
use Rattle.rbc_core.specs.Events.Event.{Publishes, Takes, Reads, Deposits, Voids, Applies, Recomputes, Ends, Fails}
use Rattle.rbc_core.specs.Conflicts.{after, AreAnswered}
use Rattle.rbc_core.specs.Forwards.{AreLatest, AreAfterDeposits, NoneIsVoided}

-- from a new desk: train 7 of 200 m is enrolled, and then comes a line that is not an input
abbrev pub two_inputs : Run
two_inputs = record { track = track_a; opening = record { records = []; results = []; outboxes = [] }; inputs = input.Enrol 7 2000 ∷ input.Bad 1 ∷ [] }

-- the records that the first writes: engine 7 is enrolled, and has no place; and its train
abbrev pub engines : Rec
engines = rec.Engines (7 ∷ [])

abbrev pub train_7 : Rec
train_7 = rec.Train (new_train 7 2000 0)

-- what the first does if nobody is enrolled and nothing was ever active, and what the second does
abbrev pub enrolled : Outcome
enrolled = record { result = Done 0; writes = (key.Roster, Some engines) ∷ (key.Train 7, Some train_7) ∷ (key.Unplaced, Some engines) ∷ []; messages = [] }

abbrev pub refused : Outcome
refused = record { result = Refused 1; writes = []; messages = [] }

-- ---- numbers

-- no record, and a record under a number
abbrev pub absent : NumberedRec
absent = record { number = 0; rec = None }

abbrev pub under : ℕ → Rec → NumberedRec
under number r = record { number = number; rec = Some r }

-- what the first writes is published under the numbers 1, 2 and 3
abbrev pub version : Key → Rec → Version
version k r = record { key = k; rec = r }

abbrev pub versions : List Version
versions = version key.Roster engines ∷ version (key.Train 7) train_7 ∷ version key.Unplaced engines ∷ []

abbrev pub publishing : List Event
publishing = Publishes 1 (version key.Roster engines) ∷ Publishes 2 (version (key.Train 7) train_7) ∷ Publishes 3 (version key.Unplaced engines) ∷ []

abbrev pub enrolled_numbers : List (Key × NumberedRec)
enrolled_numbers = (key.Roster, under 1 engines) ∷ (key.Train 7, under 2 train_7) ∷ (key.Unplaced, under 3 engines) ∷ []

-- what each number means then
abbrev pub means : Meaning
means zero = None
means (suc n) = slice_get versions n

-- engines and a train are published under one number
abbrev pub two_under_one : List Event
two_under_one = Publishes 1 (version key.Roster engines) ∷ Publishes 1 (version (key.Train 7) train_7) ∷ []

-- the desk before has no records, so all numbers are 0
abbrev pub no_numbers : Key → ℕ
no_numbers k = 0

abbrev pub start : State
start = opening two_inputs no_numbers

-- ---- attempts and events

-- what was read for the first: there is no record of engines, of stops or of restrictions
abbrev pub nothing_there : List (Key × NumberedRec)
nothing_there = (key.Roster, absent) ∷ (key.Stops, absent) ∷ (key.Limits, absent) ∷ []

abbrev pub first_try : Try
first_try = record { number = 1; notes = nothing_there; outcome = enrolled; writes = enrolled_numbers }

abbrev pub reading_first : List Event
reading_first = Reads 1 key.Roster 0 ∷ Reads 1 key.Stops 0 ∷ Reads 1 key.Limits 0 ∷ []

-- the first is read for, attempted and committed
abbrev pub committing_first : List Event
committing_first = reading_first ++ Deposits first_try true ∷ Applies enrolled enrolled_numbers ∷ []

-- an attempt at the second, for which it was read that there is no train 7; and one for which nothing was read
abbrev pub second_try : Try
second_try = record { number = 2; notes = (key.Train 7, absent) ∷ []; outcome = refused; writes = [] }

abbrev pub unread_try : Try
unread_try = record second_try { notes = [] }

-- the state after events
abbrev pub after_events : List Event → State
after_events events = after start events

-- both are taken, and these events come before the first is committed
abbrev pub before_first : List Event → List Event
before_first events = publishing ++ Takes (Some 1) ∷ Takes (Some 2) ∷ events ++ committing_first

-- a note of the attempt at the second is overtaken
abbrev pub second_overtaken : List Event
second_overtaken = before_first (Reads 2 (key.Train 7) 0 ∷ Deposits second_try true ∷ [])

abbrev pub computing_again : List Event
computing_again = second_overtaken ++ Recomputes refused [] ∷ Ends ∷ []

-- or it is given up
abbrev pub second_given_up : List Event
second_given_up = before_first (Voids 2 true ∷ [])

abbrev pub giving_up : List Event
giving_up = second_given_up ++ Recomputes refused [] ∷ Ends ∷ []

-- the second is attempted after the first is committed, with nothing read for it
abbrev pub applying : List Event
applying = publishing ++ Takes (Some 1) ∷ committing_first ++ Takes (Some 2) ∷ Deposits unread_try true ∷ Applies refused [] ∷ Takes None ∷ Ends ∷ []

-- memory is refused as the first is to be committed: it is given up, no more is committed, and the second can be given up
abbrev pub failing : List Event
failing = publishing ++ Takes (Some 1) ∷ Takes (Some 2) ∷ reading_first ++ Deposits first_try true ∷ Fails false ∷ Voids 2 true ∷ Voids 1 false ∷ Takes None ∷ Fails true ∷ []

-- the first is recomputed, though each number that was read for it is the present one
abbrev pub again_for_nothing : List Event
again_for_nothing = publishing ++ Takes (Some 1) ∷ reading_first ++ Deposits first_try true ∷ Recomputes enrolled enrolled_numbers ∷ []

-- for the second stops are read, which the first does not write; and nothing is read for it, though its attempt has a note
abbrev pub stops_try : Try
stops_try = record second_try { notes = (key.Stops, absent) ∷ [] }

abbrev pub stops_read : List Event
stops_read = before_first (Reads 2 key.Stops 0 ∷ Deposits stops_try true ∷ [])

abbrev pub nothing_read : List Event
nothing_read = before_first (Deposits second_try true ∷ [])

-- ---- what is read before it is committed

-- an attempt at the second, for which train 7 was read as the attempt at the first writes it
abbrev pub forwarded_try : Try
forwarded_try = record second_try { notes = (key.Train 7, under 2 train_7) ∷ [] }

-- both are taken, and there is an attempt at the first
abbrev pub first_tried : List Event
first_tried = publishing ++ Takes (Some 1) ∷ Takes (Some 2) ∷ reading_first ++ Deposits first_try true ∷ []

-- train 7 is read for the second as the first writes it, and then both are committed
abbrev pub forwarding : List Event
forwarding = first_tried ++ Reads 2 (key.Train 7) 2 ∷ Deposits forwarded_try true ∷ Applies enrolled enrolled_numbers ∷ []

abbrev pub applying_forwarded : List Event
applying_forwarded = forwarding ++ Applies refused [] ∷ Ends ∷ []

-- or it is read as it stood before, and the first is committed
abbrev pub passing_over : List Event
passing_over = first_tried ++ Reads 2 (key.Train 7) 0 ∷ Deposits second_try true ∷ Applies enrolled enrolled_numbers ∷ []

-- and then the second is recomputed
abbrev pub then_again : List Event → List Event
then_again events = events ++ Recomputes refused [] ∷ Ends ∷ []

-- all conditions but one for nothing to be recomputed: a note was not read, an input was given up, a read does not give
-- the latest, or it comes too early
abbrev pub MissesAnswers : List Event → Type 0
MissesAnswers events = ¬ (AreAnswered events) × NoneIsVoided events × AreLatest start events × AreAfterDeposits events

abbrev pub MissesAttempts : List Event → Type 0
MissesAttempts events = AreAnswered events × ¬ (NoneIsVoided events) × AreLatest start events × AreAfterDeposits events

abbrev pub MissesLatest : List Event → Type 0
MissesLatest events = AreAnswered events × NoneIsVoided events × ¬ (AreLatest start events) × AreAfterDeposits events

abbrev pub MissesDeposits : List Event → Type 0
MissesDeposits events = AreAnswered events × NoneIsVoided events × AreLatest start events × ¬ (AreAfterDeposits events)

-- before the run a version of the stops was published under number 4
abbrev pub stops_at_4 : Key → ℕ
stops_at_4 k = if same_key k key.Stops then 4 else 0

abbrev pub started_with_4 : State
started_with_4 = opening two_inputs stops_at_4

-- so the attempt at the first is not fresh, and what it writes is published anew, after train 7 was read for the second as the attempt wrote it
abbrev pub again_numbers : List (Key × NumberedRec)
again_numbers = (key.Roster, under 5 engines) ∷ (key.Train 7, under 6 train_7) ∷ (key.Unplaced, under 7 engines) ∷ []

abbrev pub second_misled : List Event
second_misled =
    publishing ++ Takes (Some 1) ∷ Takes (Some 2) ∷ Deposits first_try true ∷ Reads 2 (key.Train 7) 2 ∷ Deposits forwarded_try true ∷ Recomputes enrolled again_numbers ∷ []

-- between the two inputs comes another, which enrols train 8
abbrev pub three_inputs : Run
three_inputs = record two_inputs { inputs = input.Enrol 7 2000 ∷ input.Enrol 8 2000 ∷ input.Bad 1 ∷ [] }

abbrev pub start_of_three : State
start_of_three = opening three_inputs no_numbers

-- the engines are read for the third as the attempt at the first writes them; the first is committed by it, and the second, which was given
-- up, writes the engines anew
abbrev pub third_try : Try
third_try = record second_try { number = 3; notes = (key.Roster, under 1 engines) ∷ [] }

abbrev pub both_engines : List (Key × NumberedRec)
both_engines = (key.Roster, under 4 (rec.Engines (7 ∷ 8 ∷ []))) ∷ (key.Train 8, under 5 (rec.Train (new_train 8 2000 0))) ∷ (key.Unplaced, under 6 (rec.Engines (7 ∷ 8 ∷ []))) ∷ []

abbrev pub third_read : List Event
third_read = publishing ++ Takes (Some 1) ∷ Takes (Some 2) ∷ Takes (Some 3) ∷ Deposits first_try true ∷ []

abbrev pub third_misled : List Event
third_misled =
    third_read ++ Reads 3 key.Roster 1 ∷ Deposits third_try true ∷ Applies enrolled enrolled_numbers ∷ Voids 2 true ∷ Recomputes (record enrolled { writes = records_of both_engines }) both_engines ∷ []

-- ---- states

-- an attempt at the first input, of whose three numbers the last is not the present one
abbrev pub stale_try : Try
stale_try = record first_try { notes = (key.Roster, absent) ∷ (key.Stops, absent) ∷ (key.Train 7, under 2 train_7) ∷ [] }

abbrev pub one_stale : State
one_stale = record start { stages = Tried stale_try ∷ Free ∷ []; taken = 1 }

-- the same record stands there, but it was published once more, under another number
abbrev pub published_again : State
published_again = record one_stale {
  desk = standing (record { records = (key.Train 7, train_7) ∷ []; results = []; outboxes = [] });
  present = λ k. if same_key k (key.Train 7) then 4 else 0;
}

-- the first input is out, and there is an attempt at the second, which would be fresh
abbrev pub second_first : State
second_first = record start { stages = Out ∷ Tried second_try ∷ []; taken = 2 }

-- ---- what one event leaves

-- there are attempts at both inputs
abbrev pub both_tried : State
both_tried = record start { stages = Tried first_try ∷ Tried second_try ∷ []; taken = 2 }

-- the desk with train 7 enrolled, and the numbers of its records
abbrev pub enrolled_desk : Held
enrolled_desk = record { records = (key.Roster, engines) ∷ (key.Train 7, train_7) ∷ (key.Unplaced, engines) ∷ []; results = Done 0 ∷ []; outboxes = [] }

abbrev pub three_numbers : Key → ℕ
three_numbers k = if same_key k key.Roster then 1 else if same_key k (key.Train 7) then 2 else if same_key k key.Unplaced then 3 else 0

-- the first is committed by its attempt
abbrev pub first_committed : State
first_committed = record both_tried { desk = standing enrolled_desk; present = three_numbers; stages = Free ∷ Tried second_try ∷ []; committed = 1 }

-- memory was refused as the first was to be committed
abbrev pub first_lost : State
first_lost = record both_tried { stages = Void ∷ Tried second_try ∷ []; closed = true }

-- and then the second was given up
abbrev pub none_tried : State
none_tried = record first_lost { stages = Void ∷ Void ∷ [] }

-- the attempt at the second, which does not stand any more, enrols the train too
abbrev pub second_enrols : State
second_enrols = record first_committed { stages = Free ∷ Tried (record second_try { outcome = enrolled; writes = enrolled_numbers }) ∷ [] }

-- ---- states that no event leaves there

-- the second attempt is gone, or is another one
abbrev pub second_gone : State
second_gone = record first_committed { stages = Free ∷ Out ∷ [] }

abbrev pub second_changed : State
second_changed = record first_committed { stages = Free ∷ Tried unread_try ∷ [] }

-- the engines are there, with their numbers, and no input is committed
abbrev pub engines_there : State
engines_there = record both_tried { desk = standing enrolled_desk; present = three_numbers }

-- the stops are there too, which no write names
abbrev pub stops_there : State
stops_there = record first_committed { desk = standing (record enrolled_desk { records = (key.Stops, rec.Stops none_numbered) ∷ enrolled_desk.records }) }

-- or they have a number
abbrev pub stops_numbered : State
stops_numbered = record first_committed { present = λ k. if same_key k key.Stops then 4 else three_numbers k }
