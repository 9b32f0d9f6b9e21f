-- What can happen to a book, one event after another (own rule).
use Rattle.std.specs.Prelude.{◌≡◌, ◌⊎◌, ℕ, zero, suc, ◌+◌, ◌<◌, Bool, true, false, List, [], ◌∷◌, length, Option, Some, None}
use Rattle.std.specs.List.{fold, All}
use Rattle.std.specs.Option.{option_map}
use Rattle.rbc_records.specs.declared.record.Key.{Key}
use Rattle.rbc_records.specs.declared.record.Rec.{Rec}
use Rattle.rbc_versions.specs.declared.log.Version.{Version}
use Rattle.rbc_versions.specs.Entries.{NumberedRec, AreCurrent, AreOfWrites, number_for, numbers_after}
use Rattle.rbc_rule.specs.declared.input.Input.{Input}
use Rattle.rbc_rule.specs.declared.outcome.Outcome.{Outcome}
use Rattle.rbc_desk.specs.Held.{standing, after_outcome, IsOutcomeOf}
use Rattle.rbc_core.specs.declared.stage.Stage.TheVariants.{Free, Out, Tried, Void}
use Rattle.rbc_core.specs.declared.book.Commit.{Commit}
use Rattle.rbc_core.specs.declared.book.Commit.TheVariants.{Applied, Recomputed, NotReady, Done, Failed}
use Rattle.rbc_core.specs.Runs.{Run, IsInput, IsGoodRun, IsSerialRun}
use Rattle.rbc_core.specs.Core.{Try, IsRightTry, State, opening, IsAt, front, IsReady, IsStale, with_stage}

-- A version is published under a number. Or a call of a book, with what it answered: a number is taken, or none; the number of what stands
-- under a key, or of what an attempt before puts there, is read for an input; an attempt is kept, or handed back; an input is given up, or not. The next input to be committed has
-- the outcome of its attempt, or is recomputed, and the numbers of what it writes; it is not ready; there is none; or memory is
-- refused, and it keeps its attempt or loses it.
pub data Event : Type 0 where
  Publishes : ℕ → Version → Event
  Takes : Option ℕ → Event
  Reads : ℕ → Key → ℕ → Event
  Deposits : Try → Bool → Event
  Voids : ℕ → Bool → Event
  Applies : Outcome → List (Key × NumberedRec) → Event
  Recomputes : Outcome → List (Key × NumberedRec) → Event
  Waits : Event
  Ends : Event
  Fails : Bool → Event

-- the number is what a kept attempt at an earlier input, which is not committed, puts under the key
abbrev pub IsForwarded : State → ℕ → Key → ℕ → Type 0
IsForwarded s number k answer = (earlier : ℕ) × (a : Try) × (earlier < number) × IsAt s earlier (Tried a) × (number_for a.writes k ≡ Some answer)

-- the event may come: to take an attempt over, only numbers are compared
abbrev pub May : Run → State → Event → Type 0
May run s (Publishes number version) = Unit
May run s (Takes None) = (s.taken ≡ length run.inputs) ⊎ (s.closed ≡ true)
May run s (Takes (Some number)) = (s.closed ≡ false) × (s.taken < length run.inputs) × (number ≡ s.taken + 1)
May run s (Reads number key answer) = (answer ≡ s.present key) ⊎ IsForwarded s number key answer
May run s (Deposits a true) = IsRightTry run a × IsAt s a.number Out
May run s (Deposits a false) = IsRightTry run a × ¬ (IsAt s a.number Out)
May run s (Voids number true) = IsAt s number Out
May run s (Voids number false) = ¬ (IsAt s number Out)
May run s (Applies outcome writes) =
    (s.closed ≡ false) × ((a : Try) × IsAt s (front s) (Tried a) × AreCurrent a.notes s.present × (outcome ≡ a.outcome) × (writes ≡ a.writes))
May run s (Recomputes outcome writes) =
    (s.closed ≡ false) × IsStale s × ((input : Input) × IsInput run (front s) input × IsOutcomeOf run.track input s.desk.records outcome) × AreOfWrites writes outcome.writes
May run s Waits = (s.closed ≡ false) × (s.committed < length run.inputs) × ¬ (IsReady s)
May run s Ends = s.committed ≡ length run.inputs
May run s (Fails true) = (s.committed < length run.inputs) × ((s.closed ≡ true) ⊎ IsReady s)
May run s (Fails false) = (s.closed ≡ false) × IsReady s

-- the next input is committed: what it does is taken over, and the numbers of what it writes become the present ones
abbrev pub after_commit : State → Outcome → List (Key × NumberedRec) → State
after_commit s outcome writes =
    record s { desk = after_outcome s.desk outcome; present = λ k. numbers_after writes s.present k; stages = with_stage s (front s) Free; committed = s.committed + 1 }

-- the state after the event
abbrev pub next : State → Event → State
next s (Publishes number version) = s
next s (Takes None) = s
next s (Takes (Some number)) = record s { stages = with_stage s number Out; taken = s.taken + 1 }
next s (Reads number key answer) = s
next s (Deposits a true) = record s { stages = with_stage s a.number (Tried a) }
next s (Deposits a false) = s
next s (Voids number true) = record s { stages = with_stage s number Void }
next s (Voids number false) = s
next s (Applies outcome writes) = after_commit s outcome writes
next s (Recomputes outcome writes) = let t = after_commit s outcome writes in record t { recomputed = s.recomputed + 1 }
next s Waits = s
next s Ends = s
next s (Fails true) = record s { closed = true }
next s (Fails false) = record s { closed = true; stages = with_stage s (front s) Void }

-- one event: it may come, and leads to this state
pub record Happens (run : Run) (s : State) (event : Event) (t : State) : Type 0 where
  pub may : May run s event
  pub leads : t ≡ next s event

-- which event a call of `commit` is, by its answer
abbrev pub Commits : Run → State → Commit → State → Type 0
Commits run s Applied t = (outcome : Outcome) × (writes : List (Key × NumberedRec)) × Happens run s (Applies outcome writes) t
Commits run s Recomputed t = (outcome : Outcome) × (writes : List (Key × NumberedRec)) × Happens run s (Recomputes outcome writes) t
Commits run s NotReady t = Happens run s Waits t
Commits run s Done t = Happens run s Ends t
Commits run s Failed t = (keeps : Bool) × Happens run s (Fails keeps) t

-- each event may come when it comes
abbrev pub Follow : Run → State → List Event → Type 0
Follow run s [] = Unit
Follow run s (event ∷ events) = May run s event × Follow run (next s event) events

-- ---- what numbers mean

-- the version that was published under each number, if one was: it is published once, and stays
abbrev pub Meaning : Type 0
Meaning = ℕ → Option Version

-- the record that a number means: none for 0
abbrev pub record_at : Meaning → ℕ → Option Rec
record_at means zero = None
record_at means (suc n) = option_map (λ version. version.rec) (means (suc n))

-- each number means the record that stands with it
abbrev pub AreMeant : Meaning → List (Key × NumberedRec) → Type 0
AreMeant means entries = All (λ entry. record_at means entry.1.number ≡ entry.1.rec) entries

-- what an event says about numbers is what they mean
abbrev pub IsMeant : Meaning → Event → Type 0
IsMeant means (Publishes number version) = (0 < number) × (means number ≡ Some version)
IsMeant means (Takes answer) = Unit
IsMeant means (Reads number key answer) = Unit
IsMeant means (Deposits a kept) = AreMeant means a.notes × AreMeant means a.writes
IsMeant means (Voids number done) = Unit
IsMeant means (Applies outcome writes) = Unit
IsMeant means (Recomputes outcome writes) = AreMeant means writes
IsMeant means Waits = Unit
IsMeant means Ends = Unit
IsMeant means (Fails keeps) = Unit

-- the numbers of an opening mean its records
abbrev pub IsOpeningIn : Meaning → Run → (Key → ℕ) → Type 0
IsOpeningIn means run numbers = (k : Key) → record_at means (numbers k) ≡ (standing run.opening).records k

-- After any events, in any order, what is held is the desk of the rules applied to the committed inputs, one after
-- another. This holds although an attempt is taken over by its numbers alone, because a number means one record for
-- good.
abbrev pub EventsAreSerial : Type 0
EventsAreSerial = (run : Run) (means : Meaning) (numbers : Key → ℕ) (events : List Event) → IsGoodRun run → IsOpeningIn means run numbers → All (IsMeant means) events
    → Follow run (opening run numbers) events
    → let s = fold next (opening run numbers) events in IsSerialRun run s.committed s.desk
