-- Why an input is recomputed (own rule).
use Rattle.std.specs.Prelude.{◌≡◌, ◌⊎◌, ℕ, ◌<◌, Bool, true, List, [], ◌∷◌, ◌++◌, Some, Contains, IsTrue}
use Rattle.std.specs.List.{fold, list_any}
use Rattle.rbc_records.specs.declared.record.Key.{Key}
use Rattle.rbc_records.specs.Notes.{same_key}
use Rattle.rbc_versions.specs.Entries.{NumberedRec, number_for}
use Rattle.rbc_rule.specs.declared.outcome.Outcome.{Outcome}
use Rattle.rbc_core.specs.declared.stage.Stage.TheVariants.{Tried}
use Rattle.rbc_core.specs.Runs.{Run}
use Rattle.rbc_core.specs.Core.{Try, State, opening, IsAt, front}
use Rattle.rbc_core.specs.Events.{Event, next, Follow}
use Rattle.rbc_core.specs.Events.Event.{Publishes, Takes, Reads, Deposits, Voids, Applies, Recomputes, Waits, Ends, Fails}

-- the state after events
abbrev pub after : State → List Event → State
after s events = fold next s events

-- an entry has the key
abbrev pub names : {V : Type 0} → List (Key × V) → Key → Bool
names entries k = list_any (λ entry. same_key k entry.0) entries

-- what an event writes: only a commit does
abbrev pub writes_by : Event → List (Key × NumberedRec)
writes_by (Publishes number version) = []
writes_by (Takes answer) = []
writes_by (Reads number key answer) = []
writes_by (Deposits a kept) = []
writes_by (Voids number done) = []
writes_by (Applies outcome writes) = writes
writes_by (Recomputes outcome writes) = writes
writes_by Waits = []
writes_by Ends = []
writes_by (Fails keeps) = []

-- among these events, from the state s on, the input of this number is committed, and writes the key
abbrev pub Writes : State → List Event → ℕ → Key → Type 0
Writes s events number k =
    (before : List Event) × (event : Event) × (behind : List Event)
    × (events ≡ before ++ event ∷ behind) × (front (after s before) ≡ number) × IsTrue (names (writes_by event) k)

-- before its deposit, a note of an attempt was read for its input under its key, and its number was the answer: the
-- events before the read, and those after it
abbrev pub IsReadOf : List Event → Try → Key × NumberedRec → (List Event → List Event → Type 0) → Type 0
IsReadOf events a note P =
    (before : List Event) × (between : List Event) × (behind : List Event)
    × (events ≡ before ++ Reads a.number note.0 note.1.number ∷ (between ++ Deposits a true ∷ behind)) × P before (between ++ Deposits a true ∷ behind)

-- each note of each attempt that was kept was answered by an earlier read
abbrev pub AreAnswered : List Event → Type 0
AreAnswered events =
    (before behind : List Event) (a : Try) → events ≡ before ++ Deposits a true ∷ behind → (note : Key × NumberedRec) → Contains a.notes note
    → (first : List Event) × (second : List Event) × (before ≡ first ++ Reads a.number note.0 note.1.number ∷ second)

-- the input of this number was given up
abbrev pub WasVoided : List Event → ℕ → Type 0
WasVoided events number = (before : List Event) × (behind : List Event) × (events ≡ before ++ Voids number true ∷ behind)

-- a note was overtaken: its number was the present one when it was read, and since then an earlier input was committed that wrote its key
abbrev pub IsOvertaken : State → List Event → Try → Key × NumberedRec → Type 0
IsOvertaken s events a note =
    IsReadOf events a note (λ before since. ((after s before).present note.0 ≡ note.1.number) × ((number : ℕ) × (number < a.number) × Writes (after s before) since number note.0))

-- among these events, from the state s on, the input of this number is recomputed
abbrev pub IsComputedAgain : State → List Event → ℕ → Type 0
IsComputedAgain s events number =
    (before : List Event) × (outcome : Outcome) × (writes : List (Key × NumberedRec)) × (behind : List Event)
    × (events ≡ before ++ Recomputes outcome writes ∷ behind) × (front (after s before) ≡ number)

-- a note was misled: its number was what an attempt at an earlier input puts under its key, and since then that input was recomputed, or
-- an input between the two was committed that wrote the key
abbrev pub IsMisled : State → List Event → Try → Key × NumberedRec → Type 0
IsMisled s events a note =
    IsReadOf events a note (
    λ before since.
    (earlier : ℕ) × (other : Try) × (earlier < a.number) × IsAt (after s before) earlier (Tried other) × (number_for other.writes note.0 ≡ Some note.1.number)
    × (IsComputedAgain (after s before) since earlier ⊎ ((number : ℕ) × (earlier < number) × (number < a.number) × Writes (after s before) since number note.0))
    )

-- why the next input is recomputed: it was given up, or a note of its attempt was overtaken or misled
abbrev pub IsExplained : State → List Event → Type 0
IsExplained s events =
    WasVoided events (front (after s events))
    ⊎ (
    (a : Try) × IsAt (after s events) (front (after s events)) (Tried a)
    × ((note : Key × NumberedRec) × Contains a.notes note × (IsOvertaken s events a note ⊎ IsMisled s events a note))
    )

-- if what was noted was read, an input is recomputed only for one of these reasons
abbrev pub EachIsExplained : Type 0
EachIsExplained =
    (run : Run) (numbers : Key → ℕ) (events more : List Event) (outcome : Outcome) (writes : List (Key × NumberedRec))
    → Follow run (opening run numbers) (events ++ Recomputes outcome writes ∷ more) → AreAnswered events → IsExplained (opening run numbers) events
