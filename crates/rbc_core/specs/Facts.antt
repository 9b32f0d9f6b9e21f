-- What one event leaves (own rule).
use Rattle.std.specs.Prelude.{◌≡◌, ◌⊎◌, ℕ, true, false, IsTrue}
use Rattle.rbc_records.specs.declared.record.Key.{Key}
use Rattle.rbc_core.specs.declared.stage.Stage.TheVariants.{Tried}
use Rattle.rbc_core.specs.Runs.{Run}
use Rattle.rbc_core.specs.Core.{Try, State, IsAt, front}
use Rattle.rbc_core.specs.Events.{Event, May, next}
use Rattle.rbc_core.specs.Events.Event.{Publishes, Takes, Reads, Deposits, Voids, Applies, Recomputes, Waits, Ends, Fails}
use Rattle.rbc_core.specs.Conflicts.{names, writes_by}

-- the event commits an input whose writes name the key
abbrev pub WritesTo : Event → Key → Type 0
WritesTo (Publishes number version) k = ⊥
WritesTo (Applies outcome writes) k = IsTrue (names outcome.writes k)
WritesTo (Recomputes outcome writes) k = IsTrue (names outcome.writes k)
WritesTo (Takes answer) k = ⊥
WritesTo (Reads number key answer) k = ⊥
WritesTo (Deposits a kept) k = ⊥
WritesTo (Voids number done) k = ⊥
WritesTo Waits k = ⊥
WritesTo Ends k = ⊥
WritesTo (Fails keeps) k = ⊥

-- each attempt stays, unless its input, the next one, is committed, or the attempt at the next input is lost as the book is closed
abbrev pub KeepsAttempts : State → State → Type 0
KeepsAttempts s t =
    (number : ℕ) (a : Try) → IsAt s number (Tried a)
    → IsAt t number (Tried a) ⊎ ((number ≡ front s) × ((t.committed ≡ number) ⊎ ((s.closed ≡ false) × (t.closed ≡ true))))

-- what stands under a key changes only if an input is committed whose writes name the key
abbrev pub KeepsRecords : State → Event → State → Type 0
KeepsRecords s event t = (k : Key) → (t.desk.records k ≡ s.desk.records k) ⊎ WritesTo event k

-- the number of what stands under a key changes only if an input is committed whose numbers name the key
abbrev pub KeepsNumbers : State → Event → State → Type 0
KeepsNumbers s event t = (k : Key) → (t.present k ≡ s.present k) ⊎ IsTrue (names (writes_by event) k)

-- a book that is closed stays closed
abbrev pub KeepsClosed : State → State → Type 0
KeepsClosed s t = s.closed ≡ true → t.closed ≡ true

-- each event that may come keeps these, one by one
abbrev pub AttemptsStay : Type 0
AttemptsStay = (run : Run) (s : State) (event : Event) → May run s event → KeepsAttempts s (next s event)

abbrev pub RecordsStay : Type 0
RecordsStay = (run : Run) (s : State) (event : Event) → May run s event → KeepsRecords s event (next s event)

abbrev pub ClosedStays : Type 0
ClosedStays = (run : Run) (s : State) (event : Event) → May run s event → KeepsClosed s (next s event)

abbrev pub NumbersStay : Type 0
NumbersStay = (run : Run) (s : State) (event : Event) → May run s event → KeepsNumbers s event (next s event)
