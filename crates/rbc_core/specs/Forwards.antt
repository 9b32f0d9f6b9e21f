-- When nothing is recomputed: reads that give the latest of what is written before an input (own rule).
use Rattle.std.specs.Prelude.{◌≡◌, ◌⊎◌, ℕ, ◌+◌, ◌<◌, ◌≤◌, true, List, ◌∷◌, ◌++◌, Some, None}
use Rattle.rbc_records.specs.declared.record.Key.{Key}
use Rattle.rbc_versions.specs.Entries.{NumberedRec, number_for}
use Rattle.rbc_rule.specs.declared.outcome.Outcome.{Outcome}
use Rattle.rbc_core.specs.declared.stage.Stage.TheVariants.{Tried}
use Rattle.rbc_core.specs.Runs.{Run}
use Rattle.rbc_core.specs.Core.{Try, State, opening, IsAt}
use Rattle.rbc_core.specs.Events.{Event, Follow}
use Rattle.rbc_core.specs.Events.Event.{Reads, Deposits, Voids, Recomputes}
use Rattle.rbc_core.specs.Conflicts.{after, AreAnswered}

-- no kept attempt at an uncommitted input, from one number on and below another, writes the key
abbrev pub NoneWrites : State → ℕ → ℕ → Key → Type 0
NoneWrites s first number k = (other : ℕ) (a : Try) → first ≤ other → other < number → IsAt s other (Tried a) → number_for a.writes k ≡ None

-- the number under a key as an input is to see it: the one that the latest earlier attempt puts there, among those that
-- are kept, not committed and write the key; or the present number if there is no such attempt
abbrev pub IsLatest : State → ℕ → Key → ℕ → Type 0
IsLatest s number k answer =
    ((earlier : ℕ) × (a : Try) × (earlier < number) × IsAt s earlier (Tried a) × (number_for a.writes k ≡ Some answer) × NoneWrites s (earlier + 1) number k)
    ⊎ (NoneWrites s 0 number k × (answer ≡ s.present k))

-- each read gives the latest
abbrev pub AreLatest : State → List Event → Type 0
AreLatest s events = (before behind : List Event) (number : ℕ) (k : Key) (answer : ℕ) → events ≡ before ++ Reads number k answer ∷ behind → IsLatest (after s before) number k answer

-- before these events an attempt at the input of this number was kept
abbrev pub WasKept : List Event → ℕ → Type 0
WasKept events number = (first : List Event) × (a : Try) × (second : List Event) × (events ≡ first ++ Deposits a true ∷ second) × (a.number ≡ number)

-- each read for an input comes after attempts at all inputs before it were kept
abbrev pub AreAfterDeposits : List Event → Type 0
AreAfterDeposits events =
    (before behind : List Event) (number : ℕ) (k : Key) (answer : ℕ) → events ≡ before ++ Reads number k answer ∷ behind
    → (earlier : ℕ) → 1 ≤ earlier → earlier < number → WasKept before earlier

-- no input is given up
abbrev pub NoneIsVoided : List Event → Type 0
NoneIsVoided events = (before behind : List Event) (number : ℕ) → events ≡ before ++ Voids number true ∷ behind → ⊥

-- what was noted was read, no input is given up, and each read gives the latest and comes after attempts at all inputs before
abbrev pub IsForwarding : State → List Event → Type 0
IsForwarding s events = AreAnswered events × NoneIsVoided events × AreLatest s events × AreAfterDeposits events

-- then no input is recomputed
abbrev pub NoneIsComputedAgain : Type 0
NoneIsComputedAgain =
    (run : Run) (numbers : Key → ℕ) (events more : List Event) (outcome : Outcome) (writes : List (Key × NumberedRec))
    → Follow run (opening run numbers) (events ++ Recomputes outcome writes ∷ more) → IsForwarding (opening run numbers) events → ⊥
