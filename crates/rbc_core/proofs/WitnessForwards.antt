-- What holds of worked events in which a read gives what is not committed, or does not.
use Rattle.std.proofs.Common.{◌≡◌, ◌⊎◌, ℕ, ◌+◌, ◌-◌, ◌<◌, ◌≤◌, true, false, List, [], ◌∷◌, ◌++◌, Some, None, inl, inr, refl, sym, ap, ◌∙◌, subst, append_assoc, arith}
use Rattle.std.specs.Prelude.{slice_get}
use Rattle.rbc_records.specs.declared.record.Key.{Key}
use Rattle.rbc_records.specs.declared.record.Key.TheVariants as key
use Rattle.rbc_versions.specs.Entries.{NumberedRec, number_for}
use Rattle.rbc_core.specs.declared.stage.Stage.{Stage}
use Rattle.rbc_core.specs.declared.stage.Stage.TheVariants.{Out, Tried}
use Rattle.rbc_core.specs.Core.{Try, State, IsAt}
use Rattle.rbc_core.specs.Events.{Event}
use Rattle.rbc_core.specs.Events.Event.{Publishes, Takes, Reads, Deposits, Voids, Applies, Recomputes, Waits, Ends, Fails}
use Rattle.rbc_core.specs.Conflicts.{after, Writes, IsComputedAgain, IsMisled}
use Rattle.rbc_core.specs.Forwards.{IsLatest, AreLatest, WasKept, AreAfterDeposits, NoneIsVoided}
use Rattle.rbc_core.specs.Witnesses.{start, first_try}
use Rattle.rbc_core.proofs.Books.{same_item}
use Rattle.rbc_core.proofs.WitnessConflicts.{Each, each_at}

-- ---- each event, with those before it

abbrev pub IsNoVoid : List Event → Event → Type 0
IsNoVoid before (Publishes number version) = Unit
IsNoVoid before (Takes answer) = Unit
IsNoVoid before (Reads number key answer) = Unit
IsNoVoid before (Deposits a kept) = Unit
IsNoVoid before (Voids number true) = ⊥
IsNoVoid before (Voids number false) = Unit
IsNoVoid before (Applies outcome writes) = Unit
IsNoVoid before (Recomputes outcome writes) = Unit
IsNoVoid before Waits = Unit
IsNoVoid before Ends = Unit
IsNoVoid before (Fails keeps) = Unit

pub none_voided : (events : List Event) → Each IsNoVoid [] events → NoneIsVoided events
none_voided events each before behind number is = each_at IsNoVoid [] events each before (Voids number true) behind is

abbrev pub GivesLatest : List Event → Event → Type 0
GivesLatest before (Publishes number version) = Unit
GivesLatest before (Takes answer) = Unit
GivesLatest before (Reads number key answer) = IsLatest (after start before) number key answer
GivesLatest before (Deposits a kept) = Unit
GivesLatest before (Voids number done) = Unit
GivesLatest before (Applies outcome writes) = Unit
GivesLatest before (Recomputes outcome writes) = Unit
GivesLatest before Waits = Unit
GivesLatest before Ends = Unit
GivesLatest before (Fails keeps) = Unit

pub are_latest : (events : List Event) → Each GivesLatest [] events → AreLatest start events
are_latest events each before behind number k answer is = each_at GivesLatest [] events each before (Reads number k answer) behind is

abbrev pub AllKept : List Event → ℕ → Type 0
AllKept before number = (earlier : ℕ) → 1 ≤ earlier → earlier < number → WasKept before earlier

abbrev pub ComesAfter : List Event → Event → Type 0
ComesAfter before (Publishes number version) = Unit
ComesAfter before (Takes answer) = Unit
ComesAfter before (Reads number key answer) = AllKept before number
ComesAfter before (Deposits a kept) = Unit
ComesAfter before (Voids number done) = Unit
ComesAfter before (Applies outcome writes) = Unit
ComesAfter before (Recomputes outcome writes) = Unit
ComesAfter before Waits = Unit
ComesAfter before Ends = Unit
ComesAfter before (Fails keeps) = Unit

pub are_after : (events : List Event) → Each ComesAfter [] events → AreAfterDeposits events
are_after events each before behind number k answer is = each_at ComesAfter [] events each before (Reads number k answer) behind is

abbrev pub KeepsNone : List Event → Event → Type 0
KeepsNone before (Publishes number version) = Unit
KeepsNone before (Takes answer) = Unit
KeepsNone before (Reads number key answer) = Unit
KeepsNone before (Deposits a true) = ⊥
KeepsNone before (Deposits a false) = Unit
KeepsNone before (Voids number done) = Unit
KeepsNone before (Applies outcome writes) = Unit
KeepsNone before (Recomputes outcome writes) = Unit
KeepsNone before Waits = Unit
KeepsNone before Ends = Unit
KeepsNone before (Fails keeps) = Unit

pub none_kept : (events : List Event) (number : ℕ) → Each KeepsNone [] events → WasKept events number → ⊥
none_kept events number each (first, a, second, is, same) = each_at KeepsNone [] events each first (Deposits a true) second is

abbrev pub IsFirst : List Event → Event → Type 0
IsFirst before (Publishes number version) = Unit
IsFirst before (Takes answer) = Unit
IsFirst before (Reads number key answer) = Unit
IsFirst before (Deposits a kept) = Unit
IsFirst before (Voids number done) = Unit
IsFirst before (Applies outcome writes) = Unit
IsFirst before (Recomputes outcome writes) = ⊥
IsFirst before Waits = Unit
IsFirst before Ends = Unit
IsFirst before (Fails keeps) = Unit

-- where no input is recomputed, the second is not misled
pub not_misled : (events : List Event) (a : Try) (note : Key × NumberedRec) → a.number ≡ 2 → Each IsFirst [] events → IsMisled start events a note → ⊥
not_misled events a note second each (before, between, behind, is, (earlier, other, low, at, wrote, why)) = by why
  where
    since : List Event
    since = between ++ Deposits a true ∷ behind

    read : Event
    read = Reads a.number note.0 note.1.number

    by : IsComputedAgain (after start before) since earlier ⊎ ((number : ℕ) × (earlier < number) × (number < a.number) × Writes (after start before) since number note.0) → ⊥
    by (inl (first, outcome, writes, rest, are, turn)) =
        let all : events ≡ (before ++ read ∷ first) ++ Recomputes outcome writes ∷ rest = is ∙ (ap (λ (xs : List Event). before ++ read ∷ xs) are ∙ sym (append_assoc before (read ∷ first) (Recomputes outcome writes ∷ rest))) in
        each_at IsFirst [] events each (before ++ read ∷ first) (Recomputes outcome writes) rest all
    by (inr (number, above, below, written)) = let low = at.uncommitted in absurd (omega (arith, above, below, second, low))

-- ---- reads for the first input, and for the second

pub first_latest : (s : State) (k : Key) → s.present k ≡ 0 → IsLatest s 1 k 0
first_latest s k is = inr (λ other a low high at. (let up : s.committed < other = at.uncommitted in absurd (omega (arith, up, high))), sym is)

pub first_after : (before : List Event) → AllKept before 1
first_after before earlier low high = absurd (omega (arith, low, high))

-- with an attempt at the first input alone, none is between it and the second
pub latest_of_first : (s : State) → IsAt s 1 (Tried first_try) → IsLatest s 2 (key.Train 7) 2
latest_of_first s at = inl (1, first_try, omega arith, at, refl, λ other a low high there. absurd (omega (arith, low, high)))

pub second_after : (before first second : List Event) → before ≡ first ++ Deposits first_try true ∷ second → AllKept before 2
second_after before first second is earlier low high = let one : 1 ≡ earlier = omega (arith, low, high) in (first, first_try, second, is, one)

-- with both inputs out, the present number is the latest
pub latest_of_none : (s : State) (k : Key) → s.stages ≡ Out ∷ Out ∷ [] → s.present k ≡ 0 → IsLatest s 2 k 0
latest_of_none s k stages is = inr (none, sym is)
  where
    none : (other : ℕ) (a : Try) → 0 ≤ other → other < 2 → IsAt s other (Tried a) → number_for a.writes k ≡ None
    none other a low high at =
        let up : s.committed < other = at.uncommitted in
        let first : other - 1 ≡ 0 = omega (arith, high) in
        let here : slice_get (Out ∷ Out ∷ []) 0 ≡ Some (Tried a) = subst (λ n. slice_get (Out ∷ Out ∷ []) n ≡ Some (Tried a)) first (subst (λ (xs : List (Stage Try)). slice_get xs (other - 1) ≡ Some (Tried a)) stages at.at) in
        absurd (cc here)

-- what stood before is not the latest, where the first writes the key
pub not_latest : (s : State) → s.committed ≡ 0 → IsAt s 1 (Tried first_try) → IsLatest s 2 (key.Train 7) 0 → ⊥
not_latest s none there (inl (earlier, a, low, at, wrote, behind)) =
    let up = at.uncommitted in
    let one : earlier ≡ 1 = omega (arith, low, up) in
    let same : Tried a ≡ Tried first_try = same_item s.stages 0 (Tried a) (Tried first_try) (subst (λ n. slice_get s.stages (n - 1) ≡ Some (Tried a)) one at.at) there.at in
    let is : a ≡ first_try = cc same in
    let two : Some 2 ≡ Some 0 = sym (ap (λ (x : Try). number_for x.writes (key.Train 7)) is) ∙ wrote in
    absurd (cc two)
not_latest s none there (inr (others, present)) =
    let nothing : Some 2 ≡ None = others 1 first_try (omega arith) (omega arith) there in
    absurd (cc nothing)
