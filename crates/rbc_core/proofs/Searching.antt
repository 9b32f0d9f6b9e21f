-- The search for the latest attempt that writes a key.
use Rattle.std.proofs.Common.{◌≡◌, ◌⊎◌, ℕ, ◌+◌, ◌-◌, ◌<◌, ◌≤◌, List, Some, None, inl, inr, refl, sym, ap, ◌∙◌, arith}
use Rattle.std.specs.Prelude.{slice_get}
use Rattle.std.proofs.lemmas.Bool.{cases_lt}
use Rattle.rbc_records.specs.declared.record.Key.{Key}
use Rattle.rbc_versions.specs.Entries.{number_for}
use Rattle.rbc_core.specs.declared.stage.Stage.{Stage}
use Rattle.rbc_core.specs.declared.stage.Stage.TheVariants.{Free, Out, Tried, Void}
use Rattle.rbc_core.specs.Runs.{Run}
use Rattle.rbc_core.specs.Core.{Try, State, IsAt}
use Rattle.rbc_core.specs.Books.{IsKept}
use Rattle.rbc_core.specs.Events.{Happens}
use Rattle.rbc_core.specs.Events.Event.{Reads}
use Rattle.rbc_core.specs.Forwards.{IsLatest}
use Rattle.rbc_core.specs.Searches.{number_put, NoneWritesIn, IsLatestIn}
use Rattle.rbc_core.proofs.Books.{at_index}

-- ---- the search among stages, from the last one down

pub none_at_last : (stages : List (Stage Try)) (last : ℕ) (k : Key) → NoneWritesIn stages last last k
none_at_last stages last k i g low high got = absurd (omega (arith, low, high))

pub none_below : (stages : List (Stage Try)) (at first last : ℕ) (k : Key) → at ≤ first → NoneWritesIn stages at last k → NoneWritesIn stages first last k
none_below stages at first last k past none i g low high got = none i g (omega (arith, past, low)) high got

same_index : (stages : List (Stage Try)) (i j : ℕ) (g h : Stage Try) → i ≡ j → slice_get stages i ≡ Some g → slice_get stages j ≡ Some h → g ≡ h
same_index stages i j g h same x y = let both : Some g ≡ Some h = sym x ∙ (ap (slice_get stages) same ∙ y) in cc both

pub none_more : (stages : List (Stage Try)) (at last : ℕ) (k : Key) (g : Stage Try) → 0 < at → slice_get stages (at - 1) ≡ Some g → number_put g k ≡ None → NoneWritesIn stages at last k → NoneWritesIn stages (at - 1) last k
none_more stages at last k g above here put none i h low high got = by (cases_lt i at)
  where
    by : (i < at) ⊎ (at ≤ i) → number_put h k ≡ None
    by (inl below) = ap (λ (x : Stage Try). number_put x k) (same_index stages i (at - 1) h g (omega (arith, low, below)) got here) ∙ put
    by (inr up) = none i h up high got

pub latest_here : (stages : List (Stage Try)) (committed at last : ℕ) (k : Key) (g : Stage Try) (number : ℕ) → committed < at → at ≤ last → slice_get stages (at - 1) ≡ Some g → number_put g k ≡ Some number
    → NoneWritesIn stages at last k → IsLatestIn stages committed last k number
latest_here stages committed at last k g number above within here put none =
    (at - 1, g, omega (arith, above), omega (arith, above, within), here, put, none_below stages at (at - 1 + 1) last k (omega (arith, above)) none)

-- ---- the latest number before an input

put_is_tried : (g : Stage Try) (k : Key) (number : ℕ) → number_put g k ≡ Some number → (a : Try) × (g ≡ Tried a) × (number_for a.writes k ≡ Some number)
put_is_tried Free k number h = absurd (cc h)
put_is_tried Out k number h = absurd (cc h)
put_is_tried (Tried a) k number h = (a, refl, h)
put_is_tried Void k number h = absurd (cc h)

module _ (run : Run) (s : State) (kept : IsKept run s) (number last : ℕ) (k : Key) (before : last ≤ number - 1) (all : (n : ℕ) → last < n → n < number → n ≤ s.taken → ⊥) where
  none_before : (first : ℕ) → NoneWritesIn s.stages first last k → (other : ℕ) (a : Try) → first < other → other < number → IsAt s other (Tried a) → number_for a.writes k ≡ None
  none_before first none other a low high at = by (cases_lt last other)
    where
      by : (last < other) ⊎ (other ≤ last) → number_for a.writes k ≡ None
      by (inl above) = absurd (all other above high at.taken)
      by (inr up) = none (other - 1) (Tried a) (omega (arith, low)) (omega (arith, low, up)) at.at

  pub latest_found : (answer : ℕ) → IsLatestIn s.stages s.committed last k answer → IsLatest s number k answer
  latest_found answer (i, g, low, high, got, put, none) =
      let tried = put_is_tried g k answer put in
      let a : Try = tried.0 in
      let here : slice_get s.stages i ≡ Some (Tried a) = got ∙ ap Some tried.1 in
      let turn = kept.stages i (Tried a) here in
      inl (i + 1, a, omega (arith, high, before), at_index s i (i + 1) (Tried a) refl low turn.1 here, tried.2, λ other b first below at. none_before (i + 1) none other b (omega (arith, first)) below at)

  pub latest_present : (answer : ℕ) → NoneWritesIn s.stages s.committed last k → answer ≡ s.present k → IsLatest s number k answer
  latest_present answer none is = inr (λ other b first below at. none_before s.committed none other b at.uncommitted below at, is)

-- the latest number is one that a read may give
pub latest_happens : (run : Run) (s : State) (number : ℕ) (k : Key) (answer : ℕ) → IsLatest s number k answer → Happens run s (Reads number k answer) s
latest_happens run s number k answer (inl (earlier, a, before, at, wrote, none)) = record { may = inr (earlier, a, before, at, wrote); leads = refl }
latest_happens run s number k answer (inr (none, present)) = record { may = inl present; leads = refl }
