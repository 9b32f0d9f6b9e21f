-- No attempt writes a key above the key's bound.
use Rattle.std.proofs.Common.{◌≡◌, ◌≢◌, ◌⊎◌, ℕ, zero, suc, ◌+◌, ◌<◌, ◌≤◌, Bool, true, false, cond, List, [], ◌∷◌, length, set, min, Option, Some, None, inl, inr, ⊎_elim, refl, sym, ap, ◌∙◌, subst, arith}
use Rattle.std.specs.Prelude.{slice_get, replicate, IfSome}
use Rattle.std.proofs.lemmas.Bool.{cases_lt}
use Rattle.std.proofs.lemmas.Option.{slice_get_within}
use Rattle.rbc_records.specs.declared.record.Key.{Key}
use Rattle.rbc_records.specs.Notes.{same_key}
use Rattle.rbc_records.proofs.Keys.{same_key_is}
use Rattle.rbc_versions.specs.Log.{Shown}
use Rattle.rbc_versions.specs.Entries.{NumberedRec, numbered, numbered_of, number_for}
use Rattle.rbc_core.specs.declared.stage.Stage.{Stage}
use Rattle.rbc_core.specs.declared.stage.Stage.TheVariants.{Free}
use Rattle.rbc_core.specs.Core.{Try}
use Rattle.rbc_core.specs.Searches.{AreBound, IsLatestIn, NoneWritesIn, bound_of, number_put}
use Rattle.rbc_core.proofs.Books.{slice_get_set, slice_get_replicate}

-- ---- bounds are raised

-- a key under which entries put a number is that of the first entry, or such a key of the others
first_or_other : (P : Key → Type 0) (entry : Key × NumberedRec) (k : Key) (n : ℕ) (found : Option ℕ) → P entry.0 → ((m : ℕ) → found ≡ Some m → P k)
    → elim found as (λ _. Option ℕ) [ Some number ↦ Some number | None ↦ cond (same_key k entry.0) (Some entry.1.number) None ] ≡ Some n → P k
first_or_other P entry k n (Some m) here others put = others m refl
first_or_other P entry k n None here others put = by (same_key k entry.0) refl put
  where
    by : (b : Bool) → same_key k entry.0 ≡ b → cond b (Some entry.1.number) None ≡ Some n → P k
    by true is h = subst P (sym (same_key_is k entry.0 is)) here
    by false is h = absurd (cc h)

-- so what is true of the key of each entry is true of each key under which they put a number
pub true_of_named : (P : Key → Type 0) (entries : List (Key × Option Shown)) → ((i : ℕ) (entry : Key × Option Shown) → i < length entries → slice_get entries i ≡ Some entry → P entry.0)
    → (k : Key) (n : ℕ) → number_for (numbered entries) k ≡ Some n → P k
true_of_named P [] each k n put = absurd (cc put)
true_of_named P (entry ∷ entries) each k n put =
    first_or_other P (entry.0, numbered_of entry.1) k n (number_for (numbered entries) k) (each zero entry (omega arith) refl)
    (λ m is. true_of_named P entries (λ i e within at. each (suc i) e (omega (arith, within)) at) k m is) put

-- the bound of one entry's key more is raised
pub raised_more : (old new : List ℕ) (entries : List (Key × Option Shown)) (i number : ℕ) (key : Key) (ticket : Option Shown) → ((k : Key) → bound_of old k ≤ bound_of new k)
    → ((j : ℕ) (entry : Key × Option Shown) → j < i → slice_get entries j ≡ Some entry → number ≤ bound_of old entry.0) → slice_get entries i ≡ Some (key, ticket) → number ≤ bound_of new key
    → (j : ℕ) (entry : Key × Option Shown) → j < i + 1 → slice_get entries j ≡ Some entry → number ≤ bound_of new entry.0
raised_more old new entries i number key ticket rises before here raised j entry low at = by (cases_lt j i)
  where
    by : (j < i) ⊎ (i ≤ j) → number ≤ bound_of new entry.0
    by (inl below) = let first = before j entry below at in let more = rises entry.0 in omega (arith, first, more)
    by (inr above) =
        let index : j ≡ i = omega (arith, above, low) in
        let both : Some entry ≡ Some (key, ticket) = sym at ∙ (ap (slice_get entries) index ∙ here) in
        let same : entry ≡ (key, ticket) = cc both in
        subst (λ (e : Key × Option Shown). number ≤ bound_of new e.0) (sym same) raised

-- ---- stages and their bounds

none_of : (found : Option ℕ) → ((n : ℕ) → found ≡ Some n → ⊥) → found ≡ None
none_of None never = refl
none_of (Some n) never = absurd (never n refl)

-- One stage changes, and no bound falls. If the new stage writes a key, the key's bound is at least the number of the input.
pub bound_set : (old new : List ℕ) (stages xs : List (Stage Try)) (index : ℕ) (x : Stage Try) → AreBound old stages → ((k : Key) → bound_of old k ≤ bound_of new k)
    → ((k : Key) (n : ℕ) → number_put x k ≡ Some n → index < bound_of new k) → xs ≡ set stages index x → AreBound new xs
bound_set old new stages xs index x are rises raised put k i g low high got =
    ⊎_elim
    (λ (q : (i ≡ index) × (x ≡ g)).
    ap (λ (y : Stage Try). number_put y k) (sym q.1) ∙ none_of (number_put x k) (λ n is. let above = raised k n is in let same = q.0 in absurd (omega (arith, above, same, low))))
    (λ (q : (i ≢ index) × (slice_get stages i ≡ Some g)).
    let more = rises k in
    are k i g (omega (arith, more, low)) (slice_get_within stages i g q.1) q.1)
    (slice_get_set stages index i x g (sym (ap (λ (l : List (Stage Try)). slice_get l i) put) ∙ got))

-- the same where the new stage writes nothing
pub bound_still : (bounds : List ℕ) (stages xs : List (Stage Try)) (index : ℕ) (x : Stage Try) → AreBound bounds stages → ((k : Key) → number_put x k ≡ None) → xs ≡ set stages index x → AreBound bounds xs
bound_still bounds stages xs index x are nothing put =
    bound_set bounds bounds stages xs index x are (λ k. omega arith) (λ k n is. let none = nothing k in absurd (cc (none, is))) put

-- no stage of a book that was just opened writes anything
pub bound_free : (bounds : List ℕ) (stages : List (Stage Try)) (count : ℕ) → stages ≡ replicate count Free → AreBound bounds stages
bound_free bounds stages count free k i g low high got =
    ap (λ (y : Stage Try). number_put y k) (slice_get_replicate count i Free g (sym (ap (λ (l : List (Stage Try)). slice_get l i) free) ∙ got))

-- ---- the search below a bound

-- what none writes below the bound, none writes below the last one
pub none_to_last : (bounds : List ℕ) (stages : List (Stage Try)) (first highest last : ℕ) (k : Key) → AreBound bounds stages → last ≤ length stages → highest ≡ min (bound_of bounds k) last
    → NoneWritesIn stages first highest k → NoneWritesIn stages first last k
none_to_last bounds stages first highest last k are within is none i g low high got = by (cases_lt i highest)
  where
    by : (i < highest) ⊎ (highest ≤ i) → number_put g k ≡ None
    by (inl below) = none i g low below got
    by (inr above) = are k i g (omega (arith, is, above, high)) (omega (arith, high, within)) got

pub latest_to_last : (bounds : List ℕ) (stages : List (Stage Try)) (first highest last : ℕ) (k : Key) (number : Option ℕ) → AreBound bounds stages → last ≤ length stages → highest ≡ min (bound_of bounds k) last
    → IfSome number (IsLatestIn stages first highest k) → IfSome number (IsLatestIn stages first last k)
latest_to_last bounds stages first highest last k None are within is latest = tt
latest_to_last bounds stages first highest last k (Some number) are within is (i, g, low, high, got, put, none) =
    (i, g, low, omega (arith, high, is), got, put, none_to_last bounds stages (i + 1) highest last k are within is none)
