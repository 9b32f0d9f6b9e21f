-- What one event leaves.
use Rattle.std.proofs.Common.{◌≡◌, ◌≢◌, ◌⊎◌, ℕ, zero, suc, ◌+◌, ◌-◌, ◌<◌, ◌≤◌, Bool, true, false, cond, List, [], ◌∷◌, set, Option, Some, None, inl, inr, IsTrue, refl, sym, ap, ◌∙◌, ⊎_elim, arith}
use Rattle.std.specs.Prelude.{slice_get}
use Rattle.std.proofs.lemmas.Bool.{cases_lt, or_parts}
use Rattle.rbc_records.specs.declared.record.Key.{Key}
use Rattle.rbc_records.specs.declared.record.Rec.{Rec}
use Rattle.rbc_records.specs.Notes.{same_key}
use Rattle.rbc_records.specs.Writes.{written, write_over}
use Rattle.rbc_versions.specs.Entries.{NumberedRec, numbers_after}
use Rattle.rbc_core.specs.declared.stage.Stage.{Stage}
use Rattle.rbc_core.specs.declared.stage.Stage.TheVariants.{Free, Out, Tried, Void}
use Rattle.rbc_core.specs.Core.{Try, State, IsAt, front, with_stage}
use Rattle.rbc_core.specs.Events.{next}
use Rattle.rbc_core.specs.Events.Event.{Publishes, Takes, Reads, Deposits, Voids, Applies, Recomputes, Waits, Ends, Fails}
use Rattle.rbc_core.specs.Conflicts.{names}
use Rattle.rbc_core.specs.Facts.{AttemptsStay, RecordsStay, NumbersStay, ClosedStays}

-- another item stays
slice_get_other : {A : Type 0} (xs : List A) (i k : ℕ) (x : A) → k ≢ i → slice_get (set xs i x) k ≡ slice_get xs k
slice_get_other [] i k x ne = refl
slice_get_other (z ∷ zs) zero zero x ne = absurd (ne refl)
slice_get_other (z ∷ zs) zero (suc k) x ne = refl
slice_get_other (z ∷ zs) (suc i) zero x ne = refl
slice_get_other (z ∷ zs) (suc i) (suc k) x ne = slice_get_other zs i k x (λ e. ne (ap suc e))

-- an attempt stays where another input changes
module _ (s : State) (number : ℕ) (a : Try) (at : IsAt s number (Tried a)) where
  kept_beside : (other : ℕ) (x : Stage Try) → number - 1 ≢ other - 1 → slice_get (with_stage s other x) (number - 1) ≡ Some (Tried a)
  kept_beside other x ne = slice_get_other s.stages (other - 1) (number - 1) x ne ∙ at.at

  differ : (other : ℕ) → IsAt s other Out → number - 1 ≢ other - 1
  differ other there same = absurd (let x = at.at in let y = there.at in cc (x, y, same))

  -- the next input is committed, and it is this one or another
  after_front : (t : State) → t.committed ≡ s.committed + 1 → t.taken ≡ s.taken → t.stages ≡ with_stage s (front s) Free
      → IsAt t number (Tried a) ⊎ ((number ≡ front s) × ((t.committed ≡ number) ⊎ ((s.closed ≡ false) × (t.closed ≡ true))))
  after_front t committed taken stages =
      let low = at.uncommitted in
      let high = at.taken in
      ⊎_elim
      (λ (later : front s < number). inl (record {
        uncommitted = omega (arith, committed, later);
        taken = omega (arith, taken, high);
        at = ap (λ (xs : List (Stage Try)). slice_get xs (number - 1)) stages ∙ kept_beside (front s) Free (λ e. absurd (omega (arith, e, later)));
      }))
      (λ (now : number ≤ front s). let is : number ≡ front s = omega (arith, now, low) in inr (is, inl (committed ∙ sym is)))
      (cases (front s) number)
    where
      cases : (m n : ℕ) → (m < n) ⊎ (n ≤ m)
      cases m n = elim (cases_lt m n) [ inl q ↦ inl q | inr q ↦ inr (omega (arith, q)) ]

pub attempts_stay : AttemptsStay
attempts_stay run s (Publishes published version) may number a at = inl at
attempts_stay run s (Takes None) may number a at = inl at
attempts_stay run s (Takes (Some taken)) may number a at =
    let low = at.uncommitted in
    let high = at.taken in
    let is = may.2 in
    inl (record {
      uncommitted = low;
      taken = omega (arith, high);
      at = kept_beside s number a at taken Out (λ e. absurd (omega (arith, e, is, high, low)));
    })
attempts_stay run s (Reads other k answer) may number a at = inl at
attempts_stay run s (Deposits b true) may number a at = inl (record { uncommitted = at.uncommitted; taken = at.taken; at = kept_beside s number a at b.number (Tried b) (differ s number a at b.number may.1) })
attempts_stay run s (Deposits b false) may number a at = inl at
attempts_stay run s (Voids other true) may number a at = inl (record { uncommitted = at.uncommitted; taken = at.taken; at = kept_beside s number a at other Void (differ s number a at other may) })
attempts_stay run s (Voids other false) may number a at = inl at
attempts_stay run s (Applies outcome writes) may number a at = after_front s number a at (next s (Applies outcome writes)) refl refl refl
attempts_stay run s (Recomputes outcome writes) may number a at = after_front s number a at (next s (Recomputes outcome writes)) refl refl refl
attempts_stay run s Waits may number a at = inl at
attempts_stay run s Ends may number a at = inl at
attempts_stay run s (Fails true) may number a at = inl (record { uncommitted = at.uncommitted; taken = at.taken; at = at.at })
attempts_stay run s (Fails false) may number a at =
    let low = at.uncommitted in
    ⊎_elim
    (λ (later : front s < number). inl (record { uncommitted = low; taken = at.taken; at = kept_beside s number a at (front s) Void (λ e. absurd (omega (arith, e, later))) }))
    (λ (now : number ≤ front s). inr (omega (arith, now, low), inr (may.0, refl)))
    (elim (cases_lt (front s) number) [ inl q ↦ inl q | inr q ↦ inr (omega (arith, q)) ])

unnamed : (writes : List (Key × Option Rec)) (records : Key → Option Rec) (k : Key) → names writes k ≡ false → written writes records k ≡ records k
unnamed [] records k none = refl
unnamed (write ∷ writes) records k none =
    let parts = or_parts (same_key k write.0) (names writes k) none in
    unnamed writes (write_over write records) k parts.1 ∙ ap (λ b. cond b write.1 (records k)) parts.0

unnumbered : (entries : List (Key × NumberedRec)) (numbers : Key → ℕ) (k : Key) → names entries k ≡ false → numbers_after entries numbers k ≡ numbers k
unnumbered [] numbers k none = refl
unnumbered (entry ∷ entries) numbers k none =
    let parts = or_parts (same_key k entry.0) (names entries k) none in
    unnumbered entries (λ other. cond (same_key other entry.0) entry.1.number (numbers other)) k parts.1 ∙ ap (λ b. cond b entry.1.number (numbers k)) parts.0

-- what holds where a key is not named holds, or it is named
or_named : {A : Type 0} (b : Bool) → (b ≡ false → A) → A ⊎ IsTrue b
or_named true same = inr refl
or_named false same = inl (same refl)

named_or_same : (writes : List (Key × Option Rec)) (records : Key → Option Rec) (k : Key) → (written writes records k ≡ records k) ⊎ IsTrue (names writes k)
named_or_same writes records k = or_named (names writes k) (unnamed writes records k)

numbered_or_same : (entries : List (Key × NumberedRec)) (numbers : Key → ℕ) (k : Key) → (numbers_after entries numbers k ≡ numbers k) ⊎ IsTrue (names entries k)
numbered_or_same entries numbers k = or_named (names entries k) (unnumbered entries numbers k)

pub records_stay : RecordsStay
records_stay run s (Publishes number version) may k = inl refl
records_stay run s (Takes None) may k = inl refl
records_stay run s (Takes (Some number)) may k = inl refl
records_stay run s (Reads number key answer) may k = inl refl
records_stay run s (Deposits a true) may k = inl refl
records_stay run s (Deposits a false) may k = inl refl
records_stay run s (Voids number true) may k = inl refl
records_stay run s (Voids number false) may k = inl refl
records_stay run s (Applies outcome writes) may k = named_or_same outcome.writes s.desk.records k
records_stay run s (Recomputes outcome writes) may k = named_or_same outcome.writes s.desk.records k
records_stay run s Waits may k = inl refl
records_stay run s Ends may k = inl refl
records_stay run s (Fails true) may k = inl refl
records_stay run s (Fails false) may k = inl refl

pub numbers_stay : NumbersStay
numbers_stay run s (Publishes number version) may k = inl refl
numbers_stay run s (Takes None) may k = inl refl
numbers_stay run s (Takes (Some number)) may k = inl refl
numbers_stay run s (Reads number key answer) may k = inl refl
numbers_stay run s (Deposits a true) may k = inl refl
numbers_stay run s (Deposits a false) may k = inl refl
numbers_stay run s (Voids number true) may k = inl refl
numbers_stay run s (Voids number false) may k = inl refl
numbers_stay run s (Applies outcome writes) may k = numbered_or_same writes s.present k
numbers_stay run s (Recomputes outcome writes) may k = numbered_or_same writes s.present k
numbers_stay run s Waits may k = inl refl
numbers_stay run s Ends may k = inl refl
numbers_stay run s (Fails true) may k = inl refl
numbers_stay run s (Fails false) may k = inl refl

pub closed_stays : ClosedStays
closed_stays run s (Publishes number version) may closed = closed
closed_stays run s (Takes None) may closed = closed
closed_stays run s (Takes (Some number)) may closed = closed
closed_stays run s (Reads number key answer) may closed = closed
closed_stays run s (Deposits a true) may closed = closed
closed_stays run s (Deposits a false) may closed = closed
closed_stays run s (Voids number true) may closed = closed
closed_stays run s (Voids number false) may closed = closed
closed_stays run s (Applies outcome writes) may closed = closed
closed_stays run s (Recomputes outcome writes) may closed = closed
closed_stays run s Waits may closed = closed
closed_stays run s Ends may closed = closed
closed_stays run s (Fails true) may closed = refl
closed_stays run s (Fails false) may closed = refl
