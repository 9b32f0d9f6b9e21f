-- What becomes of stages and of present numbers over many events.
use Rattle.std.proofs.Common.{◌≡◌, ◌≢◌, ◌⊎◌, ℕ, ◌+◌, ◌-◌, ◌<◌, ◌≤◌, Bool, true, false, cond, List, [], ◌∷◌, ◌++◌, set, Option, Some, None, unwrap_or, inl, inr, IsTrue, refl, sym, ap, ◌∙◌, subst, ⊎_elim, arith}
use Rattle.std.specs.Prelude.{slice_get}
use Rattle.rbc_records.specs.declared.record.Key.{Key}
use Rattle.rbc_records.specs.Notes.{same_key}
use Rattle.rbc_versions.specs.Entries.{NumberedRec, number_for, numbers_after}
use Rattle.rbc_rule.specs.declared.outcome.Outcome.{Outcome}
use Rattle.rbc_core.specs.declared.stage.Stage.{Stage}
use Rattle.rbc_core.specs.declared.stage.Stage.TheVariants.{Free, Out, Tried, Void}
use Rattle.rbc_core.specs.Runs.{Run}
use Rattle.rbc_core.specs.Core.{Try, State, IsAt, front}
use Rattle.rbc_core.specs.Events.{Event, May, next, Follow}
use Rattle.rbc_core.specs.Events.Event.{Publishes, Takes, Reads, Deposits, Voids, Applies, Recomputes, Waits, Ends, Fails}
use Rattle.rbc_core.specs.Conflicts.{after, names, writes_by, Writes, WasVoided}
use Rattle.rbc_core.proofs.Books.{slice_get_set, same_item}
use Rattle.rbc_core.proofs.Facts.{attempts_stay, closed_stays, numbers_stay}

-- ---- lists of events

pub after_append : (s : State) (xs ys : List Event) → after s (xs ++ ys) ≡ after (after s xs) ys
after_append s [] ys = refl
after_append s (x ∷ xs) ys = after_append (next s x) xs ys

pub follow_left : (run : Run) (s : State) (xs ys : List Event) → Follow run s (xs ++ ys) → Follow run s xs
follow_left run s [] ys h = tt
follow_left run s (x ∷ xs) ys h = (h.0, follow_left run (next s x) xs ys h.1)

pub follow_right : (run : Run) (s : State) (xs ys : List Event) → Follow run s (xs ++ ys) → Follow run (after s xs) ys
follow_right run s [] ys h = h
follow_right run s (x ∷ xs) ys h = follow_right run (next s x) xs ys h.1

pub follow_append : (run : Run) (s : State) (xs ys : List Event) → Follow run s xs → Follow run (after s xs) ys → Follow run s (xs ++ ys)
follow_append run s [] ys h more = more
follow_append run s (x ∷ xs) ys h more = (h.0, follow_append run (next s x) xs ys h.1 more)

-- ---- a book that is open was open before

opened : (b c : Bool) → (b ≡ true → c ≡ true) → c ≡ false → b ≡ false
opened true c stays is = absurd (cc (stays refl, is))
opened false c stays is = refl

pub open_before : (run : Run) (s : State) (events : List Event) → Follow run s events → (after s events).closed ≡ false → s.closed ≡ false
open_before run s [] h live = live
open_before run s (event ∷ events) h live = opened s.closed (next s event).closed (closed_stays run s event h.0) (open_before run (next s event) events h.1 live)

-- ---- more and more inputs are committed

pub committed_one : (s : State) (event : Event) → s.committed ≤ (next s event).committed
committed_one s (Publishes number version) = omega arith
committed_one s (Takes None) = omega arith
committed_one s (Takes (Some number)) = omega arith
committed_one s (Reads number key answer) = omega arith
committed_one s (Deposits a true) = omega arith
committed_one s (Deposits a false) = omega arith
committed_one s (Voids number true) = omega arith
committed_one s (Voids number false) = omega arith
committed_one s (Applies outcome writes) = omega arith
committed_one s (Recomputes outcome writes) = omega arith
committed_one s Waits = omega arith
committed_one s Ends = omega arith
committed_one s (Fails true) = omega arith
committed_one s (Fails false) = omega arith

pub committed_grows : (s : State) (events : List Event) → s.committed ≤ (after s events).committed
committed_grows s [] = omega arith
committed_grows s (event ∷ events) =
    let one : s.committed ≤ (next s event).committed = committed_one s event in
    let rest : (next s event).committed ≤ (after (next s event) events).committed = committed_grows (next s event) events in
    omega (arith, one, rest)

-- an event that writes is the commit of one input
pub commit_raises : (s : State) (event : Event) (k : Key) → IsTrue (names (writes_by event) k) → (next s event).committed ≡ s.committed + 1
commit_raises s (Publishes number version) k h = absurd (cc h)
commit_raises s (Takes answer) k h = absurd (cc h)
commit_raises s (Reads number key answer) k h = absurd (cc h)
commit_raises s (Deposits a kept) k h = absurd (cc h)
commit_raises s (Voids number done) k h = absurd (cc h)
commit_raises s (Applies outcome writes) k h = refl
commit_raises s (Recomputes outcome writes) k h = refl
commit_raises s Waits k h = absurd (cc h)
commit_raises s Ends k h = absurd (cc h)
commit_raises s (Fails keeps) k h = absurd (cc h)

-- ---- a present number changes only where an input is committed that writes the key

-- among the events an input is committed that writes the key
abbrev pub IsWritten : State → List Event → Key → Type 0
IsWritten s events k = (number : ℕ) × (s.committed < number) × (number ≤ (after s events).committed) × Writes s events number k

pub changed : (run : Run) (s : State) (events : List Event) (k : Key) → Follow run s events → ((after s events).present k ≡ s.present k) ⊎ IsWritten s events k
changed run s [] k h = inl refl
changed run s (event ∷ events) k h = first (numbers_stay run s event h.0 k) (changed run (next s event) events k h.1)
  where
    first : ((next s event).present k ≡ s.present k) ⊎ IsTrue (names (writes_by event) k) → ((after (next s event) events).present k ≡ (next s event).present k) ⊎ IsWritten (next s event) events k
        → ((after (next s event) events).present k ≡ s.present k) ⊎ IsWritten s (event ∷ events) k
    first (inr named) rest =
        let raised = commit_raises s event k named in
        let grown = committed_grows (next s event) events in
        inr (front s, omega arith, omega (arith, raised, grown), ([], event, events, refl, refl, named))
    first (inl here) (inl later) = inl (later ∙ here)
    first (inl here) (inr (number, above, below, (before, commit, behind, are, turn, named))) =
        let grown : s.committed ≤ (next s event).committed = committed_one s event in
        inr (number, omega (arith, grown, above), below, (event ∷ before, commit, behind, ap (λ (xs : List Event). event ∷ xs) are, turn, named))

-- ---- where an attempt came from

-- an item that is another one than what was written stood there before
set_else : (xs : List (Stage Try)) (i k : ℕ) (x y : Stage Try) → (x ≡ y → ⊥) → slice_get (set xs i x) k ≡ Some y → slice_get xs k ≡ Some y
set_else xs i k x y other e = ⊎_elim (λ (q : (k ≡ i) × (x ≡ y)). absurd (other q.1)) (λ (q : (k ≢ i) × (slice_get xs k ≡ Some y)). q.1) (slice_get_set xs i k x y e)

-- the number of what stands at an index
number_at : (s : State) (number k : ℕ) (x : Stage Try) → IsAt s number x → k ≡ number - 1 → number ≡ k + 1
number_at s number k x at is = let low = at.uncommitted in omega (arith, low, is)

-- among the events the attempt was kept
abbrev pub WasDeposited : List Event → Try → Type 0
WasDeposited events a = (before : List Event) × (behind : List Event) × (events ≡ before ++ Deposits a true ∷ behind)

-- one event leaves what stands at an index, or keeps this attempt there
deposited_by : (run : Run) (s : State) (event : Event) (k : ℕ) (a : Try) → May run s event → slice_get (next s event).stages k ≡ Some (Tried a)
    → (slice_get s.stages k ≡ Some (Tried a)) ⊎ ((a.number ≡ k + 1) × (event ≡ Deposits a true))
deposited_by run s (Publishes number version) k a may at = inl at
deposited_by run s (Takes None) k a may at = inl at
deposited_by run s (Takes (Some number)) k a may at = inl (set_else s.stages (number - 1) k Out (Tried a) (λ e. absurd (cc e)) at)
deposited_by run s (Reads number key answer) k a may at = inl at
deposited_by run s (Deposits b true) k a may at =
    ⊎_elim
    (λ (q : (k ≡ b.number - 1) × (Tried b ≡ Tried a)). let same : b ≡ a = cc q.1 in inr (ap (λ (x : Try). x.number) (sym same) ∙ number_at s b.number k Out may.1 q.0, ap (λ (x : Try). Deposits x true) same))
    (λ (q : (k ≢ b.number - 1) × (slice_get s.stages k ≡ Some (Tried a))). inl q.1)
    (slice_get_set s.stages (b.number - 1) k (Tried b) (Tried a) at)
deposited_by run s (Deposits b false) k a may at = inl at
deposited_by run s (Voids number true) k a may at = inl (set_else s.stages (number - 1) k Void (Tried a) (λ e. absurd (cc e)) at)
deposited_by run s (Voids number false) k a may at = inl at
deposited_by run s (Applies outcome writes) k a may at = inl (set_else s.stages (front s - 1) k Free (Tried a) (λ e. absurd (cc e)) at)
deposited_by run s (Recomputes outcome writes) k a may at = inl (set_else s.stages (front s - 1) k Free (Tried a) (λ e. absurd (cc e)) at)
deposited_by run s Waits k a may at = inl at
deposited_by run s Ends k a may at = inl at
deposited_by run s (Fails true) k a may at = inl at
deposited_by run s (Fails false) k a may at = inl (set_else s.stages (front s - 1) k Void (Tried a) (λ e. absurd (cc e)) at)

pub was_deposited : (run : Run) (s : State) (events : List Event) (k : ℕ) (a : Try) → Follow run s events → slice_get (after s events).stages k ≡ Some (Tried a)
    → (slice_get s.stages k ≡ Some (Tried a)) ⊎ ((a.number ≡ k + 1) × WasDeposited events a)
was_deposited run s [] k a h at = inl at
was_deposited run s (event ∷ events) k a h at = first (was_deposited run (next s event) events k a h.1 at)
  where
    first : (slice_get (next s event).stages k ≡ Some (Tried a)) ⊎ ((a.number ≡ k + 1) × WasDeposited events a) → (slice_get s.stages k ≡ Some (Tried a)) ⊎ ((a.number ≡ k + 1) × WasDeposited (event ∷ events) a)
    first (inl there) =
        ⊎_elim (λ (was : slice_get s.stages k ≡ Some (Tried a)). inl was) (λ (q : (a.number ≡ k + 1) × (event ≡ Deposits a true)). inr (q.0, ([], events, ap (λ (e : Event). e ∷ events) q.1)))
        (deposited_by run s event k a h.0 there)
    first (inr (number, (before, behind, are))) = inr (number, (event ∷ before, behind, ap (λ (xs : List Event). event ∷ xs) are))

-- ---- where an input that is given up came from

-- one event leaves what stands at an index, or gives the input up, or closes the book
voided_by : (run : Run) (s : State) (event : Event) (k : ℕ) → May run s event → (next s event).closed ≡ false → slice_get (next s event).stages k ≡ Some Void → (slice_get s.stages k ≡ Some Void) ⊎ (event ≡ Voids (k + 1) true)
voided_by run s (Publishes number version) k may live at = inl at
voided_by run s (Takes None) k may live at = inl at
voided_by run s (Takes (Some number)) k may live at = inl (set_else s.stages (number - 1) k Out Void (λ e. absurd (cc e)) at)
voided_by run s (Reads number key answer) k may live at = inl at
voided_by run s (Deposits a true) k may live at = inl (set_else s.stages (a.number - 1) k (Tried a) Void (λ e. absurd (cc e)) at)
voided_by run s (Deposits a false) k may live at = inl at
voided_by run s (Voids number true) k may live at =
    ⊎_elim (λ (q : (k ≡ number - 1) × (Void ≡ Void)). inr (ap (λ n. Voids n true) (number_at s number k Out may q.0))) (λ (q : (k ≢ number - 1) × (slice_get s.stages k ≡ Some Void)). inl q.1)
    (slice_get_set s.stages (number - 1) k Void Void at)
voided_by run s (Voids number false) k may live at = inl at
voided_by run s (Applies outcome writes) k may live at = inl (set_else s.stages (front s - 1) k Free Void (λ e. absurd (cc e)) at)
voided_by run s (Recomputes outcome writes) k may live at = inl (set_else s.stages (front s - 1) k Free Void (λ e. absurd (cc e)) at)
voided_by run s Waits k may live at = inl at
voided_by run s Ends k may live at = inl at
voided_by run s (Fails true) k may live at = inl at
voided_by run s (Fails false) k may live at = absurd (cc live)

pub was_voided : (run : Run) (s : State) (events : List Event) (k : ℕ) → Follow run s events → (after s events).closed ≡ false → slice_get (after s events).stages k ≡ Some Void → (slice_get s.stages k ≡ Some Void) ⊎ WasVoided events (k + 1)
was_voided run s [] k h live at = inl at
was_voided run s (event ∷ events) k h live at = first (was_voided run (next s event) events k h.1 live at)
  where
    first : (slice_get (next s event).stages k ≡ Some Void) ⊎ WasVoided events (k + 1) → (slice_get s.stages k ≡ Some Void) ⊎ WasVoided (event ∷ events) (k + 1)
    first (inl there) =
        ⊎_elim (λ (was : slice_get s.stages k ≡ Some Void). inl was) (λ (q : event ≡ Voids (k + 1) true). inr ([], events, ap (λ (e : Event). e ∷ events) q))
        (voided_by run s event k h.0 (open_before run (next s event) events h.1 live) there)
    first (inr (before, behind, are)) = inr (event ∷ before, behind, ap (λ (xs : List Event). event ∷ xs) are)

-- ---- what becomes of an attempt that is kept

-- the number under a key after entries
put_after : (entries : List (Key × NumberedRec)) (numbers : Key → ℕ) (k : Key) → numbers_after entries numbers k ≡ unwrap_or (number_for entries k) (numbers k)
put_after [] numbers k = refl
put_after (entry ∷ entries) numbers k =
    put_after entries (λ other. cond (same_key other entry.0) entry.1.number (numbers other)) k ∙ by (number_for entries k) (same_key k entry.0)
  where
    by : (o : Option ℕ) (b : Bool)
        → unwrap_or o (cond b entry.1.number (numbers k)) ≡ unwrap_or (elim o as (λ _. Option ℕ) [ Some number ↦ Some number | None ↦ cond b (Some entry.1.number) None ]) (numbers k)
    by (Some number) b = refl
    by None true = refl
    by None false = refl

pub number_put : (entries : List (Key × NumberedRec)) (numbers : Key → ℕ) (k : Key) (number : ℕ) → number_for entries k ≡ Some number → numbers_after entries numbers k ≡ number
number_put entries numbers k number is = put_after entries numbers k ∙ ap (λ (o : Option ℕ). unwrap_or o (numbers k)) is

pub number_left : (entries : List (Key × NumberedRec)) (numbers : Key → ℕ) (k : Key) → number_for entries k ≡ None → numbers_after entries numbers k ≡ numbers k
number_left entries numbers k is = put_after entries numbers k ∙ ap (λ (o : Option ℕ). unwrap_or o (numbers k)) is

-- the event commits an input with the numbers of this attempt, or computes it again
abbrev pub IsCommitOf : Try → Event → Type 0
IsCommitOf a event = ((outcome : Outcome) × (event ≡ Applies outcome a.writes)) ⊎ ((outcome : Outcome) × (writes : List (Key × NumberedRec)) × (event ≡ Recomputes outcome writes))

-- an input has one attempt
pub same_try : (s : State) (number : ℕ) (a b : Try) → IsAt s number (Tried a) → IsAt s number (Tried b) → a ≡ b
same_try s number a b x y = let is : Tried a ≡ Tried b = same_item s.stages (number - 1) (Tried a) (Tried b) x.at y.at in cc is

-- an event that commits the next input, which has an attempt
commit_is : (run : Run) (s : State) (event : Event) (a : Try) → May run s event → IsAt s (front s) (Tried a) → (next s event).committed ≡ front s → IsCommitOf a event
commit_is run s (Publishes number version) a may at raised = absurd (omega (arith, raised))
commit_is run s (Takes None) a may at raised = absurd (omega (arith, raised))
commit_is run s (Takes (Some number)) a may at raised = absurd (omega (arith, raised))
commit_is run s (Reads number key answer) a may at raised = absurd (omega (arith, raised))
commit_is run s (Deposits b true) a may at raised = absurd (omega (arith, raised))
commit_is run s (Deposits b false) a may at raised = absurd (omega (arith, raised))
commit_is run s (Voids number true) a may at raised = absurd (omega (arith, raised))
commit_is run s (Voids number false) a may at raised = absurd (omega (arith, raised))
commit_is run s (Applies outcome writes) a (opened, (b, there, current, same, numbers)) at raised =
    inl (outcome, ap (λ (w : List (Key × NumberedRec)). Applies outcome w) (numbers ∙ ap (λ (x : Try). x.writes) (same_try s (front s) b a there at)))
commit_is run s (Recomputes outcome writes) a may at raised = inr (outcome, writes, refl)
commit_is run s Waits a may at raised = absurd (omega (arith, raised))
commit_is run s Ends a may at raised = absurd (omega (arith, raised))
commit_is run s (Fails true) a may at raised = absurd (omega (arith, raised))
commit_is run s (Fails false) a may at raised = absurd (omega (arith, raised))

-- one event leaves an attempt, or commits its input, as long as the book is open
pub stays_or_commits : (run : Run) (s : State) (event : Event) (number : ℕ) (a : Try) → May run s event → IsAt s number (Tried a) → (next s event).closed ≡ false
    → IsAt (next s event) number (Tried a) ⊎ ((number ≡ front s) × ((next s event).committed ≡ front s) × IsCommitOf a event)
stays_or_commits run s event number a may at live = by (attempts_stay run s event may number a at)
  where
    by : IsAt (next s event) number (Tried a) ⊎ ((number ≡ front s) × (((next s event).committed ≡ number) ⊎ ((s.closed ≡ false) × ((next s event).closed ≡ true))))
        → IsAt (next s event) number (Tried a) ⊎ ((number ≡ front s) × ((next s event).committed ≡ front s) × IsCommitOf a event)
    by (inl stays) = inl stays
    by (inr (turn, inl committed)) = inr (turn, committed ∙ turn, commit_is run s event a may (subst (λ n. IsAt s n (Tried a)) turn at) (committed ∙ turn))
    by (inr (turn, inr lost)) = absurd (cc (live, lost.1))

-- among the events the input is committed that had this attempt until then
abbrev pub IsCommitted : State → List Event → ℕ → Try → Type 0
IsCommitted s events number a =
    (before : List Event) × (commit : Event) × (behind : List Event)
    × (events ≡ before ++ commit ∷ behind) × (front (after s before) ≡ number) × ((next (after s before) commit).committed ≡ number) × IsCommitOf a commit

pub fate : (run : Run) (s : State) (events : List Event) (number : ℕ) (a : Try) → Follow run s events → IsAt s number (Tried a) → (after s events).closed ≡ false
    → IsAt (after s events) number (Tried a) ⊎ IsCommitted s events number a
fate run s [] number a h at live = inl at
fate run s (event ∷ events) number a h at live =
    by (stays_or_commits run s event number a h.0 at (open_before run (next s event) events h.1 live)) (λ there. fate run (next s event) events number a h.1 there live)
  where
    more : IsAt (after (next s event) events) number (Tried a) ⊎ IsCommitted (next s event) events number a → IsAt (after (next s event) events) number (Tried a) ⊎ IsCommitted s (event ∷ events) number a
    more (inl there) = inl there
    more (inr (before, commit, behind, are, turn, raised, is)) = inr (event ∷ before, commit, behind, ap (λ (xs : List Event). event ∷ xs) are, turn, raised, is)

    by : IsAt (next s event) number (Tried a) ⊎ ((number ≡ front s) × ((next s event).committed ≡ front s) × IsCommitOf a event)
        → (IsAt (next s event) number (Tried a) → IsAt (after (next s event) events) number (Tried a) ⊎ IsCommitted (next s event) events number a)
        → IsAt (after (next s event) events) number (Tried a) ⊎ IsCommitted s (event ∷ events) number a
    by (inl there) rest = more (rest there)
    by (inr (turn, raised, is)) rest = inr ([], event, events, refl, sym turn, raised ∙ sym turn, is)
