-- Where reads give the latest numbers after attempts at all earlier inputs were kept, no note grows stale.
use Rattle.std.proofs.Common.{◌≡◌, ◌⊎◌, ℕ, zero, suc, ◌+◌, ◌-◌, ◌<◌, ◌≤◌, true, false, List, [], ◌∷◌, ◌++◌, length, Some, None, inl, inr, refl, sym, ap, ◌∙◌, subst, append_assoc, length-append, arith}
use Rattle.std.specs.Prelude.{Contains, slice_get}
use Rattle.std.proofs.lemmas.Option.{slice_get_within}
use Rattle.rbc_records.specs.declared.record.Key.{Key}
use Rattle.rbc_versions.specs.Entries.{NumberedRec, number_for}
use Rattle.rbc_rule.specs.declared.outcome.Outcome.{Outcome}
use Rattle.rbc_core.specs.declared.stage.Stage.TheVariants.{Out, Tried}
use Rattle.rbc_core.specs.Runs.{Run}
use Rattle.rbc_core.specs.Core.{Try, State, opening, IsAt, front, IsStale}
use Rattle.rbc_core.specs.Events.{Event, May, next, Follow}
use Rattle.rbc_core.specs.Events.Event.{Publishes, Takes, Reads, Deposits, Voids, Applies, Recomputes, Waits, Ends, Fails}
use Rattle.rbc_core.specs.Conflicts.{after}
use Rattle.rbc_core.specs.Forwards.{NoneWrites, IsLatest, AreLatest, WasKept, AreAfterDeposits, IsForwarding, NoneIsComputedAgain}
use Rattle.rbc_core.proofs.Books.{slice_get_at}
use Rattle.rbc_core.proofs.Fates.{after_append, follow_left, follow_right, open_before, committed_one, committed_grows, WasDeposited, was_deposited, number_put, number_left, same_try, IsCommitOf, IsCommitted, stays_or_commits, fate}
use Rattle.rbc_core.proofs.Conflicts.{not_current, none_yet, voided}

-- each input before this one that is not committed has an attempt
abbrev pub AllTried : State → ℕ → Type 0
AllTried s number = (other : ℕ) → s.committed < other → other < number → (a : Try) × IsAt s other (Tried a)

abbrev pub IsNotAgain : Event → Type 0
IsNotAgain event = (outcome : Outcome) (writes : List (Key × NumberedRec)) → event ≡ Recomputes outcome writes → ⊥

-- ---- one event

module _ (run : Run) (s : State) (event : Event) (may : May run s event) (live : (next s event).closed ≡ false) (number : ℕ) (all : AllTried s number) where
  -- what has an attempt after it, before this input, had it before
  was_tried : (other : ℕ) → (next s event).committed < other → other < number → (a : Try) × IsAt s other (Tried a) × IsAt (next s event) other (Tried a)
  was_tried other low high = by (stays_or_commits run s event other had.0 may had.1 live)
    where
      had : (a : Try) × IsAt s other (Tried a)
      had = let grown : s.committed ≤ (next s event).committed = committed_one s event in all other (omega (arith, grown, low)) high

      by : IsAt (next s event) other (Tried had.0) ⊎ ((other ≡ front s) × ((next s event).committed ≡ front s) × IsCommitOf had.0 event) → (a : Try) × IsAt s other (Tried a) × IsAt (next s event) other (Tried a)
      by (inl there) = (had.0, had.1, there)
      by (inr (turn, raised, is)) = absurd (omega (arith, turn, raised, low))

  all_after : AllTried (next s event) number
  all_after other low high = let was = was_tried other low high in (was.0, was.2)

  none_after : (first : ℕ) (k : Key) → NoneWrites s first number k → NoneWrites (next s event) first number k
  none_after first k none other a low high at =
      let above : (next s event).committed < other = at.uncommitted in
      let was = was_tried other above high in
      ap (λ (x : Try). number_for x.writes k) (sym (same_try (next s event) other was.0 a was.2 at)) ∙ none other was.0 low high was.1

-- where no attempt before the input writes the key, its present number stays
number_stays : (run : Run) (s : State) (event : Event) (number : ℕ) (k : Key) → May run s event → IsNotAgain event → (next s event).committed < number → NoneWrites s 0 number k → (next s event).present k ≡ s.present k
number_stays run s (Publishes published version) number k may other low none = refl
number_stays run s (Takes None) number k may other low none = refl
number_stays run s (Takes (Some taken)) number k may other low none = refl
number_stays run s (Reads reader key answer) number k may other low none = refl
number_stays run s (Deposits a true) number k may other low none = refl
number_stays run s (Deposits a false) number k may other low none = refl
number_stays run s (Voids voided true) number k may other low none = refl
number_stays run s (Voids voided false) number k may other low none = refl
number_stays run s (Applies outcome writes) number k (opened, (a, at, current, same, numbers)) other low none =
    number_left writes s.present k (ap (λ (w : List (Key × NumberedRec)). number_for w k) numbers ∙ none (front s) a (omega arith) (omega (arith, low)) at)
number_stays run s (Recomputes outcome writes) number k may other low none = absurd (other outcome writes refl)
number_stays run s Waits number k may other low none = refl
number_stays run s Ends number k may other low none = refl
number_stays run s (Fails true) number k may other low none = refl
number_stays run s (Fails false) number k may other low none = refl

-- one event keeps the latest number
latest_after : (run : Run) (s : State) (event : Event) (number : ℕ) (k : Key) (answer : ℕ) → May run s event → IsNotAgain event → (next s event).closed ≡ false → (next s event).committed < number → AllTried s number
    → IsLatest s number k answer → IsLatest (next s event) number k answer
latest_after run s event number k answer may other live low all (inr (none, present)) =
    inr (none_after run s event may live number all 0 k none, present ∙ sym (number_stays run s event number k may other low none))
latest_after run s event number k answer may other live low all (inl (earlier, a, before, at, wrote, none)) = by (stays_or_commits run s event earlier a may at live)
  where
    none_behind : NoneWrites (next s event) (earlier + 1) number k
    none_behind = none_after run s event may live number all (earlier + 1) k none

    by : IsAt (next s event) earlier (Tried a) ⊎ ((earlier ≡ front s) × ((next s event).committed ≡ front s) × IsCommitOf a event) → IsLatest (next s event) number k answer
    by (inl there) = inl (earlier, a, before, there, wrote, none_behind)
    by (inr (turn, raised, inl (outcome, is))) =
        let nobody : NoneWrites (next s event) 0 number k = λ l b first high there. (let above : (next s event).committed < l = there.uncommitted in none_behind l b (omega (arith, turn, raised, above)) high there) in
        inr (nobody, sym (ap (λ (e : Event). (next s e).present k) is ∙ number_put a.writes s.present k answer wrote))
    by (inr (turn, raised, inr (outcome, writes, is))) = absurd (other outcome writes is)

-- ---- many events

abbrev pub NoneAgain : List Event → Type 0
NoneAgain events = (before behind : List Event) (outcome : Outcome) (writes : List (Key × NumberedRec)) → events ≡ before ++ Recomputes outcome writes ∷ behind → ⊥

latest_at_end : (run : Run) (s : State) (events : List Event) (number : ℕ) (k : Key) (answer : ℕ) → Follow run s events → NoneAgain events → (after s events).closed ≡ false → (after s events).committed < number → AllTried s number
    → IsLatest s number k answer → IsLatest (after s events) number k answer
latest_at_end run s [] number k answer h none live low all latest = latest
latest_at_end run s (event ∷ events) number k answer h none live low all latest =
    let live_now : (next s event).closed ≡ false = open_before run (next s event) events h.1 live in
    let grown : (next s event).committed ≤ (after (next s event) events).committed = committed_grows (next s event) events in
    let within : (next s event).committed < number = omega (arith, grown, low) in
    latest_at_end run (next s event) events number k answer h.1 (λ before behind outcome writes is. none (event ∷ before) behind outcome writes (ap (λ (xs : List Event). event ∷ xs) is)) live low
    (all_after run s event h.0 live_now number all)
    (latest_after run s event number k answer h.0 (λ outcome writes is. none [] events outcome writes (ap (λ (e : Event). e ∷ events) is)) live_now within all latest)

-- after an attempt at it was kept an input has that attempt, or is committed
kept_since : (run : Run) (s : State) (a : Try) (behind : List Event) → Follow run s (Deposits a true ∷ behind) → (after s (Deposits a true ∷ behind)).closed ≡ false
    → (after s (Deposits a true ∷ behind)).committed < a.number → IsAt (after s (Deposits a true ∷ behind)) a.number (Tried a)
kept_since run s a behind h live low = by (fate run t behind a.number a h.1 put live)
  where
    t : State
    t = next s (Deposits a true)

    put : IsAt t a.number (Tried a)
    put = record { uncommitted = h.0.1.uncommitted; taken = h.0.1.taken; at = slice_get_at s.stages (a.number - 1) (Tried a) (slice_get_within s.stages (a.number - 1) Out h.0.1.at) }

    by : IsAt (after t behind) a.number (Tried a) ⊎ IsCommitted t behind a.number a → IsAt (after t behind) a.number (Tried a)
    by (inl there) = there
    by (inr (before, commit, rest, are, turn, raised, is)) =
        let last : after t behind ≡ after (next (after t before) commit) rest = ap (after t) are ∙ after_append t before (commit ∷ rest) in
        let grown = committed_grows (next (after t before) commit) rest in
        let count : (after t behind).committed ≡ (after (next (after t before) commit) rest).committed = ap (λ (x : State). x.committed) last in
        absurd (omega (arith, grown, count, raised, low))

-- after attempts at all inputs before one were kept, each of them is committed or has an attempt
after_deposits : (run : Run) (start : State) (events : List Event) (number : ℕ) → Follow run start events → (after start events).closed ≡ false
    → ((earlier : ℕ) → 1 ≤ earlier → earlier < number → WasKept events earlier) → AllTried (after start events) number
after_deposits run start events number h live kept other low high = by (kept other (omega (arith, low)) high)
  where
    by : WasKept events other → (a : Try) × IsAt (after start events) other (Tried a)
    by (first, a, second, are, same) =
        let s : State = after start first in
        let last : after start events ≡ after s (Deposits a true ∷ second) = ap (after start) are ∙ after_append start first (Deposits a true ∷ second) in
        let went : Follow run s (Deposits a true ∷ second) = follow_right run start first (Deposits a true ∷ second) (subst (Follow run start) are h) in
        let count : (after start events).committed ≡ (after s (Deposits a true ∷ second)).committed = ap (λ (x : State). x.committed) last in
        let there = kept_since run s a second went (ap (λ (x : State). x.closed) (sym last) ∙ live) (omega (arith, count, same, low)) in
        (a, subst (λ (x : State). IsAt x other (Tried a)) (sym last) (subst (λ n. IsAt (after s (Deposits a true ∷ second)) n (Tried a)) same there))

-- ---- all that came to a book since it was opened

module _ (run : Run) (numbers : Key → ℕ) (events : List Event) (h : Follow run (opening run numbers) events) (live : (after (opening run numbers) events).closed ≡ false) (none : NoneAgain events) where
  abbrev start : State
  start = opening run numbers

  abbrev end : State
  end = after (opening run numbers) events

  -- the latest number for the next input is the present one
  latest_is_present : (k : Key) (answer : ℕ) → IsLatest end (front end) k answer → answer ≡ end.present k
  latest_is_present k answer (inl (earlier, a, before, at, wrote, others)) = let low = at.uncommitted in absurd (omega (arith, low, before))
  latest_is_present k answer (inr (others, present)) = present

  -- what was read for the next input is the present number still
  fresh_after : (a : Try) (note : Key × NumberedRec) (before behind first second : List Event) → AreLatest start events → AreAfterDeposits events → a.number ≡ front end → events ≡ before ++ Deposits a true ∷ behind
      → before ≡ first ++ Reads a.number note.0 note.1.number ∷ second → note.1.number ≡ end.present note.0
  fresh_after a note before behind first second latest deposits number is was =
      let since : List Event = second ++ Deposits a true ∷ behind in
      let read : Event = Reads a.number note.0 note.1.number in
      let all : events ≡ first ++ read ∷ since = is ∙ (ap (λ (xs : List Event). xs ++ Deposits a true ∷ behind) was ∙ append_assoc first (read ∷ second) (Deposits a true ∷ behind)) in
      let s : State = after start first in
      let last : end ≡ after s since = ap (after start) all ∙ after_append start first (read ∷ since) in
      let whole : Follow run start (first ++ read ∷ since) = subst (Follow run start) all h in
      let went : Follow run s (read ∷ since) = follow_right run start first (read ∷ since) whole in
      let live_then : (after s since).closed ≡ false = ap (λ (x : State). x.closed) (sym last) ∙ live in
      let count : end.committed ≡ (after s since).committed = ap (λ (x : State). x.committed) last in
      let low : (after s since).committed < a.number = omega (arith, count, number) in
      let tried : AllTried s a.number = after_deposits run start first a.number (follow_left run start first (read ∷ since) whole) (open_before run s since went.1 live_then) (deposits first since a.number note.0 note.1.number all) in
      let none_since : NoneAgain since =
      λ xs ys outcome writes q. none (first ++ read ∷ xs) ys outcome writes (all ∙ (ap (λ (zs : List Event). first ++ read ∷ zs) q ∙ sym (append_assoc first (read ∷ xs) (Recomputes outcome writes ∷ ys)))) in
      let there : IsLatest (after s since) a.number note.0 note.1.number = latest_at_end run s since a.number note.0 note.1.number went.1 none_since live_then low tried (latest first since a.number note.0 note.1.number all) in
      latest_is_present note.0 note.1.number (subst (λ n. IsLatest end n note.0 note.1.number) number (subst (λ (x : State). IsLatest x a.number note.0 note.1.number) (sym last) there))

  fresh : IsForwarding start events → (a : Try) (note : Key × NumberedRec) → IsAt end (front end) (Tried a) → Contains a.notes note → note.1.number ≡ end.present note.0
  fresh (answered, unvoided, latest, deposits) a note at has = by (was_deposited run start events (front end - 1) a h at.at)
    where
      by : (slice_get start.stages (front end - 1) ≡ Some (Tried a)) ⊎ ((a.number ≡ front end - 1 + 1) × WasDeposited events a) → note.1.number ≡ end.present note.0
      by (inl there) = absurd (none_yet run numbers events h (front end - 1) (Tried a) (λ e. absurd (cc e)) there)
      by (inr (number, (before, behind, is))) =
          let read = answered before behind a is note has in
          fresh_after a note before behind read.0 read.1 latest deposits (omega (arith, number)) is read.2

  not_stale : IsForwarding start events → IsStale end → ⊥
  not_stale forwarding (inl void) = let was = voided run numbers events h live void in forwarding.1 was.0 was.1 (front end) was.2
  not_stale forwarding (inr (a, at, stale)) = let (note, has, other) = not_current a.notes end.present stale in other (fresh forwarding a note at has)

-- ---- what holds of all events holds of the first of them

forwarding_first : (s : State) (xs events ys : List Event) → xs ≡ events ++ ys → IsForwarding s xs → IsForwarding s events
forwarding_first s xs events ys all (answered, unvoided, latest, deposits) = (
  λ before behind a is. answered before (behind ++ ys) a (longer before behind (Deposits a true) is),
  λ before behind number is. unvoided before (behind ++ ys) number (longer before behind (Voids number true) is),
  λ before behind number k answer is. latest before (behind ++ ys) number k answer (longer before behind (Reads number k answer) is),
  λ before behind number k answer is. deposits before (behind ++ ys) number k answer (longer before behind (Reads number k answer) is),
)
  where
    longer : (before behind : List Event) (event : Event) → events ≡ before ++ event ∷ behind → xs ≡ before ++ event ∷ (behind ++ ys)
    longer before behind event is = all ∙ (ap (λ (zs : List Event). zs ++ ys) is ∙ append_assoc before (event ∷ behind) ys)

-- by induction over the number of events
none_up_to : (run : Run) (numbers : Key → ℕ) (n : ℕ) (events more : List Event) (outcome : Outcome) (writes : List (Key × NumberedRec)) → length events < n
    → Follow run (opening run numbers) (events ++ Recomputes outcome writes ∷ more) → IsForwarding (opening run numbers) events → ⊥
none_up_to run numbers zero events more outcome writes short h forwarding = absurd (omega (arith, short))
none_up_to run numbers (suc n) events more outcome writes short h forwarding =
    let again : List Event = Recomputes outcome writes ∷ more in
    let may = (follow_right run (opening run numbers) events again h).0 in
    let went : Follow run (opening run numbers) events = follow_left run (opening run numbers) events again h in
    let none : NoneAgain events =
    λ before behind other entries is.
    (let shorter : length events ≡ length before + length (Recomputes other entries ∷ behind) = ap length is ∙ length-append before (Recomputes other entries ∷ behind) in
    none_up_to run numbers n before behind other entries (omega (arith, shorter, short)) (subst (Follow run (opening run numbers)) is went) (forwarding_first (opening run numbers) events before (Recomputes other entries ∷ behind) is forwarding)) in
    not_stale run numbers events went may.0 none forwarding may.1

pub none_is_computed_again : NoneIsComputedAgain
none_is_computed_again run numbers events more outcome writes = none_up_to run numbers (length events + 1) events more outcome writes (omega arith)
