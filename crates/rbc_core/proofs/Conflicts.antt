-- Each input that is recomputed was given up, or something that was read for it was overtaken or misled.
use Rattle.std.proofs.Common.{◌≡◌, ◌≢◌, ◌⊎◌, ℕ, ◌+◌, ◌-◌, ◌<◌, ◌≤◌, Bool, true, false, eqb, List, [], ◌∷◌, ◌++◌, length, Some, inl, inr, refl, sym, ap, ◌∙◌, subst, append_assoc, arith}
use Rattle.std.specs.Prelude.{Contains, slice_get}
use Rattle.std.proofs.lemmas.Bool.{eqb-true, eqb-false}
use Rattle.std.proofs.lemmas.List.Elements.{All-nil, All-cons, Contains-append_right, Contains-get_or}
use Rattle.rbc_records.specs.declared.record.Key.{Key}
use Rattle.rbc_versions.specs.Entries.{NumberedRec, AreCurrent, number_for}
use Rattle.rbc_rule.specs.declared.outcome.Outcome.{Outcome}
use Rattle.rbc_core.specs.declared.stage.Stage.{Stage}
use Rattle.rbc_core.specs.declared.stage.Stage.TheVariants.{Free, Tried, Void}
use Rattle.rbc_core.specs.Runs.{Run}
use Rattle.rbc_core.specs.Core.{Try, State, opening, IsAt, front, IsStale}
use Rattle.rbc_core.specs.Events.{Event, Follow, next, IsForwarded}
use Rattle.rbc_core.specs.Events.Event.{Reads, Deposits, Applies, Recomputes}
use Rattle.rbc_core.specs.Conflicts.{after, Writes, AreAnswered, WasVoided, IsComputedAgain, IsOvertaken, IsMisled, IsExplained, EachIsExplained}
use Rattle.rbc_core.proofs.Books.{slice_get_replicate}
use Rattle.rbc_core.proofs.Fates.{after_append, follow_left, follow_right, IsWritten, changed, WasDeposited, was_deposited, was_voided, number_put, IsCommitted, fate}

-- one of the entries has a number that is not the present one
abbrev HasOther : List (Key × NumberedRec) → (Key → ℕ) → Type 0
HasOther entries numbers = (entry : Key × NumberedRec) × Contains entries entry × (entry.1.number ≢ numbers entry.0)

-- where not all numbers are the present ones, one is not
pub not_current : (entries : List (Key × NumberedRec)) (numbers : Key → ℕ) → ¬ (AreCurrent entries numbers) → HasOther entries numbers
not_current [] numbers stale = absurd (stale (All-nil (λ (entry : Key × NumberedRec). entry.1.number ≡ numbers entry.0)))
not_current (entry ∷ entries) numbers stale = by (eqb entry.1.number (numbers entry.0)) refl (not_current entries numbers)
  where
    by : (b : Bool) → eqb entry.1.number (numbers entry.0) ≡ b → (¬ (AreCurrent entries numbers) → HasOther entries numbers) → HasOther (entry ∷ entries) numbers
    by true is rest =
        let other = rest (λ all. stale (All-cons (λ (e : Key × NumberedRec). e.1.number ≡ numbers e.0) entry entries (eqb-true entry.1.number (numbers entry.0) is) all)) in
        (other.0, Contains-append_right (entry ∷ []) entries other.0 other.1, other.2)
    by false is rest = (entry, Contains-get_or (entry ∷ entries) 0 entry (omega arith), eqb-false entry.1.number (numbers entry.0) is)

-- ---- a number that was read, and is not the present one after these events: s is the state at its read

module _ (run : Run) (s : State) (since : List Event) (k : Key) (answer : ℕ) (h : Follow run s since) (stale : answer ≢ (after s since).present k) where
  -- it was the present number
  overtaken_since : answer ≡ s.present k → IsWritten s since k
  overtaken_since was = by (changed run s since k h)
    where
      by : ((after s since).present k ≡ s.present k) ⊎ IsWritten s since k → IsWritten s since k
      by (inl same) = absurd (stale (was ∙ sym same))
      by (inr written) = written

  -- after its input was recomputed, or an input behind that one was committed that wrote the key
  abbrev IsMisledBy : ℕ → Type 0
  IsMisledBy earlier = IsComputedAgain s since earlier ⊎ ((number : ℕ) × (earlier < number) × (number ≤ (after s since).committed) × Writes s since number k)

  -- it was what an attempt at an earlier input puts there, which was applied
  applied_since : (earlier : ℕ) (other : Try) (before behind : List Event) (outcome : Outcome) → number_for other.writes k ≡ Some answer → since ≡ before ++ Applies outcome other.writes ∷ behind
      → front (after s before) ≡ earlier → IsMisledBy earlier
  applied_since earlier other before behind outcome wrote are turn = by (changed run t behind k (follow_right run s before (commit ∷ behind) (subst (Follow run s) are h)).1)
    where
      commit : Event
      commit = Applies outcome other.writes

      t : State
      t = next (after s before) commit

      last : after s since ≡ after t behind
      last = ap (after s) are ∙ after_append s before (commit ∷ behind)

      by : ((after t behind).present k ≡ t.present k) ⊎ IsWritten t behind k → IsMisledBy earlier
      by (inl same) = absurd (stale (sym (ap (λ (x : State). x.present k) last ∙ (same ∙ number_put other.writes (after s before).present k answer wrote))))
      by (inr (number, above, below, (first, writer, rest, is, at, named))) =
          let here : after t first ≡ after s (before ++ commit ∷ first) = sym (after_append s before (commit ∷ first)) in
          let all : since ≡ (before ++ commit ∷ first) ++ writer ∷ rest = are ∙ (ap (λ (xs : List Event). before ++ commit ∷ xs) is ∙ sym (append_assoc before (commit ∷ first) (writer ∷ rest))) in
          let count : (after s since).committed ≡ (after t behind).committed = ap (λ (x : State). x.committed) last in
          let raised : t.committed ≡ earlier = turn in
          inr (number, omega (arith, above, raised), omega (arith, below, count), (before ++ commit ∷ first, writer, rest, all, ap front (sym here) ∙ at, named))

  -- it was what an attempt at an earlier input puts there, which is committed now
  misled_since : (earlier : ℕ) (other : Try) → (after s since).closed ≡ false → earlier ≤ (after s since).committed → IsAt s earlier (Tried other) → number_for other.writes k ≡ Some answer → IsMisledBy earlier
  misled_since earlier other live past at wrote = by (fate run s since earlier other h at live)
    where
      by : IsAt (after s since) earlier (Tried other) ⊎ IsCommitted s since earlier other → IsMisledBy earlier
      by (inl there) = let low = there.uncommitted in absurd (omega (arith, low, past))
      by (inr (before, commit, behind, are, turn, raised, inl (outcome, is))) = applied_since earlier other before behind outcome wrote (are ∙ ap (λ (e : Event). before ++ e ∷ behind) is) turn
      by (inr (before, commit, behind, are, turn, raised, inr (outcome, writes, is))) = inl (before, outcome, writes, behind, are ∙ ap (λ (e : Event). before ++ e ∷ behind) is, turn)

-- all that came to a book since it was opened, and where it stands now
module _ (run : Run) (numbers : Key → ℕ) (events : List Event) (h : Follow run (opening run numbers) events) where
  abbrev start : State
  start = opening run numbers

  abbrev end : State
  end = after (opening run numbers) events

  -- at the opening each input is still to be taken
  pub none_yet : (k : ℕ) (x : Stage Try) → (x ≡ Free → ⊥) → slice_get start.stages k ≡ Some x → ⊥
  none_yet k x other at = other (slice_get_replicate (length run.inputs) k Free x at)

  -- a note of the attempt at the next input, whose number is not the present one any more
  module _ (a : Try) (note : Key × NumberedRec) (live : end.closed ≡ false) (stale : note.1.number ≢ end.present note.0) where
    explained_after : (before behind first second : List Event) → a.number ≡ front end → events ≡ before ++ Deposits a true ∷ behind → before ≡ first ++ Reads a.number note.0 note.1.number ∷ second
        → IsOvertaken start events a note ⊎ IsMisled start events a note
    explained_after before behind first second number is was = by went.0
      where
        since : List Event
        since = second ++ Deposits a true ∷ behind

        read : Event
        read = Reads a.number note.0 note.1.number

        all : events ≡ first ++ read ∷ since
        all = is ∙ (ap (λ (xs : List Event). xs ++ Deposits a true ∷ behind) was ∙ append_assoc first (read ∷ second) (Deposits a true ∷ behind))

        s : State
        s = after start first

        last : end ≡ after s since
        last = ap (after start) all ∙ after_append start first (read ∷ since)

        went : Follow run s (read ∷ since)
        went = follow_right run start first (read ∷ since) (subst (Follow run start) all h)

        other : note.1.number ≢ (after s since).present note.0
        other e = stale (e ∙ ap (λ (x : State). x.present note.0) (sym last))

        count : end.committed ≡ (after s since).committed
        count = ap (λ (x : State). x.committed) last

        by : (note.1.number ≡ s.present note.0) ⊎ IsForwarded s a.number note.0 note.1.number → IsOvertaken start events a note ⊎ IsMisled start events a note
        by (inl present) =
            let written = overtaken_since run s since note.0 note.1.number went.1 other present in
            let below = written.2 in
            inl (first, second, behind, all, (sym present, (written.0, omega (arith, below, count, number), written.3)))
        by (inr (earlier, b, before_it, at, wrote)) = inr (
          first,
          second,
          behind,
          all,
          (
            earlier,
            b,
            before_it,
            at,
            wrote,
            misled before_it (
                misled_since run s since note.0 note.1.number went.1 other earlier b (ap (λ (x : State). x.closed) (sym last) ∙ live) (omega (arith, before_it, number, count)) at wrote
                ),
          ),
        )
          where
            misled : earlier < a.number → IsComputedAgain s since earlier ⊎ ((n : ℕ) × (earlier < n) × (n ≤ (after s since).committed) × Writes s since n note.0)
                → IsComputedAgain s since earlier ⊎ ((n : ℕ) × (earlier < n) × (n < a.number) × Writes s since n note.0)
            misled low (inl again) = inl again
            misled low (inr (n, above, below, written)) = inr (n, above, omega (arith, below, count, number), written)

    explained_by : AreAnswered events → IsAt end (front end) (Tried a) → Contains a.notes note → IsOvertaken start events a note ⊎ IsMisled start events a note
    explained_by answered at has = by (was_deposited run start events (front end - 1) a h at.at)
      where
        by : (slice_get start.stages (front end - 1) ≡ Some (Tried a)) ⊎ ((a.number ≡ front end - 1 + 1) × WasDeposited events a) → IsOvertaken start events a note ⊎ IsMisled start events a note
        by (inl there) = absurd (none_yet (front end - 1) (Tried a) (λ e. absurd (cc e)) there)
        by (inr (number, (before, behind, is))) =
            let read = answered before behind a is note has in
            explained_after before behind read.0 read.1 (omega (arith, number)) is read.2

  pub voided : end.closed ≡ false → IsAt end (front end) Void → WasVoided events (front end)
  voided live at = by (was_voided run start events (front end - 1) h live at.at)
    where
      by : (slice_get start.stages (front end - 1) ≡ Some Void) ⊎ WasVoided events (front end - 1 + 1) → WasVoided events (front end)
      by (inl there) = absurd (none_yet (front end - 1) Void (λ e. absurd (cc e)) there)
      by (inr was) = subst (WasVoided events) (omega arith) was

  explained : AreAnswered events → end.closed ≡ false → IsStale end → IsExplained start events
  explained answered live (inl void) = inl (voided live void)
  explained answered live (inr (a, at, stale)) = let (note, has, other) = not_current a.notes end.present stale in inr (a, at, (note, has, explained_by a note live other answered at has))

pub each_is_explained : EachIsExplained
each_is_explained run numbers events more outcome writes h answered =
    let again : List Event = Recomputes outcome writes ∷ more in
    let may = (follow_right run (opening run numbers) events again h).0 in
    explained run numbers events (follow_left run (opening run numbers) events again h) answered may.0 may.1
