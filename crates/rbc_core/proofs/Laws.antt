-- Each event keeps what is true of a book, that its attempts are right, and that its numbers mean what stands there.
use Rattle.std.proofs.Common.{◌≡◌, ◌≢◌, ℕ, ◌+◌, ◌-◌, ◌<◌, ◌≤◌, true, false, List, [], ◌∷◌, length, set, Some, None, inl, inr, sym, subst, ⊎_elim, arith}
use Rattle.std.specs.Prelude.{slice_get}
use Rattle.std.specs.List.{fold, All}
use Rattle.std.proofs.lemmas.List.Elements.{All-head, All-tail}
use Rattle.rbc_records.specs.declared.record.Key.{Key}
use Rattle.rbc_versions.specs.Entries.{NumberedRec, AreOfWrites, numbers_after}
use Rattle.rbc_rule.specs.declared.outcome.Outcome.{Outcome}
use Rattle.rbc_desk.specs.Held.{IsOutcomeOf, after_outcome}
use Rattle.rbc_core.specs.declared.stage.Stage.{Stage}
use Rattle.rbc_core.specs.declared.stage.Stage.TheVariants.{Free, Out, Tried, Void}
use Rattle.rbc_core.specs.Runs.{Run, IsGoodRun, IsInput}
use Rattle.rbc_core.specs.Core.{Try, IsRightTry, State, opening, IsAt, front, IsReady, IsStale, with_stage}
use Rattle.rbc_core.specs.Books.{IsKept}
use Rattle.rbc_core.specs.Events.{Event, May, next, Follow, Meaning, AreMeant, IsMeant, IsOpeningIn, EventsAreSerial}
use Rattle.rbc_core.specs.Events.Event.{Publishes, Takes, Reads, Deposits, Voids, Applies, Recomputes, Waits, Ends, Fails}
use Rattle.rbc_core.proofs.Books.{slice_get_set, slice_get_replicate, opens, takes, keeps, closes, committed, commits, front_index}
use Rattle.rbc_core.proofs.Agreeing.{right_outcome}
use Rattle.rbc_core.proofs.Meanings.{Mean, current_now, mean_committed}

-- where an input that is at a stage stands
index : (s : State) (number : ℕ) (x : Stage Try) → IsAt s number x → (s.committed ≤ number - 1) × (number - 1 < s.taken) × (number ≡ number - 1 + 1)
index s number x at = let low = at.uncommitted in let high = at.taken in (omega (arith, low), omega (arith, low, high), omega (arith, low))

-- the next input is ready only where it is taken
ready_turn : (s : State) → IsReady s → s.committed < s.taken
ready_turn s h = ⊎_elim (λ (q : (a : Try) × IsAt s (front s) (Tried a)). let high = q.1.taken in omega (arith, high)) (λ (q : IsAt s (front s) Void). let high = q.taken in omega (arith, high)) h

-- and so where it is stale
stale_turn : (s : State) → IsStale s → s.committed < s.taken
stale_turn s (inl void) = let high = void.taken in omega (arith, high)
stale_turn s (inr (a, at, other)) = let high = at.taken in omega (arith, high)

module _ (run : Run) (means : Meaning) where
  -- an attempt that is kept is right, and its numbers are meant
  abbrev IsSoundTry : Try → Type 0
  IsSoundTry a = IsRightTry run a × AreMeant means a.notes × AreMeant means a.writes

  abbrev AreSound : List (Stage Try) → Type 0
  AreSound stages = (k : ℕ) (a : Try) → slice_get stages k ≡ Some (Tried a) → IsSoundTry a

  record IsSound (s : State) : Type 0 where
    kept : IsKept run s
    tries : AreSound s.stages
    mean : Mean means s.present s.desk.records

  sound_set : (xs : List (Stage Try)) (i : ℕ) (x : Stage Try) → AreSound xs → ((a : Try) → x ≡ Tried a → IsSoundTry a) → AreSound (set xs i x)
  sound_set xs i x old new k a e = ⊎_elim (λ (q : (k ≡ i) × (x ≡ Tried a)). new a q.1) (λ (q : (k ≢ i) × (slice_get xs k ≡ Some (Tried a))). old k a q.1) (slice_get_set xs i k x (Tried a) e)

  -- the next input is committed
  once : (s : State) (outcome : Outcome) (writes : List (Key × NumberedRec)) (recomputed : ℕ) → IsSound s → s.committed < s.taken → ((input : _) × IsInput run (s.committed + 1) input × IsOutcomeOf run.track input s.desk.records outcome)
      → AreOfWrites writes outcome.writes → AreMeant means writes → recomputed ≤ s.committed + 1
      → IsSound (committed s (after_outcome s.desk outcome) (λ k. numbers_after writes s.present k) (with_stage s (front s) Free) recomputed)
  once s outcome writes recomputed b turn i are meant few = record {
    kept = subst (λ n. IsKept run (committed s (after_outcome s.desk outcome) (λ k. numbers_after writes s.present k) (set s.stages n Free) recomputed)) (front_index s)
        (commits run s i.0 outcome (λ k. numbers_after writes s.present k) recomputed b.kept turn i.1 i.2 few);
    tries = sound_set s.stages (front s - 1) Free b.tries (λ a x. absurd (cc x));
    mean = mean_committed means writes outcome.writes s.present s.desk.records b.mean meant are;
  }

  next_sound : (s : State) (event : Event) → IsSound s → May run s event → IsMeant means event → IsSound (next s event)
  next_sound s (Publishes number version) b h m = b
  next_sound s (Takes None) b h m = b
  next_sound s (Takes (Some number)) b h m =
      let at : number - 1 ≡ s.taken = let is = h.2 in omega (arith, is) in
      record { kept = takes run s (number - 1) b.kept at h.1; tries = sound_set s.stages (number - 1) Out b.tries (λ a e. absurd (cc e)); mean = b.mean }
  next_sound s (Reads number key answer) b h m = b
  next_sound s (Deposits a true) b h m =
      let i = index s a.number Out h.1 in
      record {
        kept = keeps run s (a.number - 1) (Tried a) b.kept (i.0, i.1, i.2);
        tries = sound_set s.stages (a.number - 1) (Tried a) b.tries (λ x e. let same : a ≡ x = cc e in subst IsSoundTry same (h.0, m.0, m.1));
        mean = b.mean;
      }
  next_sound s (Deposits a false) b h m = b
  next_sound s (Voids number true) b h m =
      let i = index s number Out h in
      record { kept = keeps run s (number - 1) Void b.kept (i.0, i.1); tries = sound_set s.stages (number - 1) Void b.tries (λ a e. absurd (cc e)); mean = b.mean }
  next_sound s (Voids number false) b h m = b
  next_sound s (Applies outcome writes) b (opened, (a, at, current, same, numbers)) m =
      let sound = b.tries (front s - 1) a at.at in
      let number = (b.kept.stages (front s - 1) (Tried a) at.at).2 in
      let here : a.number ≡ s.committed + 1 = omega (arith, number) in
      let turn : s.committed < s.taken = let high = at.taken in omega (arith, high) in
      let out = right_outcome run a s.committed s.desk.records sound.0 here (current_now means a.notes s.present s.desk.records b.mean sound.1 current) in
      let are : AreOfWrites a.writes outcome.writes = subst (λ (o : Outcome). AreOfWrites a.writes o.writes) (sym same) sound.0.writes in
      let counted = b.kept.counted in
      once s outcome writes s.recomputed b turn (out.0, out.1, subst (IsOutcomeOf run.track out.0 s.desk.records) (sym same) out.2) (subst (λ (w : List (Key × NumberedRec)). AreOfWrites w outcome.writes) (sym numbers) are)
      (subst (AreMeant means) (sym numbers) sound.2) (omega (arith, counted))
  next_sound s (Recomputes outcome writes) b (opened, stale, input, are) m = let counted = b.kept.counted in once s outcome writes (s.recomputed + 1) b (stale_turn s stale) input are m (omega (arith, counted))
  next_sound s Waits b h m = b
  next_sound s Ends b h m = b
  next_sound s (Fails true) b h m = record { kept = closes run s b.kept; tries = b.tries; mean = b.mean }
  next_sound s (Fails false) b h m =
      let turn = ready_turn s h.1 in
      let t : State = record s { stages = with_stage s (front s) Void } in
      record {
        kept = closes run t (keeps run s (front s - 1) Void b.kept (omega arith, omega (arith, turn)));
        tries = sound_set s.stages (front s - 1) Void b.tries (λ a e. absurd (cc e));
        mean = b.mean;
      }

  follow_sound : (events : List Event) (s : State) → IsSound s → All (IsMeant means) events → Follow run s events → IsSound (fold next s events)
  follow_sound [] s b all h = b
  follow_sound (event ∷ events) s b all h =
      follow_sound events (next s event) (next_sound s event b h.0 (All-head (IsMeant means) event events all)) (All-tail (IsMeant means) event events all) h.1

  opening_sound : (numbers : Key → ℕ) → IsGoodRun run → IsOpeningIn means run numbers → IsSound (opening run numbers)
  opening_sound numbers good mean = record {
    kept = opens run numbers good;
    tries = λ k a e. absurd (cc (slice_get_replicate (length run.inputs) k Free (Tried a) e));
    mean = mean;
  }

pub events_are_serial : EventsAreSerial
events_are_serial run means numbers events good mean all h = (follow_sound run means events (opening run numbers) (opening_sound run means numbers good mean) all h).kept.serial
