-- What a run leaves.
use Rattle.std.proofs.Common.{◌≡◌, ◌⊎◌, ℕ, ◌<◌, length, Result, Ok, Err, inl, inr, ⊎_elim, ap, sym, ◌∙◌, subst, arith}
use Rattle.rbc_core.specs.Held.{Held, standing}
use Rattle.rbc_core.specs.declared.book.Stats.{Stats}
use Rattle.rbc_core.specs.Runs.{Run, IsGoodRun, IsSerialRun, IsSaidSince}
use Rattle.rbc_core.specs.Core.{State}
use Rattle.rbc_core.specs.Books.{BookValue, state_of, IsKept}
use Rattle.rbc_core.proofs.Mails.{said_since}
use Rattle.rbc_engine.specs.declared.workers.RunError.{RunError}
use Rattle.rbc_engine.specs.declared.workers.RunError.TheVariants.{Workers, TooManyInputs, OutOfMemory}
use Rattle.rbc_engine.specs.Fronts.{IsAtItsEnd}
use Rattle.rbc_engine.specs.Answers.{IsOpening, IsDeskAfter, IsStretch, IsFinished, MayWork, AreFew, IsRun}

-- before the first input
pub desk_before : (run : Run) → IsGoodRun run → IsDeskAfter run 0 run.opening
desk_before run good = let serial : IsSerialRun run 0 (standing run.opening) = λ desk h. h in (serial, said_since run 0 (standing run.opening) good serial)

-- the inputs that were taken are committed, and these are all or some
some_or_all : (run : Run) (s : State) → IsKept run s → IsAtItsEnd run s → (s.taken ≡ s.committed) × ((s.committed ≡ length run.inputs) ⊎ (0 < s.committed))
some_or_all run s b end =
    ⊎_elim
    (λ (all : s.committed ≡ length run.inputs). let turn = b.in_turn in let range = b.in_range in (omega (arith, all, turn, range), inl all))
    (λ (some : (s.taken ≡ s.committed) × (0 < s.committed)). (some.0, inr some.1))
    end

pub done : (run : Run) (book : BookValue) (held : Held) (stats : Stats) → IsAtItsEnd run (state_of book) → stats ≡ record { taken = book.taken; recomputed = book.recomputed }
    → IsKept run (state_of book) → IsSerialRun run book.committed (standing held) → IsSaidSince run book.committed held.outboxes → IsStretch run (Ok stats) held
done run book held stats end is b serial said =
    let ends = some_or_all run (state_of book) b end in
    let taken : stats.taken ≡ book.taken = ap (λ (s : Stats). s.taken) is in
    let recomputed : stats.recomputed ≡ book.recomputed = ap (λ (s : Stats). s.recomputed) is in
    let all : stats.taken ≡ book.committed = taken ∙ ends.0 in
    let range = b.in_range in
    let counted = b.counted in (
      (subst (λ n. IsSerialRun run n (standing held)) (sym all) serial, subst (λ n. IsSaidSince run n held.outboxes) (sym all) said),
      omega (arith, taken, range),
      subst (λ n. (n ≡ length run.inputs) ⊎ (0 < n)) (sym all) ends.1,
      omega (arith, all, recomputed, counted),
    )

-- memory was refused after some
pub stopped : (run : Run) (book : BookValue) (held : Held) (committed : ℕ) → committed ≡ book.committed → IsKept run (state_of book) → IsSerialRun run book.committed (standing held) → IsSaidSince run book.committed held.outboxes
    → IsStretch run (Err (OutOfMemory committed)) held
stopped run book held committed is b serial said =
    let turn = b.in_turn in
    let range = b.in_range in
    ((subst (λ n. IsSerialRun run n (standing held)) (sym is) serial, subst (λ n. IsSaidSince run n held.outboxes) (sym is) said), omega (arith, is, turn, range))

-- a run can go on from the desk that it left
opened_after : (run : Run) (count : ℕ) (held : Held) → IsOpening run.track run.opening → IsDeskAfter run count held → IsOpening run.track held
opened_after run count held old after = (_, after.0 old.0 old.1)

pub opened : (run : Run) (answer : Result Stats RunError) (held : Held) → IsOpening run.track run.opening → IsFinished run answer held → IsOpening run.track held
opened run (Ok stats) held old h = opened_after run (length run.inputs) held old h.0
opened run (Err (OutOfMemory committed)) held old h = opened_after run committed held old h.0
opened run (Err Workers) held old h = absurd h
opened run (Err TooManyInputs) held old h = absurd h

-- a run that was not refused
pub ran : (run : Run) (workers : ℕ) (answer : Result Stats RunError) (held : Held) → MayWork workers → AreFew run → IsFinished run answer held → IsRun run workers answer held
ran run workers (Ok stats) held may few h = (may, few, h)
ran run workers (Err (OutOfMemory committed)) held may few h = (may, few, h)
ran run workers (Err Workers) held may few h = absurd h
ran run workers (Err TooManyInputs) held may few h = absurd h
