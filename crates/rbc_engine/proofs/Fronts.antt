-- The next input is given up where nobody will deposit it, and then committed.
use Rattle.std.proofs.Common.{◌≡◌, ℕ, ◌+◌, ◌-◌, ◌<◌, ◌≤◌, Bool, true, false, length, get_or, Option, Some, None, inl, inr, ⊎_elim, refl, sym, ap, ◌∙◌, subst, arith}
use Rattle.std.specs.Prelude.{slice_get}
use Rattle.std.proofs.lemmas.Option.{slice_get_cases, slice_get_within}
use Rattle.rbc_rule.specs.declared.input.Input.{Input}
use Rattle.rbc_core.specs.declared.book.Commit.TheVariants.{NotReady}
use Rattle.rbc_core.specs.declared.stage.Stage.{Stage}
use Rattle.rbc_core.specs.declared.stage.Stage.TheVariants.{Free, Out, Tried, Void}
use Rattle.rbc_core.specs.Runs.{Run, IsInput}
use Rattle.rbc_core.specs.Core.{Try, State, IsAt, IsReady, front}
use Rattle.rbc_core.specs.Books.{IsStage}
use Rattle.rbc_core.specs.Events.{Happens}
use Rattle.rbc_core.specs.Events.Event.{Takes, Voids}
use Rattle.rbc_core.proofs.Books.{slice_get_at, at_index}
use Rattle.rbc_engine.specs.Fronts.{IsWaiting, IsGivenUp, IsNext}

-- a next input that is not ready and not out was not taken
stage_not_taken : (s : State) (g : Stage Try) → ¬ (IsReady s) → ¬ (IsAt s (front s) Out) → slice_get s.stages s.committed ≡ Some g → IsStage s.committed s.taken s.committed g → s.taken ≤ s.committed
stage_not_taken s Free ready out at stage = ⊎_elim (λ (q : s.committed < s.committed). absurd (omega (arith, q))) (λ (q : s.taken ≤ s.committed). q) stage
stage_not_taken s Out ready out at stage = absurd (out (at_index s s.committed (front s) Out refl stage.0 stage.1 at))
stage_not_taken s (Tried a) ready out at stage = absurd (ready (inl (a, at_index s s.committed (front s) (Tried a) refl stage.0 stage.1 at)))
stage_not_taken s Void ready out at stage = absurd (ready (inr (at_index s s.committed (front s) Void refl stage.0 stage.1 at)))

not_taken : (run : Run) (s : State) → IsWaiting run s → ¬ (IsAt s (front s) Out) → s.taken ≤ s.committed
not_taken run s wait out =
    ⊎_elim
    (λ (q : (g : Stage Try) × (s.committed < length s.stages) × (slice_get s.stages s.committed ≡ Some g) × (get_or s.stages s.committed g ≡ g)). stage_not_taken s q.0 wait.unready out q.2 (wait.book.stages s.committed q.0 q.2))
    (λ (q : (length s.stages ≤ s.committed) × (slice_get s.stages s.committed ≡ None)). let past = q.0 in let all = wait.book.all in let few = wait.more in absurd (omega (arith, past, all, few)))
    (slice_get_cases s.stages s.committed).1

-- the next input is out, and given up
pub gives_up : (run : Run) (s t : State) (number : ℕ) → number ≡ front s → s.closed ≡ false → Happens run s (Voids number true) t → IsGivenUp s t
gives_up run s t number is opened gave =
    let committed : t.committed ≡ s.committed = ap (λ (x : State). x.committed) gave.leads in
    let taken : t.taken ≡ s.taken = ap (λ (x : State). x.taken) gave.leads in
    let high = gave.may.taken in
    let within : number - 1 < length s.stages = slice_get_within s.stages (number - 1) Out gave.may.at in
    let at : slice_get t.stages (number - 1) ≡ Some Void = ap (λ (x : State). slice_get x.stages (number - 1)) gave.leads ∙ slice_get_at s.stages (number - 1) Void within in
    let same : number ≡ front t = omega (arith, is, committed) in (
      ap (λ (x : State). x.closed) gave.leads ∙ opened,
      committed,
      record {
        uncommitted = omega arith;
        taken = omega (arith, high, taken, same);
        at = ap (λ n. slice_get t.stages (n - 1)) (sym same) ∙ at;
      },
    )

gives_up_taken : (run : Run) (t u : State) (number : ℕ) (done : Bool) → number ≡ front t → t.closed ≡ false → IsAt t number Out → Happens run t (Voids number done) u → IsGivenUp t u
gives_up_taken run t u number true is opened out gave = gives_up run t u number is opened gave
gives_up_taken run t u number false is opened out gave = absurd (gave.may out)

after_take : (s t u : State) → t.committed ≡ s.committed → IsGivenUp t u → IsGivenUp s u
after_take s t u same gave = (gave.0, gave.1 ∙ same, gave.2)

-- the next input was not taken: it is taken, and given up
pub takes_and_gives_up : (run : Run) (s t u : State) (answer : Option ℕ) (number : ℕ) (done : Bool) → number ≡ front s → IsWaiting run s → ¬ (IsAt s number Out)
    → Happens run s (Takes answer) t → Happens run t (Voids number done) u → IsGivenUp s u
takes_and_gives_up run s t u None number done is wait out took gave =
    let low : s.taken ≤ s.committed = not_taken run s wait (subst (λ n. ¬ (IsAt s n Out)) is out) in
    let all : s.taken ≡ length run.inputs = ⊎_elim (λ (q : s.taken ≡ length run.inputs). q) (λ (q : s.closed ≡ true). absurd (let opened = wait.unclosed in cc (q, opened))) took.may in
    let few = wait.more in
    absurd (omega (arith, low, all, few))
takes_and_gives_up run s t u (Some k) number done is wait out took gave =
    let low : s.taken ≤ s.committed = not_taken run s wait (subst (λ n. ¬ (IsAt s n Out)) is out) in
    let turn = wait.book.in_turn in
    let is_k : k ≡ s.taken + 1 = took.may.2 in
    let same : number ≡ k = omega (arith, is, is_k, low, turn) in
    let committed : t.committed ≡ s.committed = ap (λ (x : State). x.committed) took.leads in
    let taken : t.taken ≡ s.taken + 1 = ap (λ (x : State). x.taken) took.leads in
    let more = took.may.1 in
    let all = wait.book.all in
    let within : k - 1 < length s.stages = omega (arith, is_k, more, all) in
    let at : slice_get t.stages (number - 1) ≡ Some Out = ap (λ n. slice_get t.stages (n - 1)) same ∙ (ap (λ (x : State). slice_get x.stages (k - 1)) took.leads ∙ slice_get_at s.stages (k - 1) Out within) in
    let is_out : IsAt t number Out = record { uncommitted = omega (arith, is, committed); taken = omega (arith, taken, same, is_k); at = at } in
    let is_front : number ≡ front t = omega (arith, is, committed) in
    after_take s t u committed (gives_up_taken run t u number done is_front (ap (λ (x : State). x.closed) took.leads ∙ wait.unclosed) is_out gave)

-- what a commit does where the next input is ready
below : (run : Run) (n : ℕ) (input : Input) → IsInput run (n + 1) input → n < length run.inputs
below run n input is = let within = slice_get_within run.inputs (n + 1 - 1) input is.there in omega (arith, within)

-- the next input was not taken, and is not the first: the stretch ends before it
pub left_untaken : (run : Run) (s t : State) (number : ℕ) → number ≡ front s → IsWaiting run s → ¬ (IsAt s number Out) → 1 < number → t ≡ s → IsNext run s NotReady t
left_untaken run s t number is wait out later same =
    let low : s.taken ≤ s.committed = not_taken run s wait (subst (λ n. ¬ (IsAt s n Out)) is out) in
    let turn = wait.book.in_turn in
    (same, omega (arith, low, turn), omega (arith, is, later))
