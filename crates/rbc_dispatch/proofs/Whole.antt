-- What comes of the program as a whole.
use Rattle.std.proofs.Common.{◌≡◌, ◌⊎◌, ℕ, List, Option, Result, Ok, Err, OnOk, IfErr, sym, ◌∙◌, subst, inl, inr}
use Rattle.std.proofs.lemmas.Bool.{cases_eq}
use Rattle.clap.specs.Words.{kind_of}
use Rattle.rbc_dispatch.specs.Doing.{Does, IsTaskDone, IsNoTaskDone, IsWholeRun, status_of_task}
use Rattle.rbc_dispatch.specs.Ending.{AtTask, IsNoHelp, status_of}
use Rattle.rbc_dispatch.specs.NoTask.{status_of_kind}
use Rattle.rbc_dispatch.specs.declared.ending.Ending.{Ending}
use Rattle.rbc_dispatch.specs.declared.ending.Ending.TheVariants.{Words, Fault}
use Rattle.rbc_dispatch.specs.declared.fault.Fault.{Fault as AnyFault}
use Rattle.rbc_dispatch.specs.Words.{Asked, Asks}

-- no task was begun
pub no_task_done : {I O : Type 0} (i j : I) (o p : O) (ending : Ending) (status : ℕ) → j ≡ i → (IsNoHelp ending → p ≡ o) → status ≡ status_of ending → IsNoTaskDone i j o p status
no_task_done i j o p (Fault fault) status same kept is = (same, inr (kept tt))
no_task_done i j o p (Words error) status same kept is = (
  same,
  elim (cases_eq (status_of_kind (kind_of error)) 0) [
    | inl help ↦ inl (is ∙ help)
    | inr other ↦ inr (kept other)
  ],
)

module _ {I O : Type 0} (contents : O → Option (List ℕ)) (words : List (List ℕ)) (read_old read_new old : Option (List ℕ)) (i j : I) (o m p : O) (status : ℕ) where
  -- what came of a task, with the output as it is at the end
  task_done : (asked : Asked) → Asks asked words → (came : Result (Unit {0}) AnyFault) → Does asked read_old read_new old (contents m) i j o m came → p ≡ m
      → status ≡ status_of_task came → IsTaskDone read_old read_new old (contents p) i j o p status
  task_done asked asks came does same is = record {
    words = words;
    asked = asked;
    asks = asks;
    came = came;
    does = subst (λ (q : O). Does asked read_old read_new old (contents q) i j o q came) (sym same) does;
    is_status = is;
  }

  pub whole : (outcome : Result (Unit {0}) Ending) → ((asked : Asked) → Asks asked words → AtTask (Does asked read_old read_new old (contents m) i j o m) outcome)
      → OnOk outcome ((asked : Asked) × Asks asked words) → (((asked : Asked) × Asks asked words) ⊎ ((j ≡ i) × (m ≡ o)))
      → OnOk outcome (p ≡ m) → IfErr outcome (λ ending. IsNoHelp ending → p ≡ m)
      → OnOk outcome (status ≡ 0) → IfErr outcome (λ ending. status ≡ status_of ending)
      → IsWholeRun read_old read_new old (contents p) i j o p status
  whole (Ok done) does only begun same kept zero is = inl (task_done only.0 only.1 (Ok done) (does only.0 only.1) same zero)
  whole (Err (Fault fault)) does only (inl it) same kept zero is = inl (task_done it.0 it.1 (Err fault) (does it.0 it.1) (kept tt) is)
  whole (Err (Words error)) does only (inl it) same kept zero is = absurd (does it.0 it.1)
  whole (Err ending) does only (inr untouched) same kept zero is = inr (no_task_done i j o p ending status untouched.0 (λ no_help. kept no_help ∙ untouched.1) is)
