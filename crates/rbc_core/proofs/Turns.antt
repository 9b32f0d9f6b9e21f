-- What is true where the next input is about to be committed.
use Rattle.std.proofs.Common.{◌≡◌, ℕ, ◌<◌, ◌≤◌, Bool, List, length, set, Option, Some, refl, sym, ap, ◌∙◌, subst, arith}
use Rattle.std.specs.Prelude.{slice_get}
use Rattle.std.proofs.lemmas.List.{length-set}
use Rattle.rbc_records.specs.declared.record.Key.{Key}
use Rattle.rbc_records.specs.declared.record.Rec.{Rec}
use Rattle.rbc_versions.specs.Log.{LogName, Shown}
use Rattle.rbc_desk.specs.Held.{max_results}
use Rattle.rbc_core.specs.declared.book.Commit.TheVariants.{Done}
use Rattle.rbc_core.specs.declared.stage.Stage.{Stage}
use Rattle.rbc_core.specs.declared.stage.Stage.TheVariants.{Void}
use Rattle.rbc_core.specs.Runs.{Run}
use Rattle.rbc_core.specs.Core.{Try, State}
use Rattle.rbc_core.specs.Events.{Commits}
use Rattle.rbc_core.specs.Books.{ArePresent, IsKept, IsJudged, Judges}
use Rattle.rbc_core.proofs.Books.{same_item}

-- it has an index among the stages, also where its own was taken out, and there is room for its result
pub front_within : (run : Run) (s : State) → IsKept run s → s.committed < length run.inputs → s.committed < length s.stages
front_within run s b more = let all = b.all in omega (arith, all, more)

pub front_still : (run : Run) (s : State) (xs : List (Stage Try)) → IsKept run s → s.committed < length run.inputs → xs ≡ set s.stages s.committed Void → s.committed < length xs
front_still run s xs b more void =
    let same : length xs ≡ length run.inputs = ap length void ∙ (length-set s.stages s.committed Void ∙ b.all) in
    omega (arith, same, more)

pub front_room : (run : Run) (s : State) → IsKept run s → s.committed < length run.inputs → length s.desk.results < max_results
front_room run s b more =
    let results = b.results in
    let few = b.good.few in
    omega (arith, results, few, more)

-- the stage that is taken out is the one that was judged
pub judged_stage : (xs : List (Stage Try)) (i : ℕ) (tickets : List (Key × Shown)) (answer : Option Bool) (stage : Stage Try) → IsJudged xs i tickets answer → slice_get xs i ≡ Some stage → Judges tickets stage answer
judged_stage xs i tickets answer stage can at = subst (λ (g : Stage Try). Judges tickets g answer) (same_item xs i can.0 stage can.1 at) can.2

-- what is present is so in the log of the run
pub present_in : (log other : LogName) (tickets : List (Key × Shown)) (records : Key → Option Rec) → log ≡ other → ArePresent other tickets records → ArePresent log tickets records
present_in log other tickets records same present = subst (λ (l : LogName). ArePresent l tickets records) (sym same) present

-- every input is committed
pub ends : (run : Run) (s old : State) → s ≡ old → IsKept run s → length run.inputs ≤ s.committed → Commits run old Done old
ends run s old is b past =
    let turn = b.in_turn in
    let range = b.in_range in
    subst (λ (o : State). Commits run o Done o) is (record { may = omega (arith, turn, range, past); leads = refl })
