-- A run in which each input is taken in by the desk itself, one after another.
use Rattle.std.proofs.Common.{◌≡◌, ℕ, ◌+◌, ◌<◌, ◌≤◌, List, length, take, Some, Ok, Err, inl, sym, ap, ◌∙◌, subst, arith}
use Rattle.std.specs.Prelude.{slice_get}
use Rattle.std.proofs.lemmas.List.{length-take-le}
use Rattle.std.proofs.lemmas.Option.{get_or_from_slice_get}
use Rattle.rbc_rule.specs.declared.input.Input.{Input}
use Rattle.rbc_rule.specs.declared.outcome.Reply.{Reply}
use Rattle.rbc_core.specs.Serial.{Desk, step, serial}
use Rattle.rbc_core.specs.Held.{Held, Holds, IsTakenIn, standing, max_results}
use Rattle.rbc_core.proofs.Runs.{fold_more}
use Rattle.rbc_core.specs.Runs.{Run, IsGoodRun, IsSerialRun}
use Rattle.rbc_core.proofs.Mails.{said_since}
use Rattle.rbc_core.specs.declared.book.Stats.{Stats}
use Rattle.rbc_engine.specs.declared.workers.RunError.TheVariants.{OutOfMemory}
use Rattle.rbc_engine.specs.Answers.{IsStretch}
use Rattle.rbc_engine.proofs.Stretches.{results_of}

-- so many first inputs are done
pub record AreTakenIn (run : Run) (count : ℕ) (held : Held) : Type 0 where
  pub serial : IsSerialRun run count (standing held)
  pub within : count ≤ length run.inputs

module _ (run : Run) (count : ℕ) (held : Held) (good : IsGoodRun run) (before : AreTakenIn run count held) where
  -- there is room for the result of one more
  pub room_left : count < length run.inputs → length held.results < max_results
  room_left more =
      let desk = before.serial good.desk good.holds in
      let few = good.few in
      let opening : length run.opening.results ≡ length good.desk.results = ap (λ (rs : List Reply). length rs) good.holds.results in
      let now : length held.results ≡ length (serial run.track good.desk (take count run.inputs)).results = ap (λ (rs : List Reply). length rs) desk.results in
      let each = results_of run.track good.desk (take count run.inputs) in
      let cut = length-take-le count run.inputs before.within in
      omega (arith, few, opening, now, each, cut, more)

  -- one more is taken in
  pub one_more_taken_in : (input : Input) (new : Held) (next : ℕ) → count < length run.inputs → slice_get run.inputs count ≡ Some input → IsTakenIn run.track input (standing held) (standing new) → next ≡ count + 1
      → AreTakenIn run next new
  one_more_taken_in input new next more there taken is =
      let then_one : (desk : Desk) → serial run.track desk (take (count + 1) run.inputs) ≡ step run.track (serial run.track desk (take count run.inputs)) input =
      λ desk. fold_more (step run.track) desk run.inputs count input more ∙ ap (step run.track (serial run.track desk (take count run.inputs))) (get_or_from_slice_get run.inputs count input input there) in
      let serial_then : IsSerialRun run (count + 1) (standing new) =
      λ desk h. subst (Holds run.track (standing new)) (sym (then_one desk)) (taken (serial run.track desk (take count run.inputs)) (before.serial desk h)) in
      record { serial = subst (λ n. IsSerialRun run n (standing new)) (sym is) serial_then; within = omega (arith, more, is) }

  -- memory was refused for the next, which changed nothing
  pub refused_alone : (new : Held) → standing new ≡ standing held → IsStretch run (Err (OutOfMemory count)) new
  refused_alone new same =
      let serial_still : IsSerialRun run count (standing new) = subst (IsSerialRun run count) (sym same) before.serial in
      ((serial_still, said_since run count (standing new) good serial_still), before.within)

  -- all are taken in
  pub all_taken_in : length run.inputs ≤ count → (stats : Stats) → stats.taken ≡ count → stats.recomputed ≡ 0 → IsStretch run (Ok stats) held
  all_taken_in past stats is none =
      let within = before.within in
      let serial_all : IsSerialRun run stats.taken (standing held) = subst (λ n. IsSerialRun run n (standing held)) (sym is) before.serial in
      ((serial_all, said_since run stats.taken (standing held) good serial_all), omega (arith, is, within), inl (omega (arith, is, within, past)), omega (arith, is, none))
