-- What a window leaves is what a stretch of a run leaves.
use Rattle.std.proofs.Common.{◌≡◌, ◌≤◌, List, length, take, take_all, Ok, inl, sym, subst, arith}
use Rattle.rbc_rule.specs.declared.input.Input.{Input}
use Rattle.rbc_core.specs.Serial.{serial}
use Rattle.rbc_core.specs.Held.{Held, Holds, standing}
use Rattle.rbc_core.specs.declared.book.Stats.{Stats}
use Rattle.rbc_core.specs.Runs.{Run, IsGoodRun, IsSerialRun}
use Rattle.rbc_core.proofs.Mails.{said_since}
use Rattle.rbc_window.specs.Answers.{AreTakenIn}
use Rattle.rbc_engine.specs.Answers.{IsStretch}

-- all inputs are taken in
pub stretch_of_window : (run : Run) (new : Held) (good : IsGoodRun run) (stats : Stats) → AreTakenIn run.track run.inputs (standing run.opening) (standing new) → stats.taken ≡ length run.inputs → stats.recomputed ≤ stats.taken
    → IsStretch run (Ok stats) new
stretch_of_window run new good stats taken all few =
    let whole : take (length run.inputs) run.inputs ≡ run.inputs = take_all (length run.inputs) run.inputs (omega arith) in
    let serial_all : IsSerialRun run (length run.inputs) (standing new) =
    λ desk h. subst (λ (inputs : List Input). Holds run.track (standing new) (serial run.track desk inputs)) (sym whole) (taken desk h) in
    let done = subst (λ n. IsSerialRun run n (standing new)) (sym all) serial_all in
    ((done, said_since run stats.taken (standing new) good done), omega (arith, all), inl all, few)
