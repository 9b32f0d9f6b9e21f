-- A run in stretches: some of its first inputs, and then the rest from the desk that these leave.
use Rattle.std.proofs.Common.{◌≡◌, ◌⊎◌, inl, inr, ℕ, ◌+◌, ◌-◌, ◌<◌, ◌≤◌, List, [], ◌∷◌, length, take, drop, Result, Ok, Err, sym, ap, ◌∙◌, subst, arith, take-add, take-take}
use Rattle.std.specs.List.{fold, All}
use Rattle.std.proofs.lemmas.List.{length-append, length-take-le, length-drop, take_all}
use Rattle.std.proofs.lemmas.List.Elements.{All-drop}
use Rattle.std.proofs.lemmas.List.Sums.{fold-append}
use Rattle.rbc_track.specs.Plan.{Plan, IsPlan}
use Rattle.rbc_rule.specs.declared.input.Input.{Input}
use Rattle.rbc_rule.specs.declared.outcome.Reply.{Reply}
use Rattle.rbc_rule.specs.Inputs.{Fits}
use Rattle.rbc_rule.specs.Step as rule
use Rattle.rbc_core.specs.Serial.{Desk, step, serial}
use Rattle.rbc_core.specs.Held.{Held, Holds, AreOutboxes, max_results, standing}
use Rattle.rbc_core.specs.declared.book.Stats.{Stats}
use Rattle.rbc_core.specs.Runs.{Run, IsGoodRun, IsSerialRun}
use Rattle.rbc_core.proofs.Mails.{said_since}
use Rattle.rbc_engine.specs.declared.workers.RunError.{RunError}
use Rattle.rbc_engine.specs.declared.workers.RunError.TheVariants.{Workers, TooManyInputs, OutOfMemory}
use Rattle.rbc_engine.specs.Answers.{AreFirst, IsDeskAfter, IsOpening, IsStretch, IsFinished, error_behind, plus, rest_of}
use Rattle.rbc_engine.proofs.Ends.{desk_before}

-- a run of these inputs from there on
abbrev pub run_of : Plan → Held → List Input → Run
run_of track opening inputs = record { track = track; opening = opening; inputs = inputs }

-- the inputs in two parts
serial_in_parts : (track : Plan) (desk : Desk) (inputs : List Input) (n m : ℕ) → serial track (serial track desk (take n inputs)) (take m (drop n inputs)) ≡ serial track desk (take (n + m) inputs)
serial_in_parts track desk inputs n m = sym (ap (fold (step track) desk) (take-add n m inputs) ∙ fold-append (step track) desk (take n inputs) (take m (drop n inputs)))

-- a desk after some inputs, and after more of them from there on, is the desk after all of these
pub onward : (run : Run) (n m : ℕ) (mid new : Held) → IsGoodRun run → IsDeskAfter run n mid → IsDeskAfter (rest_of run n mid) m new → IsDeskAfter run (n + m) new
onward run n m mid new good before after =
    let serial : IsSerialRun run (n + m) (standing new) = λ desk h. subst (λ (d : Desk). Holds run.track (standing new) d) (serial_in_parts run.track desk run.inputs n m) (after.0 _ (before.0 desk h)) in
    (serial, said_since run (n + m) (standing new) good serial)

-- each input has one result
pub results_of : (track : Plan) (desk : Desk) (inputs : List Input) → length (serial track desk inputs).results ≡ length desk.results + length inputs
results_of track desk [] = omega arith
results_of track desk (input ∷ inputs) =
    let rest = results_of track (step track desk input) inputs in
    let one = length-append desk.results ((rule.step track desk.world input).reply ∷ []) in
    omega (arith, rest, one)

-- the rest can be run
pub rest_is_good : (run : Run) (n : ℕ) (mid : Held) → IsGoodRun run → n ≤ length run.inputs → AreOutboxes mid.outboxes → IsDeskAfter run n mid → IsGoodRun (rest_of run n mid)
rest_is_good run n mid good within boxes after =
    let held = after.0 good.desk good.holds in
    let few = good.few in
    let before : length run.opening.results ≡ length good.desk.results = ap (λ (rs : List Reply). length rs) good.holds.results in
    let now : length mid.results ≡ length (serial run.track good.desk (take n run.inputs)).results = ap (λ (rs : List Reply). length rs) held.results in
    let more = results_of run.track good.desk (take n run.inputs) in
    let first = length-take-le n run.inputs within in
    let left = length-drop n run.inputs in
    record {
      track = good.track;
      desk = serial run.track good.desk (take n run.inputs);
      holds = held;
      in_order = boxes;
      fit = All-drop Fits n run.inputs good.fit;
      few = omega (arith, few, before, now, more, first, left);
    }

-- the first inputs of a run, from the same desk
abbrev pub first_of : Run → ℕ → Run
first_of run count = run_of run.track run.opening (take count run.inputs)

-- all of the first inputs, or one at least, are all inputs or one at least
all_or_one : (count all taken total : ℕ) → (count ≡ total) ⊎ (0 < count) → all ≡ count → (taken ≡ all) ⊎ (0 < taken) → (taken ≡ total) ⊎ (0 < taken)
all_or_one count all taken total (inl whole) same (inl done) = inl (done ∙ same ∙ whole)
all_or_one count all taken total (inr some) same (inl done) = inr (omega (arith, some, same, done))
all_or_one count all taken total which same (inr one) = inr one

module _ (run : Run) (count : ℕ) (new : Held) (good : IsGoodRun run) (within : count ≤ length run.inputs) where
  -- a desk after some of the first inputs is a desk after so many of all
  desk_of_all : (n : ℕ) → n ≤ count → IsDeskAfter (first_of run count) n new → IsDeskAfter run n new
  desk_of_all n few after =
      let all : IsSerialRun run n (standing new) = λ desk h. subst (λ (inputs : List Input). Holds run.track (standing new) (serial run.track desk inputs)) (take-take n count run.inputs few) (after.0 desk h) in
      (all, said_since run n (standing new) good all)

  -- what a stretch of the first inputs leaves is what a stretch of all leaves
  stretch_of_all : (result : Result Stats RunError) → (count ≡ length run.inputs) ⊎ (0 < count) → IsStretch (first_of run count) result new → IsStretch run result new
  stretch_of_all (Ok stats) some h =
      let cut = length-take-le count run.inputs within in
      let few = h.1 in
      (desk_of_all stats.taken (omega (arith, few, cut)) h.0, omega (arith, few, cut, within), all_or_one count (length (take count run.inputs)) stats.taken (length run.inputs) some cut h.2, h.3)
  stretch_of_all (Err (OutOfMemory committed)) some h =
      let cut = length-take-le count run.inputs within in
      let few = h.1 in
      (desk_of_all committed (omega (arith, few, cut)) h.0, omega (arith, few, cut, within))
  stretch_of_all (Err Workers) some h = h
  stretch_of_all (Err TooManyInputs) some h = h

module _ (run : Run) (first : List Input) (good : IsGoodRun run) (are : AreFirst run.inputs first) where
  same_run : first_of run are.0 ≡ run_of run.track run.opening first
  same_run = ap (run_of run.track run.opening) (sym are.3)

  -- what was done of the first inputs was done of all
  pub done_of_all : (result : Result Stats RunError) (new : Held) → IsStretch (run_of run.track run.opening first) result new → IsStretch run result new
  done_of_all result new done = stretch_of_all run are.0 new good are.1 result are.2 (subst (λ (r : Run). IsStretch r result new) (sym same_run) done)

-- What a run in stretches has done so far: so many of its inputs, one after another.
pub record AreDone (run : Run) (all : Stats) (held : Held) : Type 0 where
  pub desk : IsDeskAfter run all.taken held
  pub within : all.taken ≤ length run.inputs
  pub some : all.recomputed ≤ all.taken

-- none at first
pub none_done : (run : Run) → IsGoodRun run → AreDone run (record { taken = 0; recomputed = 0 }) run.opening
none_done run good = record { desk = desk_before run good; within = omega arith; some = omega arith }

-- the inputs that a run has left, as a slice from this index on
whole_rest : (inputs : List Input) (taken : ℕ) → take (length inputs - taken) (drop taken inputs) ≡ drop taken inputs
whole_rest inputs taken = let left = length-drop taken inputs in take_all (length inputs - taken) (drop taken inputs) (omega (arith, left))

module _ (run : Run) (all : Stats) (mid : Held) (good : IsGoodRun run) (before : AreDone run all mid) where
  -- a run of the inputs that are left, as a slice
  abbrev pub rest_in_slice : Run
  rest_in_slice = run_of run.track mid (take (length run.inputs - all.taken) (drop all.taken run.inputs))

  same_rest : rest_in_slice ≡ rest_of run all.taken mid
  same_rest = ap (run_of run.track mid) (whole_rest run.inputs all.taken)

  -- it can be run
  pub rest_can_be_run : AreOutboxes mid.outboxes → IsGoodRun rest_in_slice
  rest_can_be_run boxes = subst IsGoodRun (sym same_rest) (rest_is_good run all.taken mid good before.within boxes before.desk)

  of_rest : (result : Result Stats RunError) (new : Held) → IsStretch rest_in_slice result new → IsStretch (rest_of run all.taken mid) result new
  of_rest result new = subst (λ (r : Run). IsStretch r result new) same_rest

  -- the inputs of the next stretch are done too
  pub more_done : (more : Stats) (new : Held) → IsStretch rest_in_slice (Ok more) new → AreDone run (plus all more) new
  more_done more new stretch =
      let h = of_rest (Ok more) new stretch in
      let within = before.within in
      let some = before.some in
      let left = length-drop all.taken run.inputs in
      let few = h.1 in
      let fewer = h.3 in
      record {
        desk = onward run all.taken more.taken mid new good before.desk h.0;
        within = omega (arith, within, left, few);
        some = omega (arith, some, fewer);
      }

  -- memory was refused in the next stretch: those that were committed in it are done too
  pub refused_in : (error : RunError) (new : Held) → IsStretch rest_in_slice (Err error) new → IsFinished run (Err (error_behind all.taken error)) new
  refused_in (OutOfMemory committed) new stretch =
      let h = of_rest (Err (OutOfMemory committed)) new stretch in
      let within = before.within in
      let left = length-drop all.taken run.inputs in
      let few = h.1 in
      (onward run all.taken committed mid new good before.desk h.0, omega (arith, within, left, few))
  refused_in Workers new h = absurd h
  refused_in TooManyInputs new h = absurd h

-- all are done
pub all_done : (run : Run) (all : Stats) (held : Held) → AreDone run all held → length run.inputs ≤ all.taken → IsFinished run (Ok all) held
all_done run all held before past =
    let within = before.within in
    let same : all.taken ≡ length run.inputs = omega (arith, within, past) in
    (subst (λ n. IsDeskAfter run n held) same before.desk, same, before.some)

-- inputs that are admitted can be run
pub admitted : (run : Run) → IsPlan run.track → IsOpening run.track run.opening → AreOutboxes run.opening.outboxes → All Fits run.inputs → length run.opening.results + length run.inputs ≤ max_results → IsGoodRun run
admitted run plan opening boxes fit few = record { track = plan; desk = opening.0; holds = opening.1; in_order = boxes; fit = fit; few = few }
