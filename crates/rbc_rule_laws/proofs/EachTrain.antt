-- What a step sends to the train of an engine, and leaves of it.
use Rattle.std.proofs.Common.{◌≡◌, ℕ, true, false, cond, eqb, List, [], ◌∷◌, map, Some, None, Result, Ok, sym, ap, ◌∙◌, subst}
use Rattle.std.specs.List.{All}
use Rattle.std.proofs.lemmas.Option.{same_Some}
use Rattle.ertms_codec.specs.declared.to_train.ToTrain.{ToTrain}
use Rattle.rbc_track.specs.Plan.{Plan, IsPlan}
use Rattle.rbc_maps.specs.Maps.{value_of, value_or}
use Rattle.rbc_settle.specs.declared.train.TrainRec.{TrainRec}
use Rattle.rbc_settle.specs.Settling.{settled, messages_of, actions_with_stamp}
use Rattle.rbc_rule.specs.declared.input.Input.{Input}
use Rattle.rbc_rule.specs.Inputs.{Fits}
use Rattle.rbc_rule.specs.World.{World}
use Rattle.rbc_rule.specs.Effect.{effect}
use Rattle.rbc_rule.specs.Step.{step, after}
use Rattle.rbc_rule.specs.WellFormed.{IsWellFormed}
use Rattle.rbc_rule.specs.Told.{RevokesRightly, EachStepRevokesRightly, AllMarked, EachStepKeepsWhatWasSent}
use Rattle.rbc_rule.proofs.KeepsLists.{All-value_of}
use Rattle.rbc_rule_laws.proofs.KeepsWorlds.{IsKept, ReadyIfOk, effect_ready}
use Rattle.rbc_rule_laws.proofs.Marks.{settling_marks}
use Rattle.rbc_rule_laws.proofs.Revokes.{messages_right}

-- the value at a key of a map whose values are changed each
module _ {V W : Type 0} (f : V → W) (key : ℕ) (value : V) where
  value_each : (pairs : List (ℕ × V)) → value_of pairs key ≡ Some value → value_of (map {B = ℕ × W} (λ pair. (pair.0, f pair.1)) pairs) key ≡ Some (f value)
  value_each [] found = absurd (let bad : None ≡ Some value = found in cc)
  value_each (pair ∷ pairs) found =
      (elim (eqb pair.0 key) as (λ b. cond b (Some pair.1) (value_of pairs key) ≡ Some value → cond b (Some (f pair.1)) (value_of (map {B = ℕ × W} (λ other. (other.0, f other.1)) pairs) key) ≡ Some (f value)) [
        | true ↦ λ here. ap (λ (v : V). Some (f v)) (same_Some pair.1 value here)
        | false ↦ λ there. value_each pairs there
      ]) found

  value_or_each : (none : W) (pairs : List (ℕ × V)) → value_of pairs key ≡ Some value → value_or none (map {B = ℕ × W} (λ pair. (pair.0, f pair.1)) pairs) key ≡ f value
  value_or_each none [] found = absurd (let bad : None ≡ Some value = found in cc)
  value_or_each none (pair ∷ pairs) found =
      (elim (eqb pair.0 key) as (λ b. cond b (Some pair.1) (value_of pairs key) ≡ Some value → cond b (f pair.1) (value_or none (map {B = ℕ × W} (λ other. (other.0, f other.1)) pairs) key) ≡ f value) [
        | true ↦ λ here. ap f (same_Some pair.1 value here)
        | false ↦ λ there. value_or_each none pairs there
      ]) found

module _ (plan : Plan) (w : World) (input : Input) (changed : World) (engine : ℕ) (train : TrainRec) (is : effect plan input w ≡ Ok changed) (there : value_of changed.trains engine ≡ Some train) where
  sent_is : value_or [] (step plan w input).sent engine ≡ messages_of plan changed.stops changed.limits train
  sent_is =
      ap (λ (r : Result World ℕ). value_or [] (after plan w r).sent engine) is
      ∙ value_or_each {V = TrainRec} {W = List ToTrain} (messages_of plan changed.stops changed.limits) engine train [] changed.trains there

  now_is : value_of (step plan w input).world.trains engine ≡ Some (settled plan changed.stops changed.limits train)
  now_is =
      ap (λ (r : Result World ℕ). value_of (after plan w r).world.trains engine) is
      ∙ value_each {V = TrainRec} {W = TrainRec} (settled plan changed.stops changed.limits) engine train changed.trains there

  kept : IsPlan plan → Fits input → IsWellFormed plan w → IsKept plan changed.stops changed.limits (engine, train)
  kept track fits well =
      All-value_of (IsKept plan changed.stops changed.limits) engine train changed.trains (subst (ReadyIfOk plan) is (effect_ready plan w well input track fits)).trains there

pub each_step_revokes : EachStepRevokesRightly
each_step_revokes plan w input changed engine train track fits well is there =
    subst (All (RevokesRightly changed.stops changed.limits train)) (sym (sent_is plan w input changed engine train is there))
    (messages_right plan changed.stops changed.limits train (kept plan w input changed engine train is there track fits well).well_formed.tables)

pub each_step_keeps : EachStepKeepsWhatWasSent
each_step_keeps plan w input changed engine train track fits well is there =
    let now = settled plan changed.stops changed.limits train in
    record {
      now = now;
      is_now = now_is plan w input changed engine train is there;
      marked = subst (AllMarked now (actions_with_stamp plan changed.stops changed.limits train)) (sym (sent_is plan w input changed engine train is there))
          (settling_marks plan changed.stops changed.limits train (kept plan w input changed engine train is there track fits well).well_formed.tables);
    }
