-- Nothing waits at a train of a live desk that has an identifier of each kind free, and a stamp left.
use Rattle.std.proofs.Common.{◌≡◌, ℕ, ◌≤◌, Bool, true, false, ◌==◌, ◌||◌, cond, leb, List, [], ◌∷◌, length, Option, Some, None, option_map, refl, sym, ap, ◌∙◌, subst, arith}
use Rattle.std.proofs.Math.Logic.{∥∥₁_elim}
use mathlib.Core.HLevel.{⊥_prop}
use Rattle.std.specs.List.{All}
use Rattle.std.proofs.lemmas.Bool.{eq-eqb, eqb-true, le-leb, or_parts}
use Rattle.std.proofs.lemmas.List.Elements.{All-head}
use Rattle.rbc_track.specs.Plan.{Plan}
use Rattle.rbc_maps.specs.Maps.{value_of}
use Rattle.rbc_maps.specs.Numbered.{AreNumbered}
use Rattle.rbc_maps.proofs.MapValues.{count_within}
use Rattle.rbc_settle.specs.declared.train.TrainRec.{TrainRec}
use Rattle.rbc_settle.specs.Settling.{Stops, Limits, last_stamp}
use Rattle.rbc_records.specs.declared.record.Key.{Key}
use Rattle.rbc_records.specs.declared.record.Key.TheVariants as key
use Rattle.rbc_records.specs.declared.record.Rec.{Rec}
use Rattle.rbc_records.specs.declared.record.Rec.TheVariants as rec
use Rattle.rbc_records.specs.Notes.{record_in}
use Rattle.rbc_rule.specs.World.{World}
use Rattle.rbc_rule.specs.Records.{stops_record, limits_record}
use Rattle.rbc_rule.proofs.KeepsLists.{All-value_of}
use Rattle.rbc_live.specs.Held.{AreRecordsOf}
use Rattle.rbc_live.specs.DeskSerial.{serial, new_desk}
use Rattle.rbc_live.specs.Serial.{IsSerial}
use Rattle.rbc_live.specs.declared.waiting.Waiting.{Waiting}
use Rattle.rbc_live.specs.declared.waiting.Waits.{Waits}
use Rattle.rbc_live.specs.declared.waiting.Waits.TheVariants.{Stop, Restriction, Again}
use Rattle.rbc_live.specs.declared.waiting.Cause.{Cause}
use Rattle.rbc_live.specs.declared.waiting.Cause.TheVariants.{NoIdentifier, NoStamp}
use Rattle.rbc_live.specs.Known.{train_of, stops_of, limits_of, train_in, active_stops, active_limits}
use Rattle.rbc_live.specs.Waits.{all_waiting, lacks_something}
use Rattle.rbc_live.specs.Waits.{waiting_at}
use Rattle.rbc_live.specs.Causes.{IsCauseOf}
use Rattle.rbc_live.proofs.Causing.{each_cause_is_true}

-- ---- no cause is true of such a train

pub one_only : (b : Bool) → b ≡ true → b ≡ false → ⊥
one_only b is other = let bad : true ≡ false = sym is ∙ other in cc

module _ (train : TrainRec) (stops : (length train.stops == 15) ≡ false) (limits : (length train.limits == 255) ≡ false) (stamps : leb last_stamp train.stamp ≡ false) where
  no_cause : (what : Waits) (cause : Cause) → IsCauseOf train what cause → ⊥
  no_cause (Stop number) NoIdentifier is = one_only (length train.stops == 15) (eq-eqb (length train.stops) 15 is) stops
  no_cause (Restriction number) NoIdentifier is = one_only (length train.limits == 255) (eq-eqb (length train.limits) 255 is) limits
  no_cause (Again number) NoIdentifier is = one_only (length train.stops == 15) (eq-eqb (length train.stops) 15 is) stops
  no_cause (Stop number) NoStamp is = one_only (leb last_stamp train.stamp) (le-leb last_stamp train.stamp is) stamps
  no_cause (Restriction number) NoStamp is = one_only (leb last_stamp train.stamp) (le-leb last_stamp train.stamp is) stamps
  no_cause (Again number) NoStamp is = one_only (leb last_stamp train.stamp) (le-leb last_stamp train.stamp is) stamps

lacks_nothing : (train : TrainRec) (what : Waits) (cause : Cause) → lacks_something train ≡ false → IsCauseOf train what cause → ⊥
lacks_nothing train what cause none is =
    let stops = or_parts (length train.stops == 15) (length train.limits == 255 || leb last_stamp train.stamp) none in
    let others = or_parts (length train.limits == 255) (leb last_stamp train.stamp) stops.1 in
    no_cause train stops.0 others.0 others.1 what cause is

-- ---- what the records of a world say

no_items : {A : Type 0} (xs : List A) → length xs ≤ 0 → xs ≡ []
no_items [] few = refl
no_items (x ∷ xs) few = absurd (omega (arith, few))

pub stops_there : (stops : Stops) → AreNumbered stops → (stops_of (stops_record stops)).active ≡ stops.active
stops_there stops numbered =
    (elim (stops.last == 0) as (λ b. (stops.last == 0) ≡ b → (stops_of (cond b None (Some (rec.Stops stops)))).active ≡ stops.active) [
      | true ↦ λ e. let zero = eqb-true stops.last 0 e in let few = count_within stops numbered in sym (no_items stops.active (omega (arith, zero, few)))
      | false ↦ λ e. refl
    ]) refl

pub limits_there : (limits : Limits) → AreNumbered limits → (limits_of (limits_record limits)).active ≡ limits.active
limits_there limits numbered =
    (elim (limits.last == 0) as (λ b. (limits.last == 0) ≡ b → (limits_of (cond b None (Some (rec.Limits limits)))).active ≡ limits.active) [
      | true ↦ λ e. let zero = eqb-true limits.last 0 e in let few = count_within limits numbered in sym (no_items limits.active (omega (arith, zero, few)))
      | false ↦ λ e. refl
    ]) refl

pub train_there : (found : Option TrainRec) → train_of (option_map rec.Train found) ≡ found
train_there None = refl
train_there (Some train) = refl

-- ---- nothing waits

module _ (plan : Plan) (records : List (Key × Rec)) (engine : ℕ) (train : TrainRec) (there : train_in records engine ≡ Some train) (none : lacks_something train ≡ false) where
  first_waits : (w : World) → AreRecordsOf plan (record_in records) w → (first : Waiting) (rest : List Waiting) → waiting_at plan.horizon records train ≡ first ∷ rest → ⊥
  first_waits w are first rest waits =
      let Is : Waiting → Type 0 = λ waiting. IsCauseOf train waiting.what waiting.cause in
      let own : value_of w.trains engine ≡ Some train = sym (train_there (value_of w.trains engine)) ∙ sym (ap train_of (are.same (key.Train engine))) ∙ there in
      let stops : active_stops records ≡ w.stops.active = ap (λ r. (stops_of r).active) (are.same key.Stops) ∙ stops_there w.stops are.well_formed.stops.numbered in
      let limits : active_limits records ≡ w.limits.active = ap (λ r. (limits_of r).active) (are.same key.Limits) ∙ limits_there w.limits are.well_formed.limits.numbered in
      let all : All Is (all_waiting plan.horizon w.stops.active w.limits.active train) =
      All-value_of (λ one. All (λ waiting. IsCauseOf one.1 waiting.what waiting.cause) (all_waiting plan.horizon w.stops.active w.limits.active one.1))
      engine train w.trains (each_cause_is_true plan w are.well_formed) own in
      let same : all_waiting plan.horizon w.stops.active w.limits.active train ≡ first ∷ rest =
      ap (λ s. all_waiting plan.horizon s w.limits.active train) (sym stops) ∙ ap (λ l. all_waiting plan.horizon (active_stops records) l train) (sym limits) ∙ waits in
      lacks_nothing train first.what first.cause none (All-head Is first rest (subst (All Is) same all))

  only_empty : (xs : List Waiting) → ((first : Waiting) (rest : List Waiting) → xs ≡ first ∷ rest → ⊥) → xs ≡ []
  only_empty [] none = refl
  only_empty (first ∷ rest) none = absurd (none first rest refl)

  pub nothing_waits_in : (w : World) → AreRecordsOf plan (record_in records) w → waiting_at plan.horizon records train ≡ []
  nothing_waits_in w are = only_empty (waiting_at plan.horizon records train) (λ first rest waits. first_waits w are first rest waits)

  pub nothing_waits : ∥ IsSerial plan records ∥₁ → waiting_at plan.horizon records train ≡ []
  nothing_waits is =
      only_empty (waiting_at plan.horizon records train)
      (λ first rest waits. ∥∥₁_elim is ⊥_prop (λ one. first_waits (serial plan new_desk one.0).world one.1 first rest waits))
