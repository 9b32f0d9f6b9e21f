use Rattle.std.proofs.Common.{◌≡◌, ℕ, ◌<◌, ◌≤◌, true, false, List, [], ◌∷◌, Some, refl, sym, subst, arith, IsTrue}
use Rattle.std.proofs.lemmas.List.Elements.{All-nil, All-head}
use Rattle.std.proofs.lemmas.Option.{same_Some}
use Rattle.rbc_maps.specs.Numbered.{none_numbered}
use Rattle.rbc_ids.specs.declared.slot.Slot.{Slot}
use Rattle.rbc_ids.specs.Table.{told_now}
use Rattle.rbc_ids.specs.declared.slot.Kind.TheVariants.{Conditional}
use Rattle.rbc_place.specs.Placing.{Place}
use Rattle.rbc_zones.specs.Limits.{Limit, is_good_limit}
use Rattle.rbc_settle.specs.Actions.{Action}
use Rattle.rbc_settle.specs.WellFormed.{IsGiven, has_kind, has_count, is_stop_kind, is_limit_kind, IsPlaceOn, IsWellFormedTrain}
use Rattle.rbc_rule.specs.WellFormed.{IsGoodStop, AreGoodStops, AreGoodLimits, IsGoodTrain}
use Rattle.rbc_rule.proofs.EachChanges.{one_of}
use Rattle.rbc_rule_laws.specs.Witnesses.{track_a, facing_up, on_line_0, train_7, stop_1, told_as_0}
use Rattle.rbc_rule_laws.proofs.WitnessWorlds.{good_train}
use Rattle.rbc_rule_laws.proofs.witnesses.step_law_witnesses.Goals as goal

pub returns-clause-after_stop : goal.returns-clause-after_stop
returns-clause-after_stop c = refl

-- there are no restrictions
no_limits : AreGoodLimits track_a none_numbered
no_limits = record {
  numbered = record { ascending = refl; within = All-nil (λ (number : ℕ). number ≤ 0) };
  few = omega arith;
  good = All-nil (λ (limit : ℕ × Limit). IsTrue (is_good_limit track_a limit.1.segment limit.1.speed));
}

-- stop 1 is good
good_stops : AreGoodStops track_a (stop_1 (on_line_0 20000 21000))
good_stops = record {
  numbered = record { ascending = refl; within = one_of (λ (number : ℕ). number ≤ 1) 1 (omega arith) };
  few = omega arith;
  good = one_of (IsGoodStop track_a) (1, on_line_0 20000 21000 ∷ []) (record { some = omega arith; good = refl });
}

-- balise group 5 and the interval are on line 0
stands : IsPlaceOn track_a facing_up
stands = record { group = refl; on_line = record { length = 300000; line = refl; at = omega arith; ordered = omega arith; within = omega arith } }

-- so is the train to which it was told
well_formed_train : IsWellFormedTrain track_a (stop_1 (on_line_0 20000 21000)) none_numbered (train_7 (Some facing_up) 1001 (told_as_0 1))
well_formed_train = record {
  engine = omega arith;
  length = (omega arith, omega arith);
  place = stands;
  forced_ascend = refl;
  forced = All-nil (IsGiven 1);
  tables = record {
    stops = record { small = omega arith; ascending = refl; below = one_of (λ (id : ℕ). id < 15) 0 (omega arith); once = ((λ n told. refl), tt) };
    limits = record { small = omega arith; ascending = refl; below = All-nil (λ (id : ℕ). id < 255); once = tt };
  };
  stop_slots = record {
    kinds = one_of (λ (held : ℕ × Slot). has_kind is_stop_kind held.1 ≡ true) (0, told_now 1 1001 Conditional) refl;
    counts = one_of (λ (held : ℕ × Slot). has_count held.1 ≡ true) (0, told_now 1 1001 Conditional) refl;
    given = one_of (IsGiven 1) 1 (omega arith, omega arith);
    once = (refl, tt);
  };
  limit_slots = record { kinds = All-nil (λ (held : ℕ × Slot). has_kind is_limit_kind held.1 ≡ true); counts = All-nil (λ (held : ℕ × Slot). has_count held.1 ≡ true); given = All-nil (IsGiven 0); once = tt };
  stamp = omega arith;
  stamps_within = one_of (λ (s : ℕ). s ≤ 1001) 1001 (omega arith);
  stamps_apart = (refl, refl, tt);
}

pub returns-clause-well_formed : goal.returns-clause-well_formed
returns-clause-well_formed c =
    let train = train_7 (Some facing_up) 1001 (told_as_0 1) in
    let stops = stop_1 (on_line_0 20000 21000) in
    let good : IsGoodTrain track_a stops none_numbered (7, train) = record { engine = refl; well_formed = well_formed_train; settled = refl } in
    record {
      stops = good_stops;
      limits = no_limits;
      ascending = refl;
      few = omega arith;
      trains = one_of (IsGoodTrain track_a stops none_numbered) (7, train) good;
    }

pub returns-clause-told_twice : goal.returns-clause-told_twice
returns-clause-told_twice c h =
    let train = train_7 (Some facing_up) 1002 ((0, told_now 1 1001 Conditional) ∷ (1, told_now 1 1002 Conditional) ∷ []) in
    let once : true ≡ false = (good_train train (stop_1 (on_line_0 20000 21000)) none_numbered h).well_formed.stop_slots.once.0 in
    cc

pub returns-clause-stamp_above : goal.returns-clause-stamp_above
returns-clause-stamp_above c h =
    let train = train_7 (Some facing_up) 1000 (told_as_0 1) in
    let within : 1001 ≤ 1000 = All-head (λ (s : ℕ). s ≤ 1000) 1001 [] (good_train train (stop_1 (on_line_0 20000 21000)) none_numbered h).well_formed.stamps_within in
    absurd (omega arith)

-- nothing is left to do
abbrev Nothing : List Action → Type 0
Nothing [] = Unit
Nothing (action ∷ actions) = ⊥

pub returns-clause-not_settled : goal.returns-clause-not_settled
returns-clause-not_settled c h =
    let train = train_7 (Some facing_up) 1000 [] in
    subst Nothing (sym (good_train train (stop_1 (on_line_0 20000 21000)) none_numbered h).settled) tt

pub returns-clause-off_the_line : goal.returns-clause-off_the_line
returns-clause-off_the_line c h =
    let place : Place = record facing_up { hi = 300001 } in
    let on_line = (good_train (train_7 (Some place) 1000 []) none_numbered none_numbered h).well_formed.place.on_line in
    let line : Some 300000 ≡ Some on_line.length = on_line.line in
    let long : 300000 ≡ on_line.length = same_Some 300000 on_line.length line in
    let within : 300001 ≤ on_line.length = on_line.within in
    absurd (omega arith)

pub returns-clause-number_above : goal.returns-clause-number_above
returns-clause-number_above c h =
    let within : 2 ≤ 1 = All-head (λ (number : ℕ). number ≤ 1) 2 [] h.stops.numbered.within in
    absurd (omega arith)
