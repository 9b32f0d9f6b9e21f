-- The worked cases of settling, one lemma a case.
use Rattle.std.proofs.Common.{◌≡◌, ℕ, ◌<◌, ◌≤◌, true, false, [], ◌∷◌, Option, Some, None, refl, ap, arith, inl, inr}
use Rattle.std.specs.Option.{option_map_or}
use Rattle.std.proofs.lemmas.List.Elements.{All-from_recursion, recursion_from_All}
use Rattle.rbc_track.specs.declared.group.Group.{Group}
use Rattle.rbc_zones.specs.Placing.{Place, is_up}
use Rattle.rbc_ids.specs.declared.slot.Slot.{Slot}
use Rattle.rbc_ids.specs.declared.slot.Slot.TheVariants.{Revoking}
use Rattle.rbc_ids.specs.declared.slot.Kind.{Kind}
use Rattle.rbc_ids.specs.declared.slot.Kind.TheVariants.{Conditional, Unconditional}
use Rattle.rbc_ids.specs.Table.{told_now}
use Rattle.rbc_zones.specs.declared.stop_meaning.Concern.TheVariants as concern
use Rattle.rbc_settle.specs.declared.train.TrainRec.{TrainRec}
use Rattle.rbc_settle.specs.Settling.{is_used_by, is_stop_gone, is_limit_gone, due_number, settled}
use Rattle.rbc_settle.proofs.GoodSlots.{no_report}
use Rattle.rbc_settle.specs.UpToDate.{IsToldIfItCan, IsLimitToldIfItCan, IsUpToDate, StaysAsItIs}
use Rattle.rbc_settle.specs.WellFormed.{IsGiven, has_kind, has_count, is_stop_kind, is_limit_kind, stamps, told_numbers, HasPlaceOn, IsWellFormedTrain}
use Rattle.rbc_settle.specs.Witnesses.{track_a, stop_1, no_stop, limit_1, no_limit, train_7, told, untold, told_twice, one_stamp, one_message, shared_stamp, stamp_ahead, told_as_limit, sixteenth, never_given, beyond_5, group_elsewhere, group_turned, placed_at, limited, unanswered, counted_unconditional}

-- two different truths are not one
not_both : true ≡ false → ⊥
not_both e = cc

not_both_ways : false ≡ true → ⊥
not_both_ways e = cc

some_is_not_none : (n : ℕ) → Some n ≡ None → ⊥
some_is_not_none n e = cc

-- the right train
pub told_stays : StaysAsItIs track_a stop_1 no_limit told
told_stays = record { same = refl; nothing = refl }

pub told_is_up_to_date : IsUpToDate track_a stop_1 no_limit told
told_is_up_to_date = record {
  told = All-from_recursion (IsToldIfItCan told) stop_1.active (inr (inl refl), tt);
  limits_told = All-from_recursion (IsLimitToldIfItCan 100000 told) [] tt;
  no_stop_gone = All-from_recursion (λ (held : ℕ × Slot). is_used_by (is_stop_gone stop_1) held.1 ≡ false) told.stops (refl, tt);
  no_limit_gone = All-from_recursion (λ (held : ℕ × Slot). is_used_by (is_limit_gone no_limit None) held.1 ≡ false) [] tt;
  none_due = inl (All-from_recursion (λ (held : ℕ × Slot). due_number stop_1 held.1 ≡ None) told.stops (refl, tt));
}

-- a train to which stop 1 was told is well-formed where its place is on the track
well_at : (place : Option Place) (kind : Kind) → is_stop_kind kind ≡ true → HasPlaceOn track_a place → IsWellFormedTrain track_a stop_1 no_limit (record (train_7 1 ((0, told_now 1 1 kind) ∷ [])) { place = place })
well_at place kind is on = record {
  engine = omega arith;
  length = (omega arith, omega arith);
  place = on;
  forced_ascend = refl;
  forced = All-from_recursion (IsGiven 1) [] tt;
  tables = record {
    stops = record { small = omega arith; ascending = refl; below = All-from_recursion (λ (id : ℕ). id < 15) (0 ∷ []) (omega arith, tt); once = ((λ n is_told. refl), tt) };
    limits = record { small = omega arith; ascending = refl; below = All-from_recursion (λ (id : ℕ). id < 255) [] tt; once = tt };
  };
  stop_slots = record {
    kinds = All-from_recursion (λ (held : ℕ × Slot). has_kind is_stop_kind held.1 ≡ true) ((0, told_now 1 1 kind) ∷ []) (is, tt);
    counts = All-from_recursion (λ (held : ℕ × Slot). has_count held.1 ≡ true) ((0, told_now 1 1 kind) ∷ []) (no_report 1 1 kind, tt);
    given = All-from_recursion (IsGiven 1) (1 ∷ []) ((omega arith, omega arith), tt);
    once = (refl, tt);
  };
  limit_slots = record {
    kinds = All-from_recursion (λ (held : ℕ × Slot). has_kind is_limit_kind held.1 ≡ true) [] tt;
    counts = All-from_recursion (λ (held : ℕ × Slot). has_count held.1 ≡ true) [] tt;
    given = All-from_recursion (IsGiven 0) [] tt;
    once = tt;
  };
  stamp = omega arith;
  stamps_within = All-from_recursion (λ (s : ℕ). s ≤ 1) (1 ∷ []) (omega arith, tt);
  stamps_apart = (refl, refl, tt);
}

pub told_is_well_formed : IsWellFormedTrain track_a stop_1 no_limit told
told_is_well_formed = well_at None Unconditional refl tt

pub placed_is_well_formed : IsWellFormedTrain track_a stop_1 no_limit (placed_at beyond_5)
placed_is_well_formed = well_at (Some beyond_5) Conditional refl (record {
  group = refl;
  on_line = record { length = 300000; line = refl; at = omega arith; ordered = omega arith; within = omega arith };
})

-- restrictions may share a stamp
pub one_message_is_well_formed : IsWellFormedTrain track_a no_stop limit_1 one_message
one_message_is_well_formed = record {
  engine = omega arith;
  length = (omega arith, omega arith);
  place = tt;
  forced_ascend = refl;
  forced = All-from_recursion (IsGiven 1) [] tt;
  tables = record {
    stops = record { small = omega arith; ascending = refl; below = All-from_recursion (λ (id : ℕ). id < 15) [] tt; once = tt };
    limits = record { small = omega arith; ascending = refl; below = All-from_recursion (λ (id : ℕ). id < 255) (0 ∷ 1 ∷ []) (omega arith, (omega arith, tt)); once = ((λ n is_told. refl), ((λ n is_told. refl), tt)) };
  };
  stop_slots = record {
    kinds = All-from_recursion (λ (held : ℕ × Slot). has_kind is_stop_kind held.1 ≡ true) [] tt;
    counts = All-from_recursion (λ (held : ℕ × Slot). has_count held.1 ≡ true) [] tt;
    given = All-from_recursion (IsGiven 1) [] tt;
    once = tt;
  };
  limit_slots = record {
    kinds = All-from_recursion (λ (held : ℕ × Slot). has_kind is_limit_kind held.1 ≡ true) one_message.limits (refl, (refl, tt));
    counts = All-from_recursion (λ (held : ℕ × Slot). has_count held.1 ≡ true) one_message.limits (refl, (refl, tt));
    given = All-from_recursion (IsGiven 1) (1 ∷ []) ((omega arith, omega arith), tt);
    once = (refl, tt);
  };
  stamp = omega arith;
  stamps_within = All-from_recursion (λ (s : ℕ). s ≤ 1) (1 ∷ 1 ∷ []) (omega arith, (omega arith, tt));
  stamps_apart = tt;
}

-- settling takes a stamp, so the train changes
pub untold_changes : StaysAsItIs track_a stop_1 no_limit untold → ⊥
untold_changes stays = let bad : 1 ≡ 0 = ap (λ (train : TrainRec). train.stamp) stays.same in omega (arith, bad)

pub stop_not_active_changes : StaysAsItIs track_a no_stop no_limit told → ⊥
stop_not_active_changes stays = let bad : 2 ≡ 1 = ap (λ (train : TrainRec). train.stamp) stays.same in omega (arith, bad)

pub limit_passed_changes : StaysAsItIs track_a no_stop limit_1 limited → ⊥
limit_passed_changes stays = let bad : 2 ≡ 1 = ap (λ (train : TrainRec). train.stamp) stays.same in omega (arith, bad)

-- the stop concerns the train, is not told, and 15 identifiers are free
pub untold_is_behind : IsUpToDate track_a stop_1 no_limit untold → ⊥
untold_is_behind up = elim (recursion_from_All (IsToldIfItCan untold) stop_1.active up.told).0 [
  | inl nothing ↦ (let bad : concern.Now ≡ concern.None = nothing in cc)
  | inr more ↦ elim more [
    | inl is_told ↦ not_both_ways is_told
    | inr full ↦ (let bad : 0 ≡ 15 = full in omega (arith, bad))
  ]
]

-- the slot is used by a number that is to be revoked
pub stop_not_active_is_behind : IsUpToDate track_a no_stop no_limit told → ⊥
stop_not_active_is_behind up = not_both (recursion_from_All (λ (held : ℕ × Slot). is_used_by (is_stop_gone no_stop) held.1 ≡ false) told.stops up.no_stop_gone).0

pub limit_passed_is_behind : IsUpToDate track_a no_stop limit_1 limited → ⊥
limit_passed_is_behind up = not_both (recursion_from_All (λ (held : ℕ × Slot). is_used_by (is_limit_gone limit_1 limited.place) held.1 ≡ false) limited.limits up.no_limit_gone).0

-- ---- stops that a train does not answer

-- after two reports nothing happens yet
pub two_reports_stay : StaysAsItIs track_a stop_1 no_limit (unanswered 2)
two_reports_stay = record { same = refl; nothing = refl }

-- after three the stop is revoked and told again
pub three_reports_change : StaysAsItIs track_a stop_1 no_limit (unanswered 3) → ⊥
three_reports_change stays = let bad : 3 ≡ 1 = ap (λ (train : TrainRec). train.stamp) stays.same in omega (arith, bad)

pub three_reports_are_behind : IsUpToDate track_a stop_1 no_limit (unanswered 3) → ⊥
three_reports_are_behind up = elim up.none_due [
  | inl none ↦ some_is_not_none 1 (recursion_from_All (λ (held : ℕ × Slot). due_number stop_1 held.1 ≡ None) (unanswered 3).stops none).0
  | inr full ↦ (let bad : 1 ≡ 15 = full in omega (arith, bad))
]

-- the number is told at once from then on, and under an identifier that was free
pub is_forced : (settled track_a stop_1 no_limit (unanswered 3)).forced ≡ 1 ∷ []
is_forced = refl

pub is_told_again : (settled track_a stop_1 no_limit (unanswered 3)).stops ≡ (0, Revoking 2) ∷ (1, told_now 1 3 Unconditional) ∷ []
is_told_again = refl

-- no more than three reports are counted, and none of a stop that was told at once
pub four_reports : IsWellFormedTrain track_a stop_1 no_limit (unanswered 4) → ⊥
four_reports well = not_both_ways (recursion_from_All (λ (held : ℕ × Slot). has_count held.1 ≡ true) (unanswered 4).stops well.stop_slots.counts).0

pub counted_at_once : IsWellFormedTrain track_a stop_1 no_limit counted_unconditional → ⊥
counted_at_once well = not_both_ways (recursion_from_All (λ (held : ℕ × Slot). has_count held.1 ≡ true) counted_unconditional.stops well.stop_slots.counts).0

-- trains that are not well-formed
pub two_identifiers : IsWellFormedTrain track_a stop_1 no_limit told_twice → ⊥
two_identifiers well = not_both well.stop_slots.once.0

pub identifier_15 : IsWellFormedTrain track_a stop_1 no_limit sixteenth → ⊥
identifier_15 well = let bad : 15 < 15 = (recursion_from_All (λ (id : ℕ). id < 15) (15 ∷ []) well.tables.stops.below).0 in omega (arith, bad)

pub one_stamp_twice : IsWellFormedTrain track_a stop_1 no_limit one_stamp → ⊥
one_stamp_twice well = not_both well.stamps_apart.0

pub stamp_of_a_restriction : IsWellFormedTrain track_a stop_1 limit_1 shared_stamp → ⊥
stamp_of_a_restriction well = not_both well.stamps_apart.1

pub stamp_above_the_trains : IsWellFormedTrain track_a stop_1 no_limit stamp_ahead → ⊥
stamp_above_the_trains well = let bad : 2 ≤ 1 = (recursion_from_All (λ (s : ℕ). s ≤ 1) (stamps stamp_ahead) well.stamps_within).0 in omega (arith, bad)

pub restriction_among_stops : IsWellFormedTrain track_a stop_1 no_limit told_as_limit → ⊥
restriction_among_stops well = not_both_ways (recursion_from_All (λ (held : ℕ × Slot). has_kind is_stop_kind held.1 ≡ true) told_as_limit.stops well.stop_slots.kinds).0

pub number_never_given : IsWellFormedTrain track_a stop_1 no_limit never_given → ⊥
number_never_given well = let bad : 2 ≤ 1 = (recursion_from_All (IsGiven 1) (told_numbers never_given.stops) well.stop_slots.given).0.1 in omega (arith, bad)

pub group_at_another_position : IsWellFormedTrain track_a stop_1 no_limit (placed_at group_elsewhere) → ⊥
group_at_another_position well = let bad : 10000 ≡ 200000 = ap (λ (o : Option Group). option_map_or (λ g. g.at) o 0) well.place.group in omega (arith, bad)

pub group_of_another_direction : IsWellFormedTrain track_a stop_1 no_limit (placed_at group_turned) → ⊥
group_of_another_direction well = not_both (ap (λ (o : Option Group). option_map_or (λ g. is_up g.nominal) o false) well.place.group)
