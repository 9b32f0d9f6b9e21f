-- The stamps of two tables stay apart where slots with the next stamp are put in.
use Rattle.std.proofs.Common.{◌≡◌, ◌⊎◌, ℕ, ◌+◌, ◌<◌, ◌≤◌, true, false, eqb, List, [], ◌∷◌, ◌++◌, Option, Some, refl, sym, ap, ◌∙◌, subst, arith, inl, inr}
use Rattle.std.specs.List.{All}
use Rattle.std.proofs.lemmas.Bool.{both_ways, false_from_ne_true, or_cases, or_left, or_right, eqb-true, eq-eqb}
use Rattle.std.proofs.lemmas.List.Elements.{All-append, All-weaker}
use Rattle.std.proofs.lemmas.Option.{same_Some}
use Rattle.rbc_maps.specs.Maps.{with_value}
use Rattle.rbc_ids.specs.declared.slot.Slot.{Slot}
use Rattle.rbc_ids.specs.Table.{Slots, stamp_of}
use Rattle.rbc_settle.specs.Numbers.{has_number}
use Rattle.rbc_settle.specs.WellFormed.{AreDistinct, AreApart, stamps_in}
use Rattle.rbc_settle.proofs.Labels.{all_has, all_from, in_first, in_second, labels, from_with, distinct_with}

-- ---- numbers that are apart

-- distinct numbers of which the others have none are apart from them
apart_from : (xs ys : List ℕ) → AreDistinct xs → ((m : ℕ) → has_number xs m ≡ true → has_number ys m ≡ false) → AreApart xs ys
apart_from [] ys distinct others = tt
apart_from (x ∷ xs) ys distinct others = (
  distinct.0,
  others x (or_left (eqb x x) (has_number xs x) (eq-eqb x x refl)),
  apart_from xs ys distinct.1 (λ m h. others m (or_right (eqb x m) (has_number xs m) h)),
)

-- and the other way round
apart_distinct : (xs ys : List ℕ) → AreApart xs ys → AreDistinct xs
apart_distinct [] ys apart = tt
apart_distinct (x ∷ xs) ys apart = (apart.0, apart_distinct xs ys apart.2)

apart_others : (xs ys : List ℕ) → AreApart xs ys → (m : ℕ) → has_number xs m ≡ true → has_number ys m ≡ false
apart_others [] ys apart m h = absurd (let bad : false ≡ true = h in cc)
apart_others (x ∷ xs) ys apart m h = elim (or_cases (eqb x m) (has_number xs m) h) [
  | inl here ↦ subst (λ n. has_number ys n ≡ false) (eqb-true x m here) apart.1
  | inr there ↦ apart_others xs ys apart.2 m there
]

-- ---- the stamps of a table

-- the stamp of a slot, as the label that each slot has
abbrev some_stamp : Slot → Option ℕ
some_stamp slot = Some (stamp_of slot)

as_labels : (slots : Slots) → stamps_in slots ≡ labels some_stamp slots
as_labels [] = refl
as_labels (held ∷ slots) = ap (λ (ns : List ℕ). stamp_of held.1 ∷ ns) (as_labels slots)

module _ (id : ℕ) (slot : Slot) (slots : Slots) where
  -- after a slot was put in, a stamp is its own or was there
  stamp_from : (m : ℕ) → has_number (stamps_in (with_value id slot slots)) m ≡ true → (stamp_of slot ≡ m) ⊎ (has_number (stamps_in slots) m ≡ true)
  stamp_from m h = elim (from_with some_stamp id slot slots m (ap (λ (ns : List ℕ). has_number ns m) (sym (as_labels (with_value id slot slots))) ∙ h)) [
    | inl own ↦ inl (same_Some (stamp_of slot) m own)
    | inr old ↦ inr (ap (λ (ns : List ℕ). has_number ns m) (as_labels slots) ∙ old)
  ]

  -- what holds of its own and of those that were there holds of all
  all_stamps : (P : ℕ → Type 0) → P (stamp_of slot) → All P (stamps_in slots) → All P (stamps_in (with_value id slot slots))
  all_stamps P own all = all_from P (stamps_in (with_value id slot slots)) (λ m h. elim (stamp_from m h) [ inl is ↦ subst P is own | inr old ↦ all_has P (stamps_in slots) all m old ])

  -- a new stamp leaves them distinct
  distinct_stamps : has_number (stamps_in slots) (stamp_of slot) ≡ false → AreDistinct (stamps_in slots) → AreDistinct (stamps_in (with_value id slot slots))
  distinct_stamps fresh distinct =
      subst AreDistinct (sym (as_labels (with_value id slot slots)))
      (distinct_with some_stamp id slot slots (subst AreDistinct (as_labels slots) distinct)
      (λ n own. subst (λ (ns : List ℕ). has_number ns n ≡ false) (as_labels slots) (subst (λ m. has_number (stamps_in slots) m ≡ false) (same_Some (stamp_of slot) n own) fresh)))

-- ---- the stamps of two tables

-- none is above the last one, and those of stops are apart
pub record AreGoodStamps (last : ℕ) (stops limits : Slots) : Type 0 where
  pub within : All (λ s. s ≤ last) (stamps_in stops ++ stamps_in limits)
  pub apart : AreApart (stamps_in stops) (stamps_in limits)

-- The same while restrictions are told and revoked with the next stamp, which those among them may have already.
pub record AreGoodMeanwhile (last : ℕ) (stops limits : Slots) : Type 0 where
  pub stops_within : All (λ s. s ≤ last) (stamps_in stops)
  pub limits_within : All (λ s. s ≤ last + 1) (stamps_in limits)
  pub apart : AreApart (stamps_in stops) (stamps_in limits)

-- a number above all is not there
none_above : (last : ℕ) (all : List ℕ) → All (λ s. s ≤ last) all → (m : ℕ) → last < m → has_number all m ≡ false
none_above last all within m above = false_from_ne_true (has_number all m) (λ there. let low = all_has (λ s. s ≤ last) all within m there in absurd (omega (arith, above, low)))

module _ (last : ℕ) (stops limits : Slots) where
  module _ (good : AreGoodStamps last stops limits) where
    of_stops : All (λ s. s ≤ last) (stamps_in stops)
    of_stops = all_from (λ s. s ≤ last) (stamps_in stops) (λ m h. all_has (λ s. s ≤ last) (stamps_in stops ++ stamps_in limits) good.within m (in_first (stamps_in stops) (stamps_in limits) m h))

    of_limits : All (λ s. s ≤ last) (stamps_in limits)
    of_limits = all_from (λ s. s ≤ last) (stamps_in limits) (λ m h. all_has (λ s. s ≤ last) (stamps_in stops ++ stamps_in limits) good.within m (in_second (stamps_in stops) (stamps_in limits) m h))

    -- they stay so where a stop is told or revoked with the next stamp
    pub stamps_with_stop : (id : ℕ) (slot : Slot) → stamp_of slot ≡ last + 1 → AreGoodStamps (last + 1) (with_value id slot stops) limits
    stamps_with_stop id slot next =
        let more = λ (s : ℕ) (low : s ≤ last). let above : s ≤ last + 1 = omega (arith, low) in above in
        let fresh = none_above last (stamps_in stops) of_stops (stamp_of slot) (omega (arith, next)) in
        record {
          within = All-append (λ s. s ≤ last + 1) (stamps_in (with_value id slot stops)) (stamps_in limits)
              (all_stamps id slot stops (λ s. s ≤ last + 1) (omega (arith, next)) (All-weaker (λ s. s ≤ last) (λ s. s ≤ last + 1) more (stamps_in stops) of_stops))
              (All-weaker (λ s. s ≤ last) (λ s. s ≤ last + 1) more (stamps_in limits) of_limits);
          apart = apart_from (stamps_in (with_value id slot stops)) (stamps_in limits)
              (distinct_stamps id slot stops fresh (apart_distinct (stamps_in stops) (stamps_in limits) good.apart))
              (λ m h. elim (stamp_from id slot stops m h) [
                | inl own ↦ none_above last (stamps_in limits) of_limits m (omega (arith, next, own))
                | inr old ↦ apart_others (stamps_in stops) (stamps_in limits) good.apart m old
              ]);
        }

    -- restrictions begin to be told and revoked with the next stamp
    pub stamps_begin : AreGoodMeanwhile last stops limits
    stamps_begin = record {
      stops_within = of_stops;
      limits_within = All-weaker (λ s. s ≤ last) (λ s. s ≤ last + 1) (λ s low. omega (arith, low)) (stamps_in limits) of_limits;
      apart = good.apart;
    }

  module _ (good : AreGoodMeanwhile last stops limits) where
    -- one more is
    pub stamps_go_on : (id : ℕ) (slot : Slot) → stamp_of slot ≡ last + 1 → AreGoodMeanwhile last stops (with_value id slot limits)
    stamps_go_on id slot next = record {
      stops_within = good.stops_within;
      limits_within = all_stamps id slot limits (λ s. s ≤ last + 1) (omega (arith, next)) good.limits_within;
      apart = apart_from (stamps_in stops) (stamps_in (with_value id slot limits))
          (apart_distinct (stamps_in stops) (stamps_in limits) good.apart)
          (λ m h. false_from_ne_true (has_number (stamps_in (with_value id slot limits)) m) (λ there. elim (stamp_from id slot limits m there) [
            | inl own ↦ let low = all_has (λ s. s ≤ last) (stamps_in stops) good.stops_within m h in absurd (omega (arith, next, own, low))
            | inr old ↦ both_ways (has_number (stamps_in limits) m) (apart_others (stamps_in stops) (stamps_in limits) good.apart m h) old
          ]));
    }

    -- and all are, so that it is the last stamp
    pub stamps_end : AreGoodStamps (last + 1) stops limits
    stamps_end = record {
      within = All-append (λ s. s ≤ last + 1) (stamps_in stops) (stamps_in limits)
          (All-weaker (λ s. s ≤ last) (λ s. s ≤ last + 1) (λ s low. omega (arith, low)) (stamps_in stops) good.stops_within)
          good.limits_within;
      apart = good.apart;
    }
