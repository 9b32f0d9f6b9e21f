-- What is compared of a train passes each one that a command seeks.
use Rattle.std.proofs.Common.{◌≡◌, ℕ, Bool, true, false, if◌then◌else◌, ◌&&◌, ◌||◌, nat_lt, List, [], ◌∷◌, length, Option, Some, None, suc, refl, sym, ◌∙◌, arith, lt-ltb}
use Rattle.std.specs.List.{list_any}
use Rattle.std.specs.Option.{option_map_or}
use Rattle.rbc_settle.specs.Table.{is_told}
use Rattle.rbc_settle.specs.Placing.{Place}
use Rattle.rbc_settle.specs.Segment.{Segment}
use Rattle.rbc_settle.specs.Concerns.{concern_of, concern_at}
use Rattle.rbc_settle.specs.declared.train.TrainRec.{TrainRec}
use Rattle.rbc_settle.specs.Numbers.{has_number}
use Rattle.rbc_records.specs.declared.extent.Extent.{Extent}
use Rattle.rbc_records.specs.ToldBits.{has_bit, told_bits_of_train}
use Rattle.rbc_records.specs.Extents.{nowhere, everywhere, ahead_of, extent_of_train, extent_of_area, meet, is_one_met}
use Rattle.rbc_records.specs.SoughtTrains.{is_concern}
use Rattle.rbc_records.proofs.Reached.{reaches, unreached}
use Rattle.rbc_records.proofs.Meeting.{both, met_anywhere, one_met_anywhere, met_ahead, one_met_ahead}
use Rattle.rbc_records.proofs.Bits.{told_bit, bits_kept, numbers_bit, few_bit}

-- the bit of a stop is set in each train that was told of it or rejected it
pub asked_by_stop : (number : ℕ) (train : TrainRec) → (is_told train.stops number || has_number train.forced number) ≡ true → has_bit (told_bits_of_train train).stops number ≡ true
asked_by_stop number train h = by (is_told train.stops number) refl h
  where
    by : (told : Bool) → is_told train.stops number ≡ told → (told || has_number train.forced number) ≡ true → has_bit (told_bits_of_train train).stops number ≡ true
    by true told h = bits_kept train.forced number _ (told_bit train.stops number told)
    by false told h = numbers_bit train.forced number _ h

-- the bit of a restriction in each that was told of it
pub asked_by_limit : (number : ℕ) (train : TrainRec) → is_told train.limits number ≡ true → has_bit (told_bits_of_train train).limits number ≡ true
asked_by_limit number train h = few_bit train.limits number h

-- a list with a number is not empty
not_empty : (numbers : List ℕ) (n : ℕ) → has_number numbers n ≡ true → nat_lt 0 (length numbers) ≡ true
not_empty [] n h = cc
not_empty (first ∷ rest) n h = lt-ltb 0 (suc (length rest)) (omega arith)

-- a stop that is something to a train reaches it
reached : (p : Place) (area : List Segment) (b : Bool) → list_any (reaches p.facing p) area ≡ b → is_concern (concern_at area false p) ≡ true → b ≡ true
reached p area true e h = refl
reached p area false e h = let bad : true ≡ false = sym h ∙ unreached p area e in cc

-- and a new stop that concerns a train may be told to it
pub asked_by_place : (number : ℕ) (area : List Segment) (train : TrainRec) → (nat_lt (length train.stops) 15 && is_concern (concern_of area (has_number train.forced number) train.place)) ≡ true
    → (meet (extent_of_area area) (extent_of_train train).least (extent_of_train train).most && is_one_met area (extent_of_train train).least (extent_of_train train).most) ≡ true
asked_by_place number area train h = by (nat_lt (length train.stops) 15) (nat_lt 0 (length train.forced)) (has_number train.forced number) refl refl train.place h
  where
    extent_by : Bool → Bool → Option Place → Extent
    extent_by free rejected place =
        if free then (if rejected then everywhere else option_map_or (λ (p : Place). ahead_of p.facing p) place everywhere) else nowhere

    IsMet : Extent → Type 0
    IsMet extent = (meet (extent_of_area area) extent.least extent.most && is_one_met area extent.least extent.most) ≡ true

    anywhere : IsMet everywhere
    anywhere = both _ _ (met_anywhere area) (one_met_anywhere area)

    by : (free rejected forced : Bool) → nat_lt 0 (length train.forced) ≡ rejected → has_number train.forced number ≡ forced → (place : Option Place)
        → (free && is_concern (concern_of area forced place)) ≡ true → IsMet (extent_by free rejected place)
    by false rejected forced some is place h = cc
    by true true forced some is place h = anywhere
    by true false true some is place h = let bad : true ≡ false = sym (not_empty train.forced number is) ∙ some in cc
    by true false false some is None h = anywhere
    by true false false some is (Some p) h =
        let one = reached p area (list_any (reaches p.facing p) area) refl h in
        both _ _ (met_ahead p.facing p area one) (one_met_ahead p.facing p area one)
