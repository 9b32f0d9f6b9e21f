-- What begins and what ends.
use Rattle.std.proofs.Common.{◌≡◌, inl, inr, ℕ, ◌<◌, Bool, true, false, cond, not, eqb, leb, List, length, Option, Some, None, is_none, Result, Ok, Err, Bor, option_copied, refl, sym, ap, subst, ◌∙◌, arith}
use Rattle.std.proofs.lemmas.Bool.Decides.{nat_tests}
use Rattle.rbc_maps.specs.Maps.{has, value_of}
use Rattle.rbc_maps.specs.Numbered.{Numbered}
use Rattle.rbc_zones.specs.declared.area.Area.{Area}
use Rattle.rbc_zones.specs.declared.segment.Segment.{Segment}
use Rattle.rbc_zones.specs.Limits.{Limit}
use Rattle.rbc_settle.specs.Settling.{Stops, Limits}
use Rattle.rbc_settle.proofs.Judging.{value_is_none}
use Rattle.rbc_settle.specs.declared.single_change.Change.TheVariants as change
use Rattle.rbc_rule.specs.World.{World}
use Rattle.rbc_rule.specs.Effect.{with_next, with_less, after_adding, after_removing}
use Rattle.rbc_rule.specs.Touching.{HasBegun, HasChanged, BeginsOrEnds, released_by, released_from}
use Rattle.rbc_rule.proofs.WorldMaps.{value_of-with_value, value_of-without}
use Rattle.rbc_rule.specs.Codes.{code_of}
use Rattle.rbc_rule.specs.declared.refuse.Refusal.TheVariants.{NumberUsed, BadArea, TooManyActive, NoSuchNumber}

-- ---- what an adding and a removing give

same_number : (n : ℕ) → eqb n n ≡ true
same_number n = grind (arith, nat_tests)

above_last : (last number : ℕ) → leb number last ≡ false → last < number
above_last last number e = grind (arith, nat_tests)

module _ {V : Type 0} where
  IsBegun : ℕ → V → Numbered V → Result (Numbered V) ℕ → Type 0
  IsBegun number value old (Ok new) = HasBegun number value old new
  IsBegun number value old (Err code) = Unit

  pub adding_begins : (most : ℕ) (is_good : Bool) (number : ℕ) (value : V) (old new : Numbered V) → Ok new ≡ after_adding most is_good number value old → HasBegun number value old new
  unfolding IsBegun
  adding_begins most is_good number value old new is = subst (IsBegun number value old) (sym is) (by (leb number old.last) is_good (leb most (length old.active)) refl)
    where
      by : (a b c : Bool) → leb number old.last ≡ a → IsBegun number value old (cond a (Err (code_of NumberUsed)) (cond b (cond c (Err (code_of TooManyActive)) (Ok (with_next number value old))) (Err (code_of BadArea))))
      by true b c e = tt
      by false true true e = tt
      by false true false e = record { above = above_last old.last number e; next = refl }
      by false false c e = tt

  IsGoodIfAdded : Bool → Result (Numbered V) ℕ → Type 0
  IsGoodIfAdded is_good (Ok new) = is_good ≡ true
  IsGoodIfAdded is_good (Err code) = Unit

  -- what was added is good
  pub adding_good : (most : ℕ) (is_good : Bool) (number : ℕ) (value : V) (old new : Numbered V) → Ok new ≡ after_adding most is_good number value old → is_good ≡ true
  unfolding IsGoodIfAdded
  adding_good most is_good number value old new is = subst (IsGoodIfAdded is_good) (sym is) (by (leb number old.last) is_good (leb most (length old.active)) refl)
    where
      by : (a b c : Bool) → is_good ≡ b → IsGoodIfAdded is_good (cond a (Err (code_of NumberUsed)) (cond b (cond c (Err (code_of TooManyActive)) (Ok (with_next number value old))) (Err (code_of BadArea))))
      by true b c e = tt
      by false true true e = tt
      by false true false e = e
      by false false c e = tt

  IsEnded : ℕ → Numbered V → Result (Numbered V) ℕ → Type 0
  IsEnded number old (Ok new) = new ≡ with_less number old
  IsEnded number old (Err code) = Unit

  pub removing_ends : (number : ℕ) (old new : Numbered V) → Ok new ≡ after_removing number old → new ≡ with_less number old
  unfolding IsEnded
  removing_ends number old new is =
      subst (IsEnded number old) (sym is) (elim (has old.active number) as (λ b. IsEnded number old (cond b (Ok (with_less number old)) (Err (code_of NoSuchNumber)))) [ true ↦ refl | false ↦ tt ])

  IsThereIfRemoved : ℕ → Numbered V → Result (Numbered V) ℕ → Type 0
  IsThereIfRemoved number old (Ok new) = has old.active number ≡ true
  IsThereIfRemoved number old (Err code) = Unit

  -- what was removed was there
  pub removing_there : (number : ℕ) (old new : Numbered V) → Ok new ≡ after_removing number old → has old.active number ≡ true
  unfolding IsThereIfRemoved
  removing_there number old new is = subst (IsThereIfRemoved number old) (sym is) (by (has old.active number) refl)
    where
      by : (b : Bool) → has old.active number ≡ b → IsThereIfRemoved number old (cond b (Ok (with_less number old)) (Err (code_of NoSuchNumber)))
      by true e = e
      by false e = tt

  -- ---- what is active under the number from then on

  value_begun : (number : ℕ) (value : V) (old new : Numbered V) → HasBegun number value old new → value_of new.active number ≡ Some value
  value_begun number value old new begun =
      ap (λ (n : Numbered V). value_of n.active number) begun.next ∙ value_of-with_value number value old.active number
      ∙ ap (λ b. cond b (Some value) (value_of old.active number)) (same_number number)

  value_ended : (number : ℕ) (old new : Numbered V) → new ≡ with_less number old → value_of new.active number ≡ None
  value_ended number old new ended =
      ap (λ (n : Numbered V). value_of n.active number) ended ∙ value_of-without number old.active number
      ∙ ap (λ b. cond b None (value_of old.active number)) (same_number number)

  pub HasBegunOrEnded : ℕ → Option V → Numbered V → Numbered V → Type 0
  HasBegunOrEnded number None old new = new ≡ with_less number old
  HasBegunOrEnded number (Some value) old new = HasBegun number value old new

  by_value : (number : ℕ) (old new : Numbered V) → BeginsOrEnds number old new → HasBegunOrEnded number (value_of new.active number) old new
  unfolding HasBegunOrEnded
  by_value number old new (inl begun) = subst (λ found. HasBegunOrEnded number found old new) (sym (value_begun number begun.0 old new begun.1)) begun.1
  by_value number old new (inr ended) = subst (λ found. HasBegunOrEnded number found old new) (sym (value_ended number old new ended)) ended

  pub by_found : (number : ℕ) (found : Option V) (old new : Numbered V) → found ≡ value_of new.active number → BeginsOrEnds number old new → HasBegunOrEnded number found old new
  by_found number found old new is change = subst (λ found. HasBegunOrEnded number found old new) (sym is) (by_value number old new change)

-- ---- the change of a command

pub stop_changed : (number : ℕ) (found : Option (Bor Area)) (w : World) (stops : Stops) (limits : Limits) → option_copied found ≡ value_of stops.active number → BeginsOrEnds number w.stops stops → limits ≡ w.limits
    → HasChanged (change.Stop number found) w stops limits
unfolding HasBegunOrEnded
stop_changed number None w stops limits is change same = (by_found number None w.stops stops is change, same)
stop_changed number (Some area) w stops limits is change same = (by_found number (Some area.now) w.stops stops is change, same)

pub limit_changed : (number : ℕ) (found : Option (Bor Limit)) (w : World) (stops : Stops) (limits : Limits) → option_copied found ≡ value_of limits.active number → BeginsOrEnds number w.limits limits → stops ≡ w.stops
    → HasChanged (change.Limit number found) w stops limits
unfolding HasBegunOrEnded
limit_changed number None w stops limits is change same = (same, by_found number None w.limits limits is change)
limit_changed number (Some limit) w stops limits is change same = (same, by_found number (Some limit.now) w.limits limits is change)

-- ---- the stop that ends

is_there : {V : Type 0} (active : List (ℕ × V)) (number : ℕ) (b : Bool) → is_none (value_of active number) ≡ b → has active number ≡ not b
is_there active number b is = turned (has active number) b (sym (value_is_none active number) ∙ is)
  where
    turned : (x y : Bool) → not x ≡ y → x ≡ not y
    turned true y e = ap not e
    turned false y e = ap not e

pub stop_released : (number : ℕ) (found : Option (Bor Area)) (stops : Stops) → option_copied found ≡ value_of stops.active number → released_by (change.Stop number found) ≡ released_from number stops
stop_released number None stops is = ap (λ b. cond b None (Some number)) (sym (is_there stops.active number true (ap is_none (sym is))))
stop_released number (Some area) stops is = ap (λ b. cond b None (Some number)) (sym (is_there stops.active number false (ap is_none (sym is))))

pub released_begun : (number : ℕ) (area : List Segment) (old new : Stops) → HasBegun number area old new → released_from number new ≡ None
released_begun number area old new begun = ap (λ b. cond b None (Some number)) (is_there new.active number false (ap is_none (value_begun number area old new begun)))

pub released_ended : (number : ℕ) (old new : Stops) → new ≡ with_less number old → released_from number new ≡ Some number
released_ended number old new ended = ap (λ b. cond b None (Some number)) (is_there new.active number true (ap is_none (value_ended number old new ended)))
