-- What concerns a train is not gone for it.
use Rattle.std.proofs.Common.{◌≡◌, ℕ, ◌+◌, ◌≤◌, ◌⊎◌, Bool, true, false, not, cond, ◌&&◌, eqb, leb, List, [], ◌∷◌, Option, Some, None, refl, ap, ◌∙◌, arith, inl, inr}
use Rattle.std.specs.List.{AllByRecursion}
use Rattle.std.specs.Option.{option_map_or}
use Rattle.std.proofs.lemmas.Bool.{or_left, or_right, and_parts, leb-true, eq-eqb, ne_eqb}
use Rattle.rbc_zones.specs.Placing.{Place}
use Rattle.rbc_maps.specs.Maps.{has, value_of, keys, rises_from}
use Rattle.rbc_maps.specs.Numbered.{AreNumbered}
use Rattle.rbc_maps.proofs.MapFacts.{rises_from-lower}
use Rattle.rbc_zones.specs.declared.segment.Segment.{Segment}
use Rattle.rbc_zones.specs.declared.stop_meaning.Concern.{Concern}
use Rattle.rbc_zones.specs.declared.stop_meaning.Concern.TheVariants as concern
use Rattle.rbc_zones.specs.Concerns.{concern_of}
use Rattle.rbc_zones.specs.Limits.{Limit, is_clear, ends_beyond_group, starts_within}
use Rattle.rbc_settle.specs.declared.change.ToldStop.{ToldStop}
use Rattle.rbc_settle.specs.declared.change.ToldStop.TheVariants.{AtOnce}
use Rattle.rbc_settle.specs.Told.{Part}
use Rattle.rbc_settle.specs.Numbers.{has_number}
use Rattle.rbc_settle.specs.Settling.{Stops, Limits, told_stop, told_limit, limit_told_to, is_stop_gone, is_limit_gone, is_clear_of}

module _ {V : Type 0} where
  -- what is there stays beside one more pair
  has_more : (pair : ℕ × V) (all some : List (ℕ × V)) → AllByRecursion (λ other. has all other.0 ≡ true) some → AllByRecursion (λ other. has (pair ∷ all) other.0 ≡ true) some
  has_more pair all [] h = tt
  has_more pair all (other ∷ some) h = (or_right (eqb pair.0 other.0) (has all other.0) h.0, has_more pair all some h.1)

  -- each key of a map is there
  pub each_has : (pairs : List (ℕ × V)) → AllByRecursion (λ pair. has pairs pair.0 ≡ true) pairs
  each_has [] = tt
  each_has (pair ∷ pairs) = (or_left (eqb pair.0 pair.0) (has pairs pair.0) (eq-eqb pair.0 pair.0 refl), has_more pair pairs pairs (each_has pairs))

  -- a value stays beside a pair with a lower key
  value_more : (pair : ℕ × V) (all some : List (ℕ × V)) → rises_from (pair.0 + 1) (keys some) ≡ true → AllByRecursion (λ other. value_of all other.0 ≡ Some other.1) some
      → AllByRecursion (λ other. value_of (pair ∷ all) other.0 ≡ Some other.1) some
  value_more pair all [] rises h = tt
  value_more pair all (other ∷ some) rises h =
      let parts = and_parts (leb (pair.0 + 1) other.0) (rises_from (other.0 + 1) (keys some)) rises in
      let above : pair.0 + 1 ≤ other.0 = leb-true (pair.0 + 1) other.0 parts.0 in (
        ap (λ (b : Bool). cond b (Some pair.1) (value_of all other.0)) (ne_eqb pair.0 other.0 (λ same. absurd (omega (arith, same, above)))) ∙ h.0,
        value_more pair all some (rises_from-lower (pair.0 + 1) (other.0 + 1) (keys some) (omega (arith, above)) parts.1) h.1,
      )

  -- and has its value
  pub each_value : (least : ℕ) (pairs : List (ℕ × V)) → rises_from least (keys pairs) ≡ true → AllByRecursion (λ pair. value_of pairs pair.0 ≡ Some pair.1) pairs
  each_value least [] rises = tt
  each_value least (pair ∷ pairs) rises =
      let parts = and_parts (leb least pair.0) (rises_from (pair.0 + 1) (keys pairs)) rises in
      (ap (λ (b : Bool). cond b (Some pair.1) (value_of pairs pair.0)) (eq-eqb pair.0 pair.0 refl), value_more pair pairs pairs parts.1 (each_value (pair.0 + 1) pairs parts.1))

-- what an active stop is told as to a train, and an active restriction
abbrev pub told_as : Option Place → List ℕ → ℕ × List Segment → Option ToldStop
told_as place forced stop = told_stop place (concern_of stop.1 (has_number forced stop.0) place)

abbrev pub limit_as : ℕ → Option Place → ℕ × Limit → Option Part
limit_as horizon place limit = limit_told_to horizon place limit.1

-- an active stop is not gone
pub stops_stay : {T : Type 0} (stops : Stops) (what : ℕ × List Segment → Option T) → AllByRecursion (λ stop. (what stop ≡ None) ⊎ (is_stop_gone stops stop.0 ≡ false)) stops.active
stops_stay stops what = each stops.active (each_has stops.active)
  where
    each : (some : List (ℕ × List Segment)) → AllByRecursion (λ stop. has stops.active stop.0 ≡ true) some → AllByRecursion (λ stop. (what stop ≡ None) ⊎ (is_stop_gone stops stop.0 ≡ false)) some
    each [] h = tt
    each (stop ∷ some) h = (inr (ap not h.0), each some h.1)

-- a restriction that concerns the train is not clear of it
limit_stays : (horizon : ℕ) (limits : Limits) (place : Option Place) (limit : ℕ × Limit) → value_of limits.active limit.0 ≡ Some limit.1 → (limit_told_to horizon place limit.1 ≡ None) ⊎ (is_limit_gone limits place limit.0 ≡ false)
limit_stays horizon limits None limit is = inl refl
limit_stays horizon limits (Some p) limit is =
    (elim (is_clear limit.1 p) as (λ b. is_clear limit.1 p ≡ b → (limit_told_to horizon (Some p) limit.1 ≡ None) ⊎ (is_limit_gone limits (Some p) limit.0 ≡ false)) [
      | true ↦ λ clear. inl (ap (λ (b : Bool). cond (not b && ends_beyond_group limit.1 p && starts_within p.facing limit.1.segment p horizon) (Some (told_limit limit.1 p)) None) clear)
      | false ↦ λ not_clear. inr (ap (λ (o : Option Limit). option_map_or (is_clear_of (Some p)) o true) is ∙ not_clear)
    ]) refl

-- so an active one that concerns the train is not gone
pub limits_stay : (horizon : ℕ) (limits : Limits) (place : Option Place) → AreNumbered limits → AllByRecursion (λ limit. (limit_told_to horizon place limit.1 ≡ None) ⊎ (is_limit_gone limits place limit.0 ≡ false)) limits.active
limits_stay horizon limits place numbered = each limits.active (each_value 1 limits.active numbered.ascending)
  where
    each : (some : List (ℕ × Limit)) → AllByRecursion (λ limit. value_of limits.active limit.0 ≡ Some limit.1) some → AllByRecursion (λ limit. (limit_told_to horizon place limit.1 ≡ None) ⊎ (is_limit_gone limits place limit.0 ≡ false)) some
    each [] h = tt
    each (limit ∷ some) h = (limit_stays horizon limits place limit h.0, each some h.1)

-- some is not none
pub not_none : {A : Type 0} (x : A) → Some x ≡ None → ⊥
not_none x e = cc

-- a stop of which nothing is told is nothing to the train
pub nothing_told : (place : Option Place) (c : Concern) → told_stop place c ≡ None → c ≡ concern.None
nothing_told (Some p) concern.None e = refl
nothing_told (Some p) concern.Now e = absurd (not_none AtOnce e)
nothing_told (Some p) (concern.Before edge) e = absurd (not_none _ e)
nothing_told None concern.None e = refl
nothing_told None concern.Now e = absurd (not_none AtOnce e)
nothing_told None (concern.Before edge) e = absurd (not_none AtOnce e)
