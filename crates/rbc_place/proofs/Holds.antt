-- The interval of a place holds its train.
use Rattle.std.proofs.Common.{◌≡◌, ℕ, ◌+◌, ◌-◌, ◌≤◌, min, max, Bool, true, false, ◌&&◌, if◌then◌else◌, nat_le, Option, Some, None, option_and_then, slice_index, IsTrue, arith, refl, sym, subst}
use Rattle.std.proofs.lemmas.Option.{get_or_from_slice_get}
use Rattle.std.proofs.lemmas.Grind.{common_steps}
use Rattle.ertms_codec.specs.declared.from_train.Position.{Position}
use Rattle.rbc_track.specs.Plan.{Plan, group_of}
use Rattle.rbc_track.specs.declared.group.Group.{Group}
use Rattle.rbc_track.specs.declared.group.Way.{Way}
use Rattle.rbc_track.specs.declared.group.Way.TheVariants.{Up, Down}
use Rattle.rbc_place.specs.Placing.{Place, back, room, onward, onward_on_line, way_of, in_units, is_known, is_front_on_line, place_from, place_by_group, place_of_report}
use Rattle.rbc_place.specs.Reach.{IsAhead, StandsAt, HoldsItsTrain, EachPlaceHoldsItsTrain}

-- a place lies in the interval about an estimate
pub record IsBetween (facing : Way) (end estimate ahead behind x : ℕ) : Type 0 where
  pub lowest : min (onward_on_line facing end estimate ahead) (onward_on_line (back facing) end estimate behind) ≤ x
  pub highest : x ≤ max (onward_on_line facing end estimate ahead) (onward_on_line (back facing) end estimate behind)

-- for each place in the interval there is a front: the place itself, unless that is too far behind the estimate
pub stands_between : (facing : Way) (end estimate under over length x : ℕ) → estimate ≤ end → x ≤ end
    → IsBetween facing end estimate under (over + length) x → StandsAt end facing estimate under over length x
stands_between Up end estimate under over length x on_line there h =
    let lowest : min (estimate + min under (end - estimate)) (estimate - min (over + length) estimate) ≤ x = h.lowest in
    let highest : x ≤ max (estimate + min under (end - estimate)) (estimate - min (over + length) estimate) = h.highest in
    record {
      front = max x (estimate - over);
      on_line = omega arith;
      not_beyond = omega arith;
      not_short = omega arith;
      from_front = omega arith;
      to_rear = omega arith;
    }
stands_between Down end estimate under over length x on_line there h =
    let lowest : min (estimate - min under estimate) (estimate + min (over + length) (end - estimate)) ≤ x = h.lowest in
    let highest : x ≤ max (estimate - min under estimate) (estimate + min (over + length) (end - estimate)) = h.highest in
    record {
      front = min x (estimate + over);
      on_line = omega arith;
      not_beyond = omega arith;
      not_short = omega arith;
      from_front = omega arith;
      to_rear = omega arith;
    }

-- where there is a front, the place is in the interval
pub between_by_front : (facing : Way) (end estimate under over length x : ℕ) → estimate ≤ end → x ≤ end
    → StandsAt end facing estimate under over length x → IsBetween facing end estimate under (over + length) x
between_by_front Up end estimate under over length x on_line there h =
    let not_beyond : h.front ≤ estimate + under = h.not_beyond in
    let not_short : estimate ≤ h.front + over = h.not_short in
    let from_front : x ≤ h.front + 0 = h.from_front in
    let to_rear : h.front ≤ x + length = h.to_rear in
    record { lowest = omega arith; highest = omega arith }
between_by_front Down end estimate under over length x on_line there h =
    let not_beyond : estimate ≤ h.front + under = h.not_beyond in
    let not_short : h.front ≤ estimate + over = h.not_short in
    let from_front : h.front ≤ x + 0 = h.from_front in
    let to_rear : x ≤ h.front + length = h.to_rear in
    record { lowest = omega arith; highest = omega arith }

-- where there is room, the place at a distance is on the line and lies that distance ahead
pub onward_is_ahead : (way : Way) (end at by : ℕ) → at ≤ end → by ≤ room way end at → (onward way at by ≤ end) × IsAhead way at by (onward way at by)
onward_is_ahead Up end at by on_line h = let h' : by ≤ end - at = h in (omega arith, refl)
onward_is_ahead Down end at by on_line h = let h' : by ≤ at = h in (omega arith, omega arith)

-- no other place lies that distance ahead
pub only_onward : (way : Way) (at by estimate : ℕ) → IsAhead way at by estimate → estimate ≡ onward way at by
only_onward Up at by estimate e = e
only_onward Down at by estimate e = let e' : at ≡ estimate + by = e in omega arith

-- a value that is there only if two tests hold
pub kept : (known on_line : Bool) (made place : Place) → (if known && on_line then Some made else None) ≡ Some place → IsTrue on_line × (place ≡ made)
kept true true made place h = (refl, (cc))
kept true false made place h = cc
kept false on_line made place h = cc

pub le_from_test : (a b : ℕ) → IsTrue (nat_le a b) → a ≤ b
le_from_test a b h = grind (arith, common_steps)

-- a place was made from a report: there was room for its distance
pub record IsMade (end : ℕ) (g : Group) (p : Position) (length : ℕ) (place : Place) : Type 0 where
  pub fits : in_units p.scale p.distance ≤ room (way_of g.nominal p.side) end g.at
  pub made : place ≡ place_from end g p length

pub is_made : (plan : Plan) (p : Position) (length : ℕ) (g : Group) (place : Place)
    → group_of plan p.lrbg ≡ Some g → place_of_report plan p length ≡ Some place
    → IsMade (slice_index plan.lines g.line) g p length place
is_made plan p length g place found made =
    let end = slice_index plan.lines g.line in
    let P : Option Group → Type 0 = λ o. option_and_then (place_by_group plan p length) o ≡ Some place in
    let both = kept (is_known p) (is_front_on_line end g p) (place_from end g p length) place (subst P found made) in
    record { fits = le_from_test _ _ both.0; made = both.1 }

-- the interval that is made from a report holds its train
pub holds_its_train : (end : ℕ) (g : Group) (p : Position) (length : ℕ) → g.at ≤ end
    → in_units p.scale p.distance ≤ room (way_of g.nominal p.side) end g.at
    → HoldsItsTrain end g p length (place_from end g p length)
holds_its_train end g p length at fits x there =
    let facing = way_of g.nominal p.dir in
    let side = way_of g.nominal p.side in
    let distance = in_units p.scale p.distance in
    let under = in_units p.scale p.under in
    let over = in_units p.scale p.over in
    let on = onward_is_ahead side end g.at distance at fits in
    let P : ℕ → Type 0 = λ estimate. StandsAt end facing estimate under over length x in (
      λ h. record {
        estimate = onward side g.at distance;
        counted = on.1;
        stands = stands_between facing end _ under over length x on.0 there (record { lowest = h.0; highest = h.1 });
      },
      λ m.
          let stands = subst P (only_onward side g.at distance m.estimate m.counted) m.stands in
          let b = between_by_front facing end _ under over length x on.0 there stands in
          (b.lowest, b.highest),
    )

pub each_place_holds : EachPlaceHoldsItsTrain
each_place_holds plan p length g place found placed made =
    let end = slice_index plan.lines g.line in
    let m = is_made plan p length g place found made in
    let end_is = get_or_from_slice_get plan.lines g.line placed.length 0 placed.line in
    let at : g.at ≤ slice_index plan.lines g.line = omega arith in
    subst (HoldsItsTrain end g p length) (sym m.made) (holds_its_train end g p length at m.fits)
