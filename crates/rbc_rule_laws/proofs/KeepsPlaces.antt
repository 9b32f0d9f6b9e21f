-- The place that a report gives stands on the track.
use Rattle.std.proofs.Common.{◌≡◌, ℕ, ◌+◌, ◌-◌, ◌≤◌, min, max, true, false, cond, ◌&&◌, if◌then◌else◌, Option, Some, None, option_and_then, slice_index, refl, ap, ◌∙◌, subst, arith}
use Rattle.std.proofs.lemmas.Bool.{and_parts, leb-true}
use Rattle.std.proofs.lemmas.Option.{get_or_from_slice_get}
use Rattle.ertms_codec.specs.declared.from_train.Position.{Position}
use Rattle.rbc_track.specs.Plan.{Plan, IsPlan, IsPlaced, group_of}
use Rattle.rbc_track.specs.declared.group.Group.{Group}
use Rattle.rbc_track.specs.declared.group.Way.{Way}
use Rattle.rbc_track.specs.declared.group.Way.TheVariants.{Up, Down}
use Rattle.rbc_place.specs.Placing.{LiesOnLine, is_up, back, room, onward, onward_on_line, way_of, in_units, is_known, is_front_on_line, place_from, place_by_group, place_of_report}
use Rattle.rbc_settle.specs.WellFormed.{HasPlaceOn}

-- where there is room, the place so far on is on the line
onward_within : (way : Way) (end at by : ℕ) → at ≤ end → by ≤ room way end at → onward way at by ≤ end
onward_within Up end at by there fits = let fits' : by ≤ end - at = fits in omega arith
onward_within Down end at by there fits = omega arith

-- and so it is where the line is not left
on_line_within : (way : Way) (end at by : ℕ) → at ≤ end → onward_on_line way end at by ≤ end
on_line_within Up end at by there = omega arith
on_line_within Down end at by there = omega arith

least_is_least : (a b : ℕ) → min a b ≤ max a b
least_is_least a b = omega arith

both_within : (a b end : ℕ) → a ≤ end → b ≤ end → max a b ≤ end
both_within a b end h k = omega arith

-- a balise group by its parts
group_by_parts : (g : Group) → g ≡ record { line = g.line; at = g.at; nominal = if is_up g.nominal then Up else Down }
group_by_parts g = ap (λ (way : Way). record g { nominal = way }) (way_is g.nominal)
  where
    way_is : (way : Way) → way ≡ (if is_up way then Up else Down)
    way_is Up = refl
    way_is Down = refl

module _ (plan : Plan) (p : Position) (length : ℕ) where
  module _ (g : Group) (found : group_of plan p.lrbg ≡ Some g) (placed : IsPlaced plan p.lrbg g) where
    end_is : slice_index plan.lines g.line ≡ placed.length
    end_is = get_or_from_slice_get plan.lines g.line placed.length 0 placed.line

    lies : is_front_on_line (slice_index plan.lines g.line) g p ≡ true → LiesOnLine plan (place_from (slice_index plan.lines g.line) g p length)
    lies fits =
        let line_end = slice_index plan.lines g.line in
        let facing = way_of g.nominal p.dir in
        let front = onward (way_of g.nominal p.side) g.at (in_units p.scale p.distance) in
        let e = end_is in
        let at : g.at ≤ placed.length = placed.place in
        let there : g.at ≤ slice_index plan.lines g.line = omega (arith, e, at) in
        let within : front ≤ line_end = onward_within (way_of g.nominal p.side) line_end g.at (in_units p.scale p.distance) there (leb-true _ _ fits) in
        record {
          length = placed.length;
          line = placed.line;
          at = placed.place;
          ordered = least_is_least _ _;
          within = subst (λ (n : ℕ). max (onward_on_line facing line_end front (in_units p.scale p.under)) (onward_on_line (back facing) line_end front (in_units p.scale p.over + length)) ≤ n) e
              (both_within _ _ line_end (on_line_within facing line_end front (in_units p.scale p.under) within) (on_line_within (back facing) line_end front (in_units p.scale p.over + length) within));
        }

    made_on : HasPlaceOn plan (place_by_group plan p length g)
    made_on = (elim (is_known p && is_front_on_line (slice_index plan.lines g.line) g p) as (λ b. (is_known p && is_front_on_line (slice_index plan.lines g.line) g p) ≡ b → HasPlaceOn plan (cond b (Some (place_from (slice_index plan.lines g.line) g p length)) None)) [
      | true ↦ λ is. record {
        group = found ∙ ap Some (group_by_parts g);
        on_line = lies (and_parts (is_known p) (is_front_on_line (slice_index plan.lines g.line) g p) is).1;
      }
      | false ↦ λ is. tt
    ]) refl

  by_group : IsPlan plan → (o : Option Group) → group_of plan p.lrbg ≡ o → HasPlaceOn plan (option_and_then (place_by_group plan p length) o)
  by_group track None e = tt
  by_group track (Some g) e = made_on g e (track.groups p.lrbg g e)

  pub place_on : IsPlan plan → HasPlaceOn plan (place_of_report plan p length)
  place_on track = by_group track (group_of plan p.lrbg) refl
