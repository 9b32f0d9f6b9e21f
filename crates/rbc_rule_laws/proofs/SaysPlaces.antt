-- What stands on a track is at places that a line can have, and a direction that is told is that of the train.
use Rattle.std.proofs.Common.{◌≡◌, ℕ, ◌-◌, ◌*◌, ◌/◌, ◌%◌, ◌^◌, ◌≤◌, Bool, true, false, ◌&&◌, cond, eqb, ltb, leb, le-leb, if◌then◌else◌, List, length, Option, Some, None, slice_get, refl, ap, arith}
use Rattle.std.specs.List.{All, list_all}
use Rattle.std.specs.Option.{option_map_or}
use Rattle.std.proofs.lemmas.Bool.{and_parts, leb-true, ltb-true, eqb-true}
use Rattle.std.proofs.lemmas.List.Elements.{All-weaker}
use Rattle.std.proofs.lemmas.List.Sums.{AllPass-from_list_all}
use Rattle.rbc_track.specs.Plan.{Plan, IsPlan}
use Rattle.rbc_track.specs.declared.group.Way.{Way}
use Rattle.rbc_track.specs.declared.group.Way.TheVariants.{Up, Down}
use Rattle.rbc_place.specs.Placing.{Place, IsSound, onward}
use Rattle.rbc_place.specs.Reach.{IsAhead}
use Rattle.rbc_zones.specs.declared.segment.Segment.{Segment}
use Rattle.rbc_zones.specs.Segments.{is_good_segment, is_good_area, IsSegment}
use Rattle.rbc_zones.specs.Concerns.{distance_to}
use Rattle.rbc_zones.specs.Limits.{Limit, IsLimit, is_good_limit}
use Rattle.rbc_settle.specs.Settling.{direction_of}
use Rattle.rbc_settle.specs.WellFormed.{IsPlaceOn}
use Rattle.rbc_rule.specs.Saying.{way_told, unit_told}

-- seen from its balise group, the direction that is told is the way the train faces
pub faced : (line lrbg at : ℕ) (same : Bool) (facing : Way) (lo hi : ℕ)
    → way_told (if same then Up else Down) (direction_of (record { line = line; lrbg = lrbg; at = at; same = same; facing = facing; lo = lo; hi = hi })) ≡ Some facing
faced line lrbg at true Up lo hi = refl
faced line lrbg at true Down lo hi = refl
faced line lrbg at false Up lo hi = refl
faced line lrbg at false Down lo hi = refl

-- a scale that is not spare has its unit
pub unit_is : (scale : ℕ) → scale ≤ 2 → unit_told scale ≡ Some (10 ^ scale)
unit_is scale most = ap (λ (b : Bool). cond b (Some (10 ^ scale)) None) (le-leb scale 2 most)

-- the place that lies no farther on than an edge ahead lies so far ahead
pub lies_ahead : (way : Way) (at edge by : ℕ) → by ≤ distance_to way at edge → IsAhead way at by (onward way at by)
lies_ahead Up at edge by h = refl
lies_ahead Down at edge by h = let most : by ≤ at - edge = h in omega arith

-- a speed in fives is told whole
pub whole_fives : (speed : ℕ) → speed % 5 ≡ 0 → speed ≡ 5 * (speed / 5)
whole_fives speed fives = omega (arith, fives)

module _ (plan : Plan) (track : IsPlan plan) where
  -- a place on the track is sound
  pub sound : (p : Place) → IsPlaceOn plan p → IsSound p
  sound p on =
      let lies = on.on_line in
      let most = (track.lines p.line lies.length lies.line).high in
      let at = lies.at in
      let within = lies.within in
      record {
        group = (track.groups p.lrbg (record { line = p.line; at = p.at; nominal = if p.same then Up else Down }) on.group).number;
        at = omega (arith, most, at);
        ordered = lies.ordered;
        within = omega (arith, most, within);
      }

  segment_by_line : (segment : Segment) (o : Option ℕ) → slice_get plan.lines segment.line ≡ o
      → option_map_or (λ length. leb segment.from segment.to && leb segment.to length) o false ≡ true → IsSegment segment
  segment_by_line segment None found good = absurd (let bad : false ≡ true = good in cc)
  segment_by_line segment (Some end) found good =
      let parts = and_parts (leb segment.from segment.to) (leb segment.to end) good in
      let within : segment.to ≤ end = leb-true segment.to end parts.1 in
      let most = (track.lines segment.line end found).high in
      record { ordered = leb-true segment.from segment.to parts.0; within = omega (arith, within, most) }

  -- a segment that is good for the track is one
  pub good_segment : (segment : Segment) → is_good_segment plan segment ≡ true → IsSegment segment
  good_segment segment good = segment_by_line segment (slice_get plan.lines segment.line) refl good

  -- and so is each of an area that is
  pub good_area : (area : List Segment) → is_good_area plan area ≡ true → All IsSegment area
  good_area area good =
      All-weaker (λ segment. is_good_segment plan segment ≡ true) IsSegment good_segment area
      (AllPass-from_list_all (is_good_segment plan) area (and_parts (leb (length area) 8) (list_all (is_good_segment plan) area) good).1)

  -- a restriction that is good for the track is one
  pub good_limit : (limit : Limit) → is_good_limit plan limit.segment limit.speed ≡ true → IsLimit limit
  good_limit limit good =
      let segment = limit.segment in
      let one = and_parts (is_good_segment plan segment && ltb segment.from segment.to && leb limit.speed 600) (eqb (limit.speed % 5) 0) good in
      let two = and_parts (is_good_segment plan segment && ltb segment.from segment.to) (leb limit.speed 600) one.0 in
      let three = and_parts (is_good_segment plan segment) (ltb segment.from segment.to) two.0 in
      record {
        ordered = ltb-true segment.from segment.to three.1;
        within = (good_segment segment three.0).within;
        speed = leb-true limit.speed 600 two.1;
        in_fives = eqb-true (limit.speed % 5) 0 one.1;
      }
