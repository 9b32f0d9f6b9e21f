-- A stop before which a train has to stop is told rightly.
use Rattle.std.proofs.Common.{◌≡◌, ℕ, Bool, List, ◌+◌, ◌-◌, ◌<◌, ◌≤◌, true, false, ◌||◌, arith, refl}
use Rattle.std.specs.List.{list_any, All}
use Rattle.std.proofs.lemmas.Grind.{common_steps}
use Rattle.std.proofs.lemmas.List.Elements.{filter_passes}
use Rattle.rbc_place.specs.Way.{Way}
use Rattle.rbc_place.specs.Way.TheVariants.{Up, Down}
use Rattle.rbc_place.specs.Placing.{Place}
use Rattle.rbc_place.specs.Reach.{IsAhead}
use Rattle.rbc_zones.specs.declared.segment.Segment.{Segment}
use Rattle.rbc_zones.specs.declared.stop_meaning.Concern.TheVariants as concern
use Rattle.rbc_zones.specs.Segments.{IsSegment}
use Rattle.rbc_zones.specs.Concerns.{on_its_line, meets, is_ahead, edges_ahead, nearest, is_behind_group, concern_at, IsAtOrBeyond, distance_to, EachStopIsToldRightly}
use Rattle.rbc_zones.proofs.NearestEdges.{of_one, is_nearest, has_edge, edges_within}
use Rattle.rbc_zones.proofs.ToldStops.{told_rightly}

-- the place at which a distance from the balise group ends: not beyond the edge, and less than a unit short of it
record EndsBefore (way : Way) (at edge told unit : ℕ) : Type 0 where
  place : ℕ
  ahead : IsAhead way at told place
  not_beyond : IsAtOrBeyond way edge place
  near : distance_to way place edge < unit

-- a distance that is never more than the edge's, and less than a unit less, ends at such a place
ends_before : (way : Way) (at edge told unit : ℕ) → is_behind_group way at edge ≡ false → told ≤ distance_to way at edge → distance_to way at edge < told + unit
    → EndsBefore way at edge told unit
ends_before Up at edge told unit ahead most near =
    let most' : told ≤ edge - at = most in
    let near' : edge - at < told + unit = near in
    let ahead' : at ≤ edge = grind (arith, common_steps) in
    record { place = at + told; ahead = refl; not_beyond = omega arith; near = omega arith }
ends_before Down at edge told unit ahead most near =
    let most' : told ≤ at - edge = most in
    let near' : at - edge < told + unit = near in
    let ahead' : edge ≤ at = grind (arith, common_steps) in
    record { place = at - told; ahead = omega arith; not_beyond = omega arith; near = omega arith }

pub distance_within : (way : Way) (at edge : ℕ) → at ≤ 3000000 → edge ≤ 3000000 → distance_to way at edge ≤ 3000000
distance_within Up at edge h k = omega arith
distance_within Down at edge h k = omega arith

pub each_stop : EachStopIsToldRightly
each_stop p area forced edge sound segments before =
    let edges = edges_ahead p area in
    let has = has_edge (forced || list_any (meets p) (on_its_line p area)) p (nearest p.facing edges) edge before in
    let first = is_nearest p.facing edges edge has.found_is in
    let within = of_one (λ edge. edge ≤ 3000000) edge edges (edges_within p area segments) first.one in
    let distance = distance_to p.facing p.at edge in
    let told = told_rightly distance (distance_within p.facing p.at edge sound.at within) in
    let ends = ends_before p.facing p.at edge _ _ has.not_behind told.not_beyond told.near in
    record {
      first = record {
        ahead = of_one (λ edge. is_ahead p.facing p edge ≡ true) edge edges (filter_passes (is_ahead p.facing p) _) first.one;
        an_edge = first.one;
        nearest = first.nearest;
      };
      finest = told;
      told = record { place = ends.place; ahead = ends.ahead; not_beyond = ends.not_beyond; near = ends.near };
    }

-- the edge before which a train has to stop is a place that a line can have
pub edge_in_range : (p : Place) (area : List Segment) (forced : Bool) (edge : ℕ) → All IsSegment area → concern_at area forced p ≡ concern.Before edge → edge ≤ 3000000
edge_in_range p area forced edge segments before =
    let edges = edges_ahead p area in
    let has = has_edge (forced || list_any (meets p) (on_its_line p area)) p (nearest p.facing edges) edge before in
    of_one (λ edge. edge ≤ 3000000) edge edges (edges_within p area segments) (is_nearest p.facing edges edge has.found_is).one
