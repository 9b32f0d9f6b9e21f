-- What does not carry the mark of a train's line is nothing to the train.
use Rattle.std.proofs.Common.{◌≡◌, ℕ, zero, suc, ◌+◌, ◌≤◌, true, false, not, cond, ◌||◌, ◌&&◌, ◌==◌, List, [], ◌∷◌, map, length, Option, Some, slice_get, refl, sym, ap, ◌∙◌, arith}
use Rattle.std.specs.List.{filter, list_any, range_with_len}
use Rattle.std.specs.Option.{option_map_or}
use Rattle.std.proofs.lemmas.Bool.{or_parts, eq-eqb, eqb-true}
use Rattle.rbc_maps.specs.OnLines.{mark_of, has_mark}
use Rattle.rbc_place.specs.Way.{Way}
use Rattle.rbc_place.specs.Way.TheVariants.{Up, Down}
use Rattle.rbc_place.specs.Placing.{Place}
use Rattle.rbc_zones.specs.declared.segment.Segment.{Segment}
use Rattle.rbc_zones.specs.declared.stop_meaning.Concern.TheVariants as concern
use Rattle.rbc_zones.specs.Concerns.{on_its_line, meets, edge_of, is_ahead, nearest, concern_by_edge, concern_at}
use Rattle.rbc_zones.specs.Limits.{Limit, is_for, lies_behind, ends_beyond_group, starts_within, concerns}
use Rattle.rbc_zones.specs.Marks.{mark_at, stop_marks, limit_marks}

-- a line whose mark is another is another line
other_line : (line place : ℕ) → (mark_of line == mark_of place) ≡ false → (line == place) ≡ false
other_line line place other =
    (elim (line == place) as (λ b. (line == place) ≡ b → b ≡ false) [
      | true ↦ λ same. let e : (mark_of line == mark_of place) ≡ true = eq-eqb (mark_of line) (mark_of place) (ap mark_of (eqb-true line place same)) in absurd (let bad : true ≡ false = sym e ∙ other in cc)
      | false ↦ λ same. refl
    ]) refl

-- no segment whose mark is not among some lies on the line
none_on_line : (p : Place) (segments all : List Segment) (at : ℕ) → ((k : ℕ) → slice_get all (at + k) ≡ slice_get segments k)
    → has_mark (mark_of p.line) (map (mark_at all) (range_with_len at (length segments))) ≡ false → on_its_line p segments ≡ []
none_on_line p [] all at same none = refl
none_on_line p (segment ∷ segments) all at same none =
    let parts = or_parts (mark_at all at == mark_of p.line) (has_mark (mark_of p.line) (map (mark_at all) (range_with_len (at + 1) (length segments)))) none in
    let first : slice_get all at ≡ Some segment = ap (slice_get all) (plain at) ∙ same 0 in
    let its : mark_at all at ≡ mark_of segment.line = ap (λ (o : Option Segment). option_map_or (λ segment. mark_of segment.line) o 255) first in
    let elsewhere : (segment.line == p.line) ≡ false = other_line segment.line p.line (sym (ap (λ m. m == mark_of p.line) its) ∙ parts.0) in
    ap (λ b. cond b (segment ∷ on_its_line p segments) (on_its_line p segments)) elsewhere
    ∙ none_on_line p segments all (at + 1) (λ k. ap (slice_get all) (next at k) ∙ same (suc k)) parts.1
  where
    plain : (at : ℕ) → at ≡ at + 0
    plain at = omega arith

    next : (at k : ℕ) → at + 1 + k ≡ at + suc k
    next at k = omega arith

-- of more marks fewer are none
fewer : (mark : ℕ) (all : List Segment) (at count more : ℕ) → count ≤ more → has_mark mark (map (mark_at all) (range_with_len at more)) ≡ false → has_mark mark (map (mark_at all) (range_with_len at count)) ≡ false
fewer mark all at zero more le none = refl
fewer mark all at (suc count) zero le none = absurd (omega (arith, le))
fewer mark all at (suc count) (suc more) le none =
    let parts = or_parts (mark_at all at == mark) (has_mark mark (map (mark_at all) (range_with_len (at + 1) more))) none in
    ap (λ b. b || has_mark mark (map (mark_at all) (range_with_len (at + 1) count))) parts.0 ∙ fewer mark all (at + 1) count more (omega (arith, le)) parts.1

-- a stop that does not carry the mark, and is not forced on the train, is nothing to it
pub stop_elsewhere : (p : Place) (area : List Segment) → length area ≤ 8 → has_mark (mark_of p.line) (stop_marks area) ≡ false → concern_at area false p ≡ concern.None
stop_elsewhere p area few none =
    let nothing : on_its_line p area ≡ [] = none_on_line p area area 0 (λ k. ap (slice_get area) (plain k)) (fewer (mark_of p.line) area 0 (length area) 8 few none) in
    ap (λ (segments : List Segment). cond (list_any (meets p) segments) concern.Now (concern_by_edge p (nearest p.facing (filter (is_ahead p.facing p) (map (edge_of p.facing) segments))))) nothing
    ∙ no_edge p.facing
  where
    plain : (k : ℕ) → 0 + k ≡ k
    plain k = omega arith

    no_edge : (way : Way) → concern_by_edge p (nearest way []) ≡ concern.None
    no_edge Up = refl
    no_edge Down = refl

-- a restriction that does not carry the mark does not concern the train
pub limit_elsewhere : (p : Place) (limit : Limit) (horizon : ℕ) → has_mark (mark_of p.line) (limit_marks limit) ≡ false → concerns limit p horizon ≡ false
limit_elsewhere p limit horizon none =
    let parts = or_parts (mark_of limit.segment.line == mark_of p.line) false none in
    ap (λ b. not (not b || not (is_for limit.dirs p.facing) || lies_behind p.facing limit.segment p) && ends_beyond_group limit p && starts_within p.facing limit.segment p horizon) (other_line limit.segment.line p.line parts.0)
