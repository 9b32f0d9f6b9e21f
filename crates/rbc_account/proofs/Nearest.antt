-- The nearest edge ahead, found one segment after another.
use Rattle.std.proofs.Common.{◌≡◌, ℕ, ◌+◌, ◌<◌, ◌≤◌, min, max, Bool, true, false, ◌==◌, cond, List, [], ◌∷◌, length, get_or, drop, map, Option, Some, None, refl, ◌∙◌}
use Rattle.std.specs.List.{filter, fold}
use Rattle.std.specs.Option.{option_map_or}
use Rattle.std.proofs.lemmas.List.{at_drop_more, at_drop_all}
use Rattle.rbc_track.specs.declared.group.Way.{Way}
use Rattle.rbc_track.specs.declared.group.Way.TheVariants.{Up, Down}
use Rattle.rbc_place.specs.Placing.{Place}
use Rattle.rbc_zones.specs.declared.segment.Segment.{Segment}
use Rattle.rbc_zones.specs.Inside.{no_segment}
use Rattle.rbc_zones.specs.Concerns.{on_its_line, edge_of, is_ahead, edges_ahead, nearest}
use Rattle.rbc_zones.specs.Nearer.{first_of}
use Rattle.rbc_account.specs.Reasons.{nearer_on_line}

-- the nearest of one edge and of further ones
joined : Way → Option ℕ → List ℕ → Option ℕ
joined way None edges = nearest way edges
joined Up (Some edge) edges = Some (fold min edge edges)
joined Down (Some edge) edges = Some (fold max edge edges)

joined_next : (way : Way) (found : Option ℕ) (edge : ℕ) (edges : List ℕ) (ahead : Bool)
    → joined way found (cond ahead (edge ∷ edges) edges) ≡ joined way (cond ahead (Some (option_map_or (λ other. first_of way other edge) found edge)) found) edges
unfolding joined
joined_next way found edge edges false = refl
joined_next Up None edge edges true = refl
joined_next Down None edge edges true = refl
joined_next Up (Some other) edge edges true = refl
joined_next Down (Some other) edge edges true = refl

joined_none : (way : Way) (found : Option ℕ) → joined way found [] ≡ found
unfolding joined
joined_none Up None = refl
joined_none Down None = refl
joined_none Up (Some edge) = refl
joined_none Down (Some edge) = refl

-- the nearest edge ahead, from the nearest one so far and the segments that are left
pub nearest_from : Place → Option ℕ → List Segment → Option ℕ
nearest_from p found rest = joined p.facing found (edges_ahead p rest)

pub from_start : (p : Place) (segments : List Segment) → nearest_from p None segments ≡ nearest p.facing (edges_ahead p segments)
unfolding nearest_from joined
from_start p segments = refl

from_end : (p : Place) (found : Option ℕ) → nearest_from p found [] ≡ found
unfolding nearest_from
from_end p found = joined_none p.facing found

-- one segment more
from_more : (p : Place) (found : Option ℕ) (segment : Segment) (rest : List Segment) → nearest_from p found (segment ∷ rest) ≡ nearest_from p (nearer_on_line p found segment) rest
unfolding nearest_from
from_more p found segment rest =
    let others = on_its_line p rest in
    let edge = edge_of p.facing segment in
    let edges = filter (is_ahead p.facing p) (map (edge_of p.facing) others) in
    let ahead = is_ahead p.facing p edge in
    elim (segment.line == p.line) as (λ b.
    joined p.facing found (filter (is_ahead p.facing p) (map (edge_of p.facing) (cond b (segment ∷ others) others)))
    ≡ joined p.facing (cond b (cond ahead (Some (option_map_or (λ other. first_of p.facing other edge) found edge)) found) found) edges) [
      | true ↦ joined_next p.facing found edge edges ahead
      | false ↦ refl
    ]

-- the steps of the loop
pub one_more : (p : Place) (found : Option ℕ) (segments : List Segment) (i : ℕ) → i < length segments
    → nearest_from p found (drop i segments) ≡ nearest_from p (nearer_on_line p found (get_or segments i no_segment)) (drop (i + 1) segments)
one_more p found segments i within = at_drop_more (nearest_from p found) segments i no_segment within ∙ from_more p found _ _

pub all_seen : (p : Place) (found : Option ℕ) (segments : List Segment) (i : ℕ) → length segments ≤ i → nearest_from p found (drop i segments) ≡ found
all_seen p found segments i all = at_drop_all (nearest_from p found) segments i all ∙ from_end p found
