-- What a stop means for a train, from the segments that are left and the nearest edge of those before.
use Rattle.std.proofs.Common.{◌≡◌, ◌≢◌, ℕ, ◌<◌, ◌≤◌, ◌+◌, min, max, Bool, true, false, ◌||◌, ◌==◌, if◌then◌else◌, cond, List, [], ◌∷◌, length, get_or, drop, map, Option, Some, None, refl, ap, ◌∙◌}
use Rattle.std.specs.List.{filter, fold, list_any}
use Rattle.std.specs.Option.{option_map_or}
use Rattle.std.proofs.lemmas.Bool.{eq-eqb, ne_eqb}
use Rattle.std.proofs.lemmas.List.{at_drop_more, at_drop_all}
use Rattle.rbc_place.specs.Way.{Way}
use Rattle.rbc_place.specs.Way.TheVariants.{Up, Down}
use Rattle.rbc_place.specs.Placing.{Place}
use Rattle.rbc_zones.specs.declared.segment.Segment.{Segment}
use Rattle.rbc_zones.specs.declared.stop_meaning.Concern.{Concern}
use Rattle.rbc_zones.specs.declared.stop_meaning.Concern.TheVariants as concern
use Rattle.rbc_zones.specs.Inside.{no_segment}
use Rattle.rbc_zones.specs.Concerns.{on_its_line, meets, edge_of, is_ahead, nearest, concern_by_edge, concern_at}
use Rattle.rbc_zones.specs.Nearer.{first_of, nearer}

-- the nearest of one edge and of further ones
pub joined : Way → Option ℕ → List ℕ → Option ℕ
joined way None edges = nearest way edges
joined Up (Some edge) edges = Some (fold min edge edges)
joined Down (Some edge) edges = Some (fold max edge edges)

pub joined_next : (way : Way) (found : Option ℕ) (edge : ℕ) (edges : List ℕ) (ahead : Bool)
    → joined way found (cond ahead (edge ∷ edges) edges) ≡ joined way (cond ahead (Some (option_map_or (λ other. first_of way other edge) found edge)) found) edges
unfolding joined
joined_next way found edge edges false = refl
joined_next Up None edge edges true = refl
joined_next Down None edge edges true = refl
joined_next Up (Some other) edge edges true = refl
joined_next Down (Some other) edge edges true = refl

pub joined_none : (way : Way) (found : Option ℕ) → joined way found [] ≡ found
unfolding joined
joined_none Up None = refl
joined_none Down None = refl
joined_none Up (Some edge) = refl
joined_none Down (Some edge) = refl

-- what a stop means, from segments on the train's line and the nearest edge of those before them
abbrev by_segments : Place → Option ℕ → List Segment → Concern
by_segments p found segments =
    if list_any (meets p) segments then concern.Now
    else concern_by_edge p (joined p.facing found (filter (is_ahead p.facing p) (map (edge_of p.facing) segments)))

-- what a stop means, from the nearest edge so far and the segments that are left
pub concern_from : Place → Option ℕ → List Segment → Concern
concern_from p found rest = by_segments p found (on_its_line p rest)

pub from_start : (p : Place) (segments : List Segment) → concern_from p None segments ≡ concern_at segments false p
unfolding concern_from joined
from_start p segments = refl

from_end : (p : Place) (found : Option ℕ) → concern_from p found [] ≡ concern_by_edge p found
unfolding concern_from
from_end p found = ap (concern_by_edge p) (joined_none p.facing found)

from_elsewhere : (p : Place) (found : Option ℕ) (segment : Segment) (rest : List Segment) → (segment.line == p.line) ≡ false → concern_from p found (segment ∷ rest) ≡ concern_from p found rest
unfolding concern_from
from_elsewhere p found segment rest e = ap (λ b. by_segments p found (cond b (segment ∷ on_its_line p rest) (on_its_line p rest))) e

from_met : (p : Place) (found : Option ℕ) (segment : Segment) (rest : List Segment) → (segment.line == p.line) ≡ true → meets p segment ≡ true → concern_from p found (segment ∷ rest) ≡ concern.Now
unfolding concern_from
from_met p found segment rest e met =
    ap (λ b. by_segments p found (cond b (segment ∷ on_its_line p rest) (on_its_line p rest))) e
    ∙ ap (λ b. if b || list_any (meets p) (on_its_line p rest) then concern.Now else concern_by_edge p (joined p.facing found (filter (is_ahead p.facing p) (map (edge_of p.facing) (segment ∷ on_its_line p rest))))) met

from_passed : (p : Place) (found : Option ℕ) (segment : Segment) (rest : List Segment) → (segment.line == p.line) ≡ true → meets p segment ≡ false → concern_from p found (segment ∷ rest) ≡ concern_from p (nearer p found segment) rest
unfolding concern_from
from_passed p found segment rest e passed =
    let others = on_its_line p rest in
    let edge = edge_of p.facing segment in
    let edges = filter (is_ahead p.facing p) (map (edge_of p.facing) others) in
    ap (λ b. by_segments p found (cond b (segment ∷ others) others)) e
    ∙ ap (λ b. if b || list_any (meets p) others then concern.Now else concern_by_edge p (joined p.facing found (filter (is_ahead p.facing p) (map (edge_of p.facing) (segment ∷ others))))) passed
    ∙ ap (λ (o : Option ℕ). if list_any (meets p) others then concern.Now else concern_by_edge p o) (joined_next p.facing found edge edges (is_ahead p.facing p edge))

-- the steps of the loop at one of its segments
module _ (p : Place) (found : Option ℕ) (segments : List Segment) (i : ℕ) (within : i < length segments) where
  abbrev here : Segment
  here = get_or segments i no_segment

  pub elsewhere_more : here.line ≢ p.line → concern_from p found (drop i segments) ≡ concern_from p found (drop (i + 1) segments)
  elsewhere_more other = at_drop_more (concern_from p found) segments i no_segment within ∙ from_elsewhere p found here _ (ne_eqb _ _ other)

  pub met_now : here.line ≡ p.line → meets p here ≡ true → concern_from p found (drop i segments) ≡ concern.Now
  met_now same met = at_drop_more (concern_from p found) segments i no_segment within ∙ from_met p found here _ (eq-eqb _ _ same) met

  pub passed_more : here.line ≡ p.line → meets p here ≡ false → concern_from p found (drop i segments) ≡ concern_from p (nearer p found here) (drop (i + 1) segments)
  passed_more same passed = at_drop_more (concern_from p found) segments i no_segment within ∙ from_passed p found here _ (eq-eqb _ _ same) passed

pub all_passed : (p : Place) (found : Option ℕ) (segments : List Segment) (i : ℕ) → length segments ≤ i → concern_from p found (drop i segments) ≡ concern_by_edge p found
all_passed p found segments i all = at_drop_all (concern_from p found) segments i all ∙ from_end p found
