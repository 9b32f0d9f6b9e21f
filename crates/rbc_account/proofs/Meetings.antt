-- What the first stretch that meets a place, and the nearest edge ahead, say of what a stop means.
use Rattle.std.proofs.Common.{◌≡◌, ℕ, true, false, ◌==◌, ◌&&◌, ◌||◌, cond, if◌then◌else◌, List, [], ◌∷◌, Option, Some, None, is_some, refl, sym, ap, ◌∙◌}
use Rattle.std.specs.List.{list_any}
use Rattle.std.specs.Option.{unwrap_or}
use Rattle.rbc_place.specs.Placing.{Place}
use Rattle.rbc_zones.specs.declared.segment.Segment.{Segment}
use Rattle.rbc_zones.specs.declared.stop_meaning.Concern.TheVariants as concern
use Rattle.rbc_zones.specs.Concerns.{on_its_line, meets, edges_ahead, nearest, is_behind_group, concern_by_edge, concern_at}
use Rattle.rbc_account.specs.Reasons.{first_met}

-- a segment on the line of the train meets its place where a first such one is found
any_met : (p : Place) (area : List Segment) → list_any (meets p) (on_its_line p area) ≡ is_some (first_met area p)
any_met p [] = refl
any_met p (segment ∷ rest) =
    elim (segment.line == p.line) as (λ b.
    list_any (meets p) (cond b (segment ∷ on_its_line p rest) (on_its_line p rest)) ≡ is_some (cond (b && meets p segment) (Some segment) (first_met rest p))) [
      | true ↦ elim (meets p segment) as (λ m. (m || list_any (meets p) (on_its_line p rest)) ≡ is_some (cond m (Some segment) (first_met rest p))) [
        | true ↦ refl
        | false ↦ any_met p rest
      ]
      | false ↦ any_met p rest
    ]

-- a stop that meets the place of a train stops it at once
pub met_now : (p : Place) (area : List Segment) (segment : Segment) → first_met area p ≡ Some segment → concern.Now ≡ concern_at area false p
met_now p area segment found =
    sym (ap (λ b. if b then concern.Now else concern_by_edge p (nearest p.facing (edges_ahead p area))) (any_met p area ∙ ap is_some found))

-- one that does not goes by its nearest edge ahead
pub by_edge : (p : Place) (area : List Segment) → first_met area p ≡ None → concern_at area false p ≡ concern_by_edge p (nearest p.facing (edges_ahead p area))
by_edge p area none =
    ap (λ b. if b then concern.Now else concern_by_edge p (nearest p.facing (edges_ahead p area))) (any_met p area ∙ ap is_some none)

-- ---- what the concern says of the nearest edge

-- the edge that a concern by an edge is about
pub record IsBehind (p : Place) (edge : Option ℕ) (found : ℕ) : Type 0 where
  pub is : edge ≡ Some found
  pub behind : is_behind_group p.facing p.at found ≡ true

pub behind_where_now : (p : Place) (edge : Option ℕ) → concern_by_edge p edge ≡ concern.Now → IsBehind p edge (unwrap_or edge 0)
behind_where_now p None e = absurd (cc e)
behind_where_now p (Some edge) e =
    (elim (is_behind_group p.facing p.at edge) as (λ b. is_behind_group p.facing p.at edge ≡ b → cond b concern.Now (concern.Before edge) ≡ concern.Now → IsBehind p (Some edge) edge) [
      | true ↦ λ behind e. record { is = refl; behind = behind }
      | false ↦ λ behind e. absurd (cc e)
    ]) refl e
