-- The balise group that a train at a place has passed last: the nearest one at the place or behind it (own rule).
use Rattle.std.specs.Prelude.{◌≡◌, ℕ, ◌≤◌, ◌==◌, ◌&&◌, Bool, nat_le, Option, Some, if◌then◌else◌, List}
use Rattle.std.specs.List.{filter, reduce}
use Rattle.rbc_track.specs.declared.group.Group.{Group}
use Rattle.rbc_track.specs.declared.group.Way.{Way}
use Rattle.rbc_track.specs.declared.group.Way.TheVariants.{Up, Down}
use Rattle.rbc_track.specs.Plan.{Plan, group_of, IsPlaced}

-- the second place is the first one, or lies behind it, as a train faces
abbrev pub LiesBehind : Way → ℕ → ℕ → Type 0
LiesBehind Up place at = at ≤ place
LiesBehind Down place at = place ≤ at

-- a balise group stands on a line, at a place or behind it, as a train faces
pub record StandsBehind (line place : ℕ) (facing : Way) (group : Group) : Type 0 where
  pub on : group.line ≡ line
  pub behind : LiesBehind facing place group.at

-- of the balise groups of a plan, this one is the nearest that stands behind: each other one lies behind it, or at its
-- place and has a higher number
pub record IsNearestBehind (plan : Plan) (line place : ℕ) (facing : Way) (found : ℕ × Group) : Type 0 where
  pub known : group_of plan found.0 ≡ Some found.1
  pub placed : IsPlaced plan found.0 found.1
  pub behind : StandsBehind line place facing found.1
  pub nearest : (nid : ℕ) (group : Group) → group_of plan nid ≡ Some group → StandsBehind line place facing group
      → LiesBehind facing found.1.at group.at
  pub least : (nid : ℕ) (group : Group) → group_of plan nid ≡ Some group → group.line ≡ line → group.at ≡ found.1.at
      → found.0 ≤ nid

-- no balise group of a plan stands behind
abbrev pub NoneBehind : Plan → ℕ → ℕ → Way → Type 0
NoneBehind plan line place facing =
    (nid : ℕ) (group : Group) → group_of plan nid ≡ Some group → ¬ StandsBehind line place facing group

-- ---- as tests and a search, for the functions of behind.rt

-- the same as LiesBehind, as a test
abbrev pub is_behind : Way → ℕ → ℕ → Bool
is_behind Up place at = nat_le at place
is_behind Down place at = nat_le place at

-- the same as StandsBehind, as a test
abbrev pub stands_behind : ℕ → ℕ → Way → Group → Bool
stands_behind line place facing group = (group.line == line) && is_behind facing place group.at

-- the nearer of two balise groups that stand behind, or the first one if they stand at the same place
abbrev pub nearer : Way → ℕ × Group → ℕ × Group → ℕ × Group
nearer facing found next = if is_behind facing found.1.at next.1.at then found else next

-- the nearest of the balise groups that stand behind
abbrev pub nearest_of : ℕ → ℕ → Way → List (ℕ × Group) → Option (ℕ × Group)
nearest_of line place facing groups =
    reduce (nearer facing) (filter (λ entry. stands_behind line place facing entry.1) groups)
