-- Active values under ascending numbers (own rule).
use Rattle.std.specs.Prelude.{ℕ, ◌≤◌, List, [], IsTrue}
use Rattle.std.specs.List.{All}
use Rattle.rbc_maps.specs.Maps.{rises_from, keys}

-- the active values with their numbers, and the last number that was ever given
pub record Numbered (V : Type 0) : Type 0 where
  pub last : ℕ
  pub active : List (ℕ × V)

-- no number was ever given
abbrev pub none_numbered : {V : Type 0} → Numbered V
none_numbered = record { last = 0; active = [] }

-- the numbers of the active values ascend, are above 0, and are not above the last one
pub record AreNumbered {V : Type 0} (n : Numbered V) : Type 0 where
  pub ascending : IsTrue (rises_from 1 (keys n.active))
  pub within : All (λ number. number ≤ n.last) (keys n.active)
