-- What a train is told of a stop or a restriction (SUBSET-026, 7.5).
use Rattle.std.specs.Prelude.{ℕ, Bool}

-- an edge before which a train stops: Q_DIR, Q_SCALE, D_EMERGENCYSTOP
pub record Edge : Type 0 where
  pub dir : ℕ
  pub scale : ℕ
  pub distance : ℕ

-- a restricted part of a line: Q_DIR, Q_SCALE, D_TSR, L_TSR, Q_FRONT, V_TSR
pub record Part : Type 0 where
  pub dir : ℕ
  pub scale : ℕ
  pub start : ℕ
  pub length : ℕ
  pub front : Bool
  pub speed : ℕ
