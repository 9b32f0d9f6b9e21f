-- When a train is judged by what lies on its line alone (own rule).
use Rattle.std.specs.Prelude.{◌≡◌, ℕ, [], Some}
use Rattle.rbc_zones.specs.Placing.{Place}
use Rattle.rbc_settle.specs.declared.train.TrainRec.{TrainRec}

-- A train stands on a line and rejected no stop, so that no stop elsewhere concerns it.
pub record IsJudgedOnLine (train : TrainRec) (line : ℕ) : Type 0 where
  pub place : Place
  pub placed : train.place ≡ Some place
  pub on_line : place.line ≡ line
  pub none_forced : train.forced ≡ []
