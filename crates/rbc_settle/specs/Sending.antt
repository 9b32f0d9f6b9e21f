-- What is sent when actions are carried out, one after another.
use Rattle.std.specs.Prelude.{◌≡◌, ◌+◌, ◌≤◌, List, ◌++◌, length}
use Rattle.std.specs.List.{All, fold, scan}
use Rattle.ertms_codec.specs.ToTrain.{Fits}
use Rattle.rbc_settle.specs.declared.train.TrainRec.{TrainRec}
use Rattle.rbc_settle.specs.declared.sent.Sent.{Sent}
use Rattle.rbc_settle.specs.Actions.{Action}
use Rattle.rbc_settle.specs.Settling.{last_stamp, carried_out, message_of, to_engine}
use Rattle.rbc_settle.specs.Following.{CanFollow}
use Rattle.rbc_settle.specs.UpToDate.{HasTables}

-- a train can take some actions, one after another: each is allowed at its turn, and has a stamp
pub record CanTake (train : TrainRec) (actions : List Action) : Type 0 where
  pub tables : HasTables train
  pub follows : CanFollow train actions
  pub stamps : train.stamp + length actions ≤ last_stamp

-- A train has taken the actions, and their messages were sent to it after others. Each message fits if the others do.
pub record HasTaken (start : TrainRec) (actions : List Action) (before : List Sent) (now : TrainRec) (sent : List Sent) : Type 0 where
  pub train : now ≡ fold carried_out start actions
  pub told : sent ≡ before ++ to_engine start.engine (scan carried_out message_of start actions)
  pub fit : All (λ one. Fits one.message) before → All (λ one. Fits one.message) sent

-- messages were sent after others
pub record AreBehind (before sent : List Sent) : Type 0 where
  pub more : List Sent
  pub is : sent ≡ before ++ more
