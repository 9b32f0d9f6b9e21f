-- What a block says of an input.
use Rattle.std.specs.Prelude.{◌≡◌, List, Option, IfSome}
use Rattle.rbc_track.specs.Plan.{Plan}
use Rattle.rbc_settle.specs.declared.train.TrainRec.{TrainRec}
use Rattle.rbc_records.specs.declared.record.Key.{Key}
use Rattle.rbc_records.specs.declared.record.Rec.{Rec}
use Rattle.rbc_account.specs.declared.block.Block.{Block}
use Rattle.rbc_account.specs.Deeds.{IsDeed}
use Rattle.rbc_account.specs.Counting.{counts_after, AddUp}
use Rattle.rbc_account.specs.Coming.{come_to_wait}
use Rattle.rbc_account.specs.Subjects.{ArePaired, IsToldOf}

-- A block tells what the input did; for each message, in order, to which train it is sent, what it tells and why; what
-- a stop or a restriction that began means for the trains; and all that began to wait. The records are those after the
-- input; `before` is the train that sent it, as it was before, if a train did.
pub record IsRightBlock (plan : Plan) (records : List (Key × Rec)) (before : Option TrainRec) (block : Block) : Type 0 where
  pub did : IsDeed plan before block.input block.deed
  pub told : ArePaired (IsToldOf records block.input before) block.messages block.told.items
  pub counted : block.counts ≡ counts_after plan.horizon records block.input block.reply
  pub add_up : IfSome block.counts AddUp
  pub waits : block.waiting.items ≡ come_to_wait plan.horizon records before block.input block.reply
