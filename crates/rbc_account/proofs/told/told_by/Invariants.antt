use Rattle.std.proofs.Common.{take, option_copied}
use Rattle.rbc_account.specs.Subjects.{ArePaired, IsToldOf}
use Rattle.rbc_account.specs.Found.{IsKnown}
use Rattle.rbc_account.proofs.told.told_by.Given as goal

-- one is told for each message that was looked at, rightly
abbrev pub invariant-loop-index : goal.invariant-loop-index
invariant-loop-index l = record {
  right : ArePaired (IsToldOf l.desk.records l.input (option_copied l.before)) (take l.index l.messages) l.told.items;
  known : ArePaired (IsKnown l.desk.records l.input (option_copied l.before)) (take l.index l.messages) l.told.items;
}
