use Rattle.std.proofs.Common.{take, option_copied}
use Rattle.std.specs.List.{AllByRecursion}
use Rattle.rbc_account.specs.Whys.{IsPacket}
use Rattle.rbc_account.specs.Places.{TellsPart}
use Rattle.rbc_account.specs.Subjects.{ArePaired, IsOfLimit}
use Rattle.rbc_account.specs.Found.{IsKnownPacket}
use Rattle.rbc_account.proofs.told.restrictions.Given as goal

-- one is told for each packet that was looked at, rightly
abbrev pub invariant-loop-index : goal.invariant-loop-index
invariant-loop-index l = record {
  each : AllByRecursion (IsPacket l.desk.records l.train) l.told.items;
  about : ArePaired (IsOfLimit l.input (option_copied l.before) l.train) (take l.index l.packets) l.told.items;
  kind : ArePaired TellsPart (take l.index l.packets) l.told.items;
  known : ArePaired (IsKnownPacket l.desk.records l.input (option_copied l.before) l.train) (take l.index l.packets) l.told.items;
}
