use Rattle.std.proofs.Common.{◌≡◌, ◌+◌, ◌≤◌, drop, length}
use Rattle.rbc_account.specs.Owed.{different, stamps_owed}
use Rattle.rbc_account.proofs.state.owed_in.Given as goal

-- what is counted so far and the stamps of the slots that are left give those of all slots
abbrev pub invariant-loop-index : goal.invariant-loop-index
invariant-loop-index l = record {
  counted : l.owed + length (different (stamps_owed (drop l.index l.slots))) ≡ length (different (stamps_owed l.slots));
  few : l.owed ≤ l.index;
}
