use Rattle.std.proofs.Common.{◌≡◌, ◌≤◌, take}
use Rattle.rbc_ids.specs.Table.{freed_by, marked_by}
use Rattle.rbc_ids.proofs.identifier_table.answered_by.Given as goal

-- the counts so far are those of the slots so far, and no more than these
abbrev pub invariant-loop-slot : goal.invariant-loop-slot
invariant-loop-slot l = record {
  freed : l.freed ≡ freed_by l.stamp (take l.slot-index l.held);
  marked : l.marked ≡ marked_by l.stamp (take l.slot-index l.held);
  few_freed : l.freed ≤ l.slot-index;
  few_marked : l.marked ≤ l.slot-index;
}
