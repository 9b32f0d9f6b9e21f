use Rattle.std.proofs.Common.{◌≤◌, ◌+◌, ◌-◌, length}
use Rattle.rbc_settle.proofs.Merging.{IsMergedTo}
use Rattle.rbc_settle.proofs.numbers.Numbers.union.Given as goal

-- what is done, and what is left of either list, is a merge of both
abbrev pub invariant-loop-i : goal.invariant-loop-i
invariant-loop-i l = record {
  i_within : l.i ≤ length l.self-inside.all.items;
  j_within : l.j ≤ length l.other-inside.all.items;
  merged : IsMergedTo l.all.items l.i l.j l.self-inside.all.items l.other-inside.all.items;
}

abbrev pub decreases-loop-i : goal.decreases-loop-i
decreases-loop-i l = (length l.self-inside.all.items - l.i) + (length l.other-inside.all.items - l.j)
