use Rattle.std.proofs.Common.{◌≡◌, ◌≤◌, length, drop}
use Rattle.rbc_maps.specs.Chains.{AreHeads, AreLinksFrom}
use Rattle.rbc_maps.proofs.chain.chain.Given as goal

-- the values from a place on are chained
abbrev pub invariant-loop-at : goal.invariant-loop-at
invariant-loop-at g l =
    (l.at ≤ length l.marks) × (length l.next.items ≡ length l.marks) × (length l.first.items ≡ 128) × AreHeads l.at (drop l.at l.marks) l.first.items × AreLinksFrom g.row.N l.at l.marks l.next.items

abbrev pub decreases-loop-at : goal.decreases-loop-at
decreases-loop-at g l = l.at
