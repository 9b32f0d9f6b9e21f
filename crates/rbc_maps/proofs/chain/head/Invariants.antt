use Rattle.std.proofs.Common.{◌≡◌, length, drop}
use Rattle.rbc_maps.specs.Chains.{headed}
use Rattle.rbc_maps.proofs.chain.head.Given as goal

-- what is done, and the marks that are left, make the heads
abbrev pub invariant-loop-mark : goal.invariant-loop-mark
invariant-loop-mark l = (length l.first.items ≡ 128) × (headed (drop l.mark-index l.own) l.place l.first.items ≡ headed l.own l.place l.fn.first.items)
