use Rattle.std.proofs.Common.{◌≡◌, drop, fold}
use Rattle.rbc_settle.specs.Settling.{limit_changed}
use Rattle.rbc_settle.specs.Following.{CanChangeAll}
use Rattle.rbc_settle.proofs.carrying_out.change_all.Given as goal

-- what is left may be made, and leads to what all lead to
abbrev pub invariant-loop-change : goal.invariant-loop-change
invariant-loop-change l =
    CanChangeAll l.stamp l.limits (drop l.change-index l.changes)
    × (fold (limit_changed l.stamp) l.limits (drop l.change-index l.changes) ≡ fold (limit_changed l.stamp) l.fn.limits l.changes)
