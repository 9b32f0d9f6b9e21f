use Rattle.std.proofs.Common.{length, map}
use Rattle.rbc_settle.specs.Actions.{ChangesLimits, groups}
use Rattle.rbc_settle.proofs.SettleLoop.{IsOnTheWay}
use Rattle.rbc_settle.proofs.carrying_out.change_limits.Given as goal

-- what was done so far, and what is left, is what was to be done
abbrev pub invariant-loop-rest : goal.invariant-loop-rest
invariant-loop-rest l = IsOnTheWay l.fn.train (map ChangesLimits (groups l.changes)) l.fn.sent.items l.train l.sent.items (map ChangesLimits (groups l.rest))

-- each message leaves fewer
abbrev pub decreases-loop-rest : goal.decreases-loop-rest
decreases-loop-rest l = length l.rest
