use Rattle.std.proofs.Common.{drop, map}
use Rattle.rbc_settle.specs.Actions.{ChangesStop}
use Rattle.rbc_settle.proofs.SettleLoop.{IsOnTheWay}
use Rattle.rbc_settle.proofs.carrying_out.change_stops.Given as goal

-- what was done so far, and what is left, is what was to be done
abbrev pub invariant-loop-change : goal.invariant-loop-change
invariant-loop-change l = IsOnTheWay l.fn.train (map ChangesStop l.changes) l.fn.sent.items l.train l.sent.items (map ChangesStop (drop l.change-index l.changes))
