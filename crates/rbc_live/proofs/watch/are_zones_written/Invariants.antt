use Rattle.std.proofs.Common.{◌≡◌, false, take}
use Rattle.rbc_live.specs.Watching.{are_zones_written}
use Rattle.rbc_live.proofs.watch.are_zones_written.Given as goal

-- no write so far is of them
abbrev pub invariant-loop-index : goal.invariant-loop-index
invariant-loop-index l = are_zones_written (take l.index l.writes) ≡ false
