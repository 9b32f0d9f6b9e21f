use Rattle.std.proofs.Common.{◌≡◌, ℕ, take}
use Rattle.rbc_settle.specs.Numbers.{has_number}
use Rattle.rbc_live.specs.Watching.{is_train_written}
use Rattle.rbc_live.proofs.watch.trains_written.Given as goal

-- the trains that the writes so far are of
abbrev pub invariant-loop-index : goal.invariant-loop-index
invariant-loop-index l = (engine : ℕ) → has_number l.engines engine ≡ is_train_written (take l.index l.writes) engine
