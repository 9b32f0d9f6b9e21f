use Rattle.std.proofs.Common.{◌≡◌, ◌++◌}
use Rattle.std.specs.Vec.Iter.{into_iter_items}
use Rattle.rbc_window.specs.Shares.{train_writes}
use Rattle.rbc_window.proofs.trains.Trains.write.Given as goal

-- what is written, and then what is left, is what all trains write
abbrev pub invariant-loop-engine : goal.invariant-loop-engine
invariant-loop-engine l = l.writes ++ train_writes (into_iter_items l.engine-iterator) ≡ l.fn.writes ++ train_writes l.fn.self
