use Rattle.std.proofs.Common.{◌≡◌, ◌++◌, flat_map}
use Rattle.std.specs.Vec.Iter.{into_iter_items}
use Rattle.rbc_window.specs.declared.share.Share.{Share}
use Rattle.rbc_window.specs.Shares.{train_writes}
use Rattle.rbc_window.proofs.shares.write_trains.Given as goal

-- what is written, and then what is left, is what all shares write
abbrev pub invariant-loop-share : goal.invariant-loop-share
invariant-loop-share l =
    l.writes ++ flat_map (λ (share : Share). train_writes share.trains) (into_iter_items l.share-iterator)
    ≡ l.fn.writes ++ flat_map (λ (share : Share). train_writes share.trains) l.fn.all.items
