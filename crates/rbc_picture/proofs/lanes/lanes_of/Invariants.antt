use Rattle.std.proofs.Common.{◌≡◌, ◌+◌, length, vec_len}
use Rattle.std.specs.Vec.Iter.{into_iter_items}
use Rattle.rbc_picture.proofs.lanes.lanes_of.Given as goal

abbrev pub invariant-loop-item : goal.invariant-loop-item
invariant-loop-item l = vec_len l.from_left ≡ l.item

abbrev pub invariant-loop-left : goal.invariant-loop-left
invariant-loop-left l = vec_len l.taken + length (into_iter_items l.left-iterator) ≡ length l.extents
