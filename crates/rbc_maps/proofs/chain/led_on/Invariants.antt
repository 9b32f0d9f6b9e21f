use Rattle.std.proofs.Common.{◌≡◌, ◌<◌, ℕ, length, slice_index}
use Rattle.rbc_maps.proofs.chain.led_on.Given as goal

-- the slots that were passed are led on
abbrev pub invariant-loop-slot : goal.invariant-loop-slot
invariant-loop-slot g l = (length l.led ≡ g.row.N) × ((k : ℕ) → k < l.slot → slice_index l.led k ≡ slice_index l.first (slice_index l.own k))
