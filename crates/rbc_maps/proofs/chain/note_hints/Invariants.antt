use Rattle.std.proofs.Common.{◌≡◌, ◌<◌, ℕ, length, slice_index}
use Rattle.rbc_maps.proofs.chain.note_hints.Given as goal

-- the heads stay
abbrev pub invariant-loop-place : goal.invariant-loop-place
invariant-loop-place g l = (length l.first.items ≡ 128) × ((mark : ℕ) → mark < 64 → slice_index l.first.items mark ≡ slice_index l.fn.first.items mark)
