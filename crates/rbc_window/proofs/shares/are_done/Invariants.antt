use Rattle.std.proofs.Common.{◌≡◌, ℕ, ◌<◌, true, Some, slice_get}
use Rattle.rbc_window.specs.declared.share.Share.{Share}
use Rattle.rbc_window.proofs.shares.are_done.Given as goal

-- the shares so far stand at their places, and are done
abbrev pub invariant-loop-place : goal.invariant-loop-place
invariant-loop-place l = (at : ℕ) (share : Share) → at < l.place → slice_get l.all at ≡ Some share → (share.number ≡ at) × (share.is_done ≡ true)
