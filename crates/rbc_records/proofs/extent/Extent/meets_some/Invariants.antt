use Rattle.std.proofs.Common.{◌≡◌, ℕ, ◌<◌, ◌≤◌, false, get_or}
use Rattle.rbc_records.specs.Extents.{meet}
use Rattle.rbc_records.proofs.extent.Extent.meets_some.Given as goal

-- if none was met so far, none so far has a place in common
abbrev pub invariant-loop-index : goal.invariant-loop-index
invariant-loop-index l = l.any ≡ false → (i : ℕ) → l.begin ≤ i → i < l.index → meet l.self (get_or l.least i 0) (get_or l.most i 0) ≡ false
