use Rattle.std.proofs.Common.{◌≡◌, ◌++◌, string_bytes, ℕ, ◌≤◌, length}
use Rattle.std.specs.List.{flat_map}
use Rattle.rbc_dispatch.specs.Long.{line_of, long_text}
use Rattle.rbc_dispatch.specs.Variables.{rows_from}
use Rattle.rbc_dispatch.proofs.long.long_text.Given as goal

-- the text so far, and the lines of the bits that are left, are the whole text
abbrev pub invariant-loop-bits : goal.invariant-loop-bits
invariant-loop-bits l = (most : ℕ) → length l.bits ≤ most → string_bytes l.text ++ flat_map line_of (rows_from most l.place l.at l.bits) ≡ long_text l.fn.bytes

abbrev pub decreases-loop-bits : goal.decreases-loop-bits
decreases-loop-bits l = length l.bits
