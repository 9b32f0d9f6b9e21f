use Rattle.std.proofs.Common.{◌≡◌, ℕ, ◌<◌, ◌≤◌, false, get_or}
use Rattle.rbc_records.specs.ToldBits.{has_bit}
use Rattle.rbc_records.proofs.told_bits.in_some.Given as goal

-- if the bit is not set so far, no word so far has it
abbrev pub invariant-loop-index : goal.invariant-loop-index
invariant-loop-index l = has_bit l.all l.number ≡ false → (i : ℕ) → l.begin ≤ i → i < l.index → has_bit (get_or l.words i 0) l.number ≡ false
