use Rattle.std.proofs.Common.{◌≡◌, ◌*◌}
use Rattle.ertms_bits.specs.Bits.{bits_of_bytes, number_of}
use Rattle.ertms_bits.proofs.reader.first_bits.Given as goal

abbrev pub invariant-loop-i : goal.invariant-loop-i
invariant-loop-i l = l.window ≡ number_of (8 * l.i) (bits_of_bytes l.bytes)
