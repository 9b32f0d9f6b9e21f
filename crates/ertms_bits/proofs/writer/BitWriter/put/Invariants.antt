use Rattle.std.proofs.Common.{◌≡◌, ◌+◌, ◌-◌, ◌≤◌, ◌^◌, ◌/◌, ◌++◌, take, drop}
use Rattle.ertms_bits.specs.Bits.{bits_of, bits_of_bytes, bytes_for}
use Rattle.ertms_bits.proofs.writer.BitWriter.put.Given as goal

abbrev pub invariant-loop-rest : goal.invariant-loop-rest
invariant-loop-rest l = record {
  left : l.rest ≤ l.width;
  place : l.self + l.rest ≡ l.fn.self + l.width;
  bits : take l.self (bits_of_bytes l.buffer) ≡ take l.fn.self (bits_of_bytes l.fn.buffer) ++ bits_of (l.width - l.rest) (l.value / 2 ^ l.rest);
  behind : drop (bytes_for (l.fn.self + l.width)) l.buffer ≡ drop (bytes_for (l.fn.self + l.width)) l.fn.buffer;
}

abbrev pub decreases-loop-rest : goal.decreases-loop-rest
decreases-loop-rest l = l.rest
