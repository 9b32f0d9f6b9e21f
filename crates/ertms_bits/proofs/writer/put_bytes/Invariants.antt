use Rattle.std.proofs.Common.{◌≡◌, ◌+◌, ◌*◌, ◌-◌, ◌^◌, ◌%◌, ◌++◌, take, drop}
use Rattle.ertms_bits.specs.Bits.{bits_of, bits_of_bytes}
use Rattle.ertms_bits.proofs.writer.put_bytes.Given as goal

abbrev pub invariant-loop-i : goal.invariant-loop-i
invariant-loop-i l = record {
  rest : l.rest ≡ l.window * 2 ^ (8 * (l.i - l.at)) % 2 ^ 64;
  bits : bits_of_bytes (take l.i l.buffer) ≡ bits_of_bytes (take l.at l.fn.buffer) ++ take (8 * (l.i - l.at)) (bits_of 64 l.window);
  behind : drop (l.at + l.count) l.buffer ≡ drop (l.at + l.count) l.fn.buffer;
}
