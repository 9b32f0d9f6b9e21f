use Rattle.std.proofs.Common.{◌≡◌, ◌*◌, ◌++◌, length, take, drop}
use Rattle.hex.specs.Hex.{encode_upper}
use Rattle.rbc_text.proofs.output.push_digits.Given as goal

-- the digits that stand there, with those of the bytes that are left, are all
abbrev pub invariant-loop-index : goal.invariant-loop-index
invariant-loop-index l = record {
  room : length l.digits ≡ 2 * length l.bytes;
  written : take (2 * l.index) l.digits ++ encode_upper (drop l.index l.bytes) ≡ encode_upper l.bytes;
}
