use Rattle.std.proofs.Common.{◌≡◌, ◌++◌, length}
use Rattle.hex.specs.Hex.{encode_upper}
use Rattle.rbc_text.proofs.output.push_hex.Given as goal

-- what stands there, with the digits of what is left, is all
abbrev pub invariant-loop-rest : goal.invariant-loop-rest
invariant-loop-rest l = l.text.items ++ encode_upper l.rest ≡ l.fn.text.items ++ encode_upper l.bytes

abbrev pub decreases-loop-rest : goal.decreases-loop-rest
decreases-loop-rest l = length l.rest
