use Rattle.std.proofs.Common.{◌<◌}
use Rattle.std.specs.List.{AllPass}
use Rattle.hex.specs.Hex.{is_hex_digit}
use Rattle.rbc_text.proofs.DigitValues.{AreDecoded}
use Rattle.rbc_text.proofs.digits.bytes_of_digits.Given as goal

abbrev pub invariant-loop-index : goal.invariant-loop-index
invariant-loop-index l = record {
  spelled : l.all < 256 → AreDecoded l.digits l.bytes l.index;
  found : AllPass is_hex_digit l.digits → l.all < 256;
}
