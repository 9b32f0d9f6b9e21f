use Rattle.std.proofs.Common.{arith}
use Rattle.rbc_text.proofs.DigitValues.{value_in_table}
use Rattle.rbc_text.proofs.digits.value_of.Goals as goal

pub returns : goal.returns
returns c = rw c.from.ensures (value_in_table c.args.digit (omega arith))
