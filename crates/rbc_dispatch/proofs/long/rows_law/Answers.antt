use Rattle.std.proofs.Common.{arith, length}
use Rattle.ertms_bits.specs.Bits.{bits_of_bytes}
use Rattle.ertms_bits.proofs.Numbers.{AreBits-bits_of_bytes}
use Rattle.rbc_dispatch.specs.Variables.{beginning}
use Rattle.rbc_dispatch.proofs.Rows.{shown}
use Rattle.rbc_dispatch.proofs.long.rows_law.Goals as goal

pub returns : goal.returns
returns c = λ bytes. shown (length (bits_of_bytes bytes)) 0 beginning (bits_of_bytes bytes) (AreBits-bits_of_bytes bytes) (omega arith)
