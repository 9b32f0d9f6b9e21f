use Rattle.std.proofs.Common.{arith}
use Rattle.ertms_bits.proofs.Numbers.{length-left}
use Rattle.ertms_bits.proofs.reader.BitReader.left.Goals as goal

pub returns-then-bytes-eq0 : goal.returns-then-bytes-eq0
returns-then-bytes-eq0 c = rw (← c.self.view_is, length-left) (omega arith)

pub returns : goal.returns
returns c = rw (← c.self.view_is, length-left) (omega arith)
