use Rattle.std.proofs.Common.{length}
use Rattle.ertms_codec.specs.FromTrain.{ArePackets}
use Rattle.ertms_codec.proofs.position_reader.pass_over_packets.Given as goal

-- what is left are packets where all are
abbrev pub invariant-loop-bits : goal.invariant-loop-bits
invariant-loop-bits l = record { all : ArePackets l.bits → ArePackets l.fn.bits; rest : ArePackets l.fn.bits → ArePackets l.bits }

abbrev pub decreases-loop-bits : goal.decreases-loop-bits
decreases-loop-bits l = length l.bits
