use Rattle.std.proofs.Common.{length}
use Rattle.ertms_codec.specs.PacketsToTrain.{most_packets}
use Rattle.ertms_codec.proofs.GeneralReading.{IsUnderWay}
use Rattle.ertms_codec.proofs.to_train_reader.packets.Given as goal

-- the packets so far are read, and what is left decides whether all are packets
abbrev pub invariant-loop-packets : goal.invariant-loop-packets
invariant-loop-packets l = IsUnderWay most_packets l.fn.bits l.packets l.bits

abbrev pub decreases-loop-packets : goal.decreases-loop-packets
decreases-loop-packets l = length l.bits
