use Rattle.std.proofs.Common.{arith}
use Rattle.ertms_codec.specs.PacketsToTrain.{most_packets}
use Rattle.ertms_c.proofs.Filled.{one_filled}
use Rattle.ertms_c.proofs.to_train.packets_fields.Goals as goal

pub loop-index-preserved : goal.loop-index-preserved
loop-index-preserved c =
    one_filled c.args.packets.now c.loop-index.index most_packets c.at.result c.loop-index.fields c.packet_fields.result c.at.ensures (omega (arith, c.count-index-end.ensures.most)) c.loop-index.invariant c.packet_fields.ensures
