use Rattle.std.proofs.Common.{◌≡◌, ◌-◌, ◌++◌, map, take, replicate}
use Rattle.ertms_codec.specs.PacketsToTrain.{most_packets}
use Rattle.ertms_c.specs.ToTrainFields.{packet_fields, no_packet}
use Rattle.ertms_c.proofs.to_train.packets_fields.Given as goal

-- the first packets stand at the front
abbrev pub invariant-loop-index : goal.invariant-loop-index
invariant-loop-index l = l.fields ≡ map packet_fields (take l.index l.packets) ++ replicate (most_packets - l.index) no_packet
