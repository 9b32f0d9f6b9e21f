use Rattle.std.proofs.Common.{◌≡◌, take, length}
use Rattle.std.specs.List.{flat_map}
use Rattle.ertms_codec.specs.PacketsToTrain.{fields_of_packet}
use Rattle.ertms_codec.specs.Written.{Writes}
use Rattle.ertms_codec.proofs.write.put_packets.Given as goal

-- the first packets are written
abbrev pub invariant-loop-part : goal.invariant-loop-part
invariant-loop-part l =
    record { written : Writes (flat_map fields_of_packet (take l.part-index l.packets)) l.fn.place l.fn.buffer l.place l.buffer; long : length l.buffer ≡ 1024 }
