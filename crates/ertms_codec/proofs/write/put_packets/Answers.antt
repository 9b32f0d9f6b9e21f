use Rattle.std.proofs.Common.{ℕ, ◌+◌, ◌≤◌, ◌<◌, List, length, take, get_or, arith, length-take-le}
use Rattle.std.specs.List.{flat_map}
use Rattle.ertms_codec.specs.declared.packets.Part.{Part}
use Rattle.ertms_codec.specs.PacketsToTrain.{fields_of_packet}
use Rattle.ertms_codec.specs.Written.{Writes}
use Rattle.ertms_codec.proofs.PacketFields.{one_more_at, packets_width}
use Rattle.ertms_codec.proofs.Written.{Writes-append}
use Rattle.ertms_codec.proofs.write.put_packets.Goals as goal

pub put_packet-requires-clause-room : goal.put_packet-requires-clause-room
put_packet-requires-clause-room c =
    let first = take c.loop-part.part-index c.args.packets.now in
    let within : c.loop-part.part-index ≤ length c.args.packets.now = omega arith in
    let count = length-take-le c.loop-part.part-index c.args.packets.now within in
    omega (arith, packets_width first, count)

-- one packet more is written
one_written : (packets : List Part) (i : ℕ) (d : Part) {start middle end : ℕ} {before between after : List ℕ} → i < length packets → Writes (flat_map fields_of_packet (take i packets)) start before middle between → Writes (fields_of_packet (get_or packets i d)) middle between end after → Writes (flat_map fields_of_packet (take (i + 1) packets)) start before end after
one_written packets i d within so_far one = rw (one_more_at fields_of_packet packets i d within) (Writes-append so_far one)

pub loop-part-preserved : goal.loop-part-preserved
loop-part-preserved c =
    record { written = one_written c.args.packets.now c.loop-part.part-index _ (omega arith) c.loop-part.invariant.written c.put_packet.ensures; long = omega arith }
