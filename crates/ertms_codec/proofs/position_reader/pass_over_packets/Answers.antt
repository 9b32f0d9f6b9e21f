use Rattle.std.proofs.Common.{◌≤◌, length, arith}
use Rattle.std.proofs.lemmas.Result.{err_from_is_err_and}
use Rattle.ertms_codec.proofs.PacketLists.{packets_more, packets_less}
use Rattle.ertms_codec.proofs.position_reader.pass_over_packets.Goals as goal

pub loop-bits-preserved : goal.loop-bits-preserved
loop-bits-preserved c =
    let one = c.in_ok-pass_over_packet.ensures in
    let more : 8 ≤ length c.loop-bits.bits = omega (arith, c.left.ensures) in
    record {
      all = λ are. c.loop-bits.invariant.all (packets_more c.loop-bits.bits one.ok (rw one.rest at are));
      rest = λ are. rw one.rest (packets_less c.loop-bits.bits more (c.loop-bits.invariant.rest are)).1;
    }

pub returns-in_err-pass_over_packet-clause-err : goal.returns-in_err-pass_over_packet-clause-err
returns-in_err-pass_over_packet-clause-err c =
    let p = err_from_is_err_and c.from_residual.result c.from_residual.ensures.1 in
    let refused = c.in_err-pass_over_packet.ensures.err in
    let more : 8 ≤ length c.loop-bits.bits = omega (arith, c.left.ensures) in
    rw (p.1, p.2) (λ are. refused.0 (packets_less c.loop-bits.bits more (c.loop-bits.invariant.rest are)).0, refused.1)
