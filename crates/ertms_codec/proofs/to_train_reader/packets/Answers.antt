use Rattle.std.proofs.Common.{◌≤◌, ◌<◌, length, refl, arith}
use Rattle.ertms_codec.specs.PacketsToTrain.{most_packets}
use Rattle.ertms_codec.proofs.GeneralReading.{first_read, next_read, none_follows, too_many, all_read, fault_is}
use Rattle.ertms_codec.proofs.to_train_reader.packets.Goals as goal

pub loop-packets-init : goal.loop-packets-init
loop-packets-init c =
    let first = c.in_ok-packet.ensures in
    first_read most_packets c.args.bits.now c.packet.new.bits c.in_ok-packets.packets c.in_ok-packet.field-0 (omega arith) c.in_ok-packets.ensures first.begins first.value first.rest

pub loop-packets-preserved : goal.loop-packets-preserved
loop-packets-preserved c =
    let next = c.in_ok-packet-2.ensures in
    let most = c.count.ensures.most in
    let room : length c.loop-packets.packets < most_packets = omega (arith, c.count.ensures.count, c.if-count-eq-MOST_PACKETS.false) in
    let more : 8 ≤ length c.loop-packets.bits = omega (arith, c.left.ensures) in
    next_read most_packets c.args.bits.now c.loop-packets.bits c.packet-in-loop-packets.new.bits c.loop-packets.packets c.push.new.self c.in_ok-packet-2.field-0 c.loop-packets.invariant room c.in_ok-push.ensures.ok more next.begins next.value next.rest

pub returns-then-count-eq-MOST_PACKETS-clause-err : goal.returns-then-count-eq-MOST_PACKETS-clause-err
returns-then-count-eq-MOST_PACKETS-clause-err c =
    let more : 8 ≤ length c.loop-packets.bits = omega (arith, c.left.ensures) in
    (too_many most_packets c.args.bits.now c.loop-packets.bits c.loop-packets.packets c.loop-packets.invariant (omega (arith, c.count.ensures.count, c.if-count-eq-MOST_PACKETS.true)) more, refl)

pub returns-in_err-packet-2-clause-err : goal.returns-in_err-packet-2-clause-err
returns-in_err-packet-2-clause-err c =
    let refused = c.in_err-packet-2.ensures.err in
    let more : 8 ≤ length c.loop-packets.bits = omega (arith, c.left.ensures) in
    let none = none_follows most_packets c.args.bits.now c.loop-packets.bits c.loop-packets.packets c.loop-packets.invariant more refused.0 in
    fault_is c.args.bits.now c.from_residual-in_err-packet-2.result _ c.from_residual-in_err-packet-2.ensures.1 none refused.1

pub returns-clause-packets : goal.returns-clause-packets
returns-clause-packets c =
    let end : length c.loop-packets.bits < 8 = omega (arith, c.left.ensures) in
    (all_read most_packets c.args.bits.now c.loop-packets.bits c.loop-packets.packets c.loop-packets.invariant end).0

pub returns-clause-ok : goal.returns-clause-ok
returns-clause-ok c =
    let end : length c.loop-packets.bits < 8 = omega (arith, c.left.ensures) in
    (all_read most_packets c.args.bits.now c.loop-packets.bits c.loop-packets.packets c.loop-packets.invariant end).1
