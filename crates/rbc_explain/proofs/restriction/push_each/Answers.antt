use Rattle.std.proofs.Common.{rules, ◌≤◌, length}
use Rattle.rbc_explain.proofs.Told.{each_next, each_packet, each_told}
use Rattle.rbc_explain.proofs.restriction.push_each.Goals as goal

-- no packet is left
pub returns-then-index-count : goal.returns-then-index-count
returns-then-index-count c =
    let past : length c.args.packets.now ≤ c.loop-index.index = search rules in
    each_packet c.args.track.now c.args.lrbg c.args.place.now c.args.packets.now c.args.all.now c.loop-index.index c.args.log.now.items c.loop-index.log.items c.loop-index.invariant past

-- one packet more
pub loop-index-preserved : goal.loop-index-preserved
loop-index-preserved c =
    each_next c.args.track.now c.args.lrbg c.args.place.now c.args.packets.now c.args.all.now c.loop-index.index c.at-packet.result c.one_of.result.now c.args.log.now.items c.loop-index.log.items c.push_packet.new.log.items
    c.at-packet.ensures c.one_of.ensures c.loop-index.invariant c.in_ok-push_packet.ensures

-- nothing is left that is told
pub returns : goal.returns
returns c =
    let past : length c.args.all.now ≤ c.loop-index.index = search rules in
    each_told c.args.track.now c.args.lrbg c.args.place.now c.args.packets.now c.args.all.now c.loop-index.index c.args.log.now.items c.loop-index.log.items c.loop-index.invariant past
