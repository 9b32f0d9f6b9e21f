use Rattle.std.proofs.Common.{rules, ◌≡◌, ◌<◌, ◌≤◌, ◌∙◌, length, Some}
use Rattle.std.specs.Prelude.{slice_get}
use Rattle.rbc_explain.proofs.Told.{several_said, single_said, told_of_packets}
use Rattle.rbc_explain.proofs.restriction.push_restrictions.Goals as goal

-- several packets
pub returns-then-count-gt1 : goal.returns-then-count-gt1
returns-then-count-gt1 c =
    let m = c.in-General in
    let many : 1 < length m.packets = search rules in
    let log = c.push_each.new.log.items in
    told_of_packets c.args.track.now c.args.sent.now.engine m.head c.args.place.now _ _ c.push_each.result c.args.sent.now.message m.packets c.args.all.now c.args.log.now.items log m.is
    (several_said c.args.track.now c.args.sent.now.engine m.head c.args.place.now _ _ c.push_each.result m.packets c.args.all.now c.as_bytes.result.now c.count-then-count-gt1.result c.args.log.now.items
    c.push_words.new.log.items log many c.count-then-count-gt1.ensures.count (c.as_bytes.ensures.value ∙ c.in_ok-several.ensures) c.in_ok-push_words.ensures c.push_each.ensures)

-- one packet
pub returns-in-Some : goal.returns-in-Some
returns-in-Some c =
    let m = c.in-General in
    let few : length m.packets ≤ 1 = search rules in
    let told : slice_get c.args.all.now 0 ≡ Some c.in-Some.one.now = search rules in
    told_of_packets c.args.track.now c.args.sent.now.engine m.head c.args.place.now _ _ c.push_single.result c.args.sent.now.message m.packets c.args.all.now c.args.log.now.items
    c.push_single.new.log.items m.is
    (single_said c.args.track.now c.args.sent.now.engine m.head c.args.place.now _ _ c.push_single.result m.packets c.args.all.now c.at-packet.result c.in-Some.one.now c.args.log.now.items
    c.push_single.new.log.items few c.at-packet.ensures told c.push_single.ensures)
