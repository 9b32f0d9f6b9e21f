use Rattle.std.proofs.Common.{◌∙◌}
use Rattle.rbc_explain.specs.Reasons.{single_text}
use Rattle.rbc_explain.specs.Said.{IsRestrictionSentence}
use Rattle.rbc_explain.proofs.Told.{packet_then_why}
use Rattle.rbc_explain.proofs.restriction.push_single.Goals as goal

pub returns : goal.returns
returns c =
    let head = c.args.head in
    let packet = c.args.packet.now in
    let one = c.args.one.now in
    packet_then_why _ _ c.push_words.result c.args.track.now head.lrbg packet (IsRestrictionSentence c.args.track.now head.lrbg c.args.engine one.number packet)
    (single_text head packet c.args.place.now one) c.as_bytes.result.now c.args.log.now.items c.push_restriction_sentence.new.log.items c.push_words.new.log.items
    (c.as_bytes.ensures.value ∙ c.in_ok-reason.ensures) c.in_ok-push_restriction_sentence.ensures c.push_words.ensures
