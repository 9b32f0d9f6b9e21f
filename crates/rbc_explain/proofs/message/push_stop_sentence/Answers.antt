use Rattle.std.proofs.Common.{◌∙◌}
use Rattle.rbc_explain.proofs.Told.{stop_said}
use Rattle.rbc_explain.proofs.message.push_stop_sentence.Goals as goal

pub returns-in_ok-sentence-in-Some : goal.returns-in_ok-sentence-in-Some
returns-in_ok-sentence-in-Some c =
    stop_said _ _ c.extend_from_slice.result c.args.track.now c.args.sent.now c.args.number c.args.is_escalated c.in-Some.said c.as_bytes.result.now c.args.log.now.items
    c.extend_from_slice.new.self.items c.in-Some.ensures.is c.in-Some.ensures.revoked (c.as_bytes.ensures.value ∙ c.in_ok-sentence-in-Some.ensures) c.extend_from_slice.ensures.items
