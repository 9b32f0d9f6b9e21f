use Rattle.std.proofs.Common.{false, ap, ◌∙◌}
use Rattle.rbc_account.specs.declared.told.ToldWhat.TheVariants as what
use Rattle.rbc_explain.specs.Reasons.{before_text, at_once_text, left_under, revoked_text}
use Rattle.rbc_explain.proofs.Told.{stop_then_why, told_as}
use Rattle.rbc_explain.proofs.message.push_message.Goals as goal

pub returns-in_ok-reason-in-StopBefore : goal.returns-in_ok-reason-in-StopBefore
returns-in_ok-reason-in-StopBefore c =
    let told = c.in-StopBefore in
    let sent = c.args.sent.now in
    let place = c.args.told.now.place in
    told_as _ _ c.push_words.result c.args.track.now sent place c.args.told.now.what (what.StopBefore told.number told.before told.edge told.unit) c.args.log.now.items
    c.push_words.new.log.items told.is
    (stop_then_why _ _ c.push_words.result c.args.track.now sent told.number false (before_text sent.message place told.before told.edge told.unit) c.as_bytes.result.now c.args.log.now.items
    c.push_stop_sentence.new.log.items c.push_words.new.log.items (c.as_bytes.ensures.value ∙ c.in_ok-reason-in-StopBefore.ensures) c.in_ok-push_stop_sentence-in-StopBefore.ensures
    c.push_words.ensures)

pub returns-in_ok-reason-in-StopAtOnce : goal.returns-in_ok-reason-in-StopAtOnce
returns-in_ok-reason-in-StopAtOnce c =
    let told = c.in-StopAtOnce in
    let sent = c.args.sent.now in
    let place = c.args.told.now.place in
    let words = c.push_words-in-StopAtOnce in
    told_as _ _ words.result c.args.track.now sent place c.args.told.now.what (what.StopAtOnce told.number told.why) c.args.log.now.items words.new.log.items told.is
    (stop_then_why _ _ words.result c.args.track.now sent told.number false (at_once_text sent.message place told.number told.why) c.as_bytes-in-StopAtOnce.result.now c.args.log.now.items
    c.push_stop_sentence-in-StopAtOnce.new.log.items words.new.log.items (c.as_bytes-in-StopAtOnce.ensures.value ∙ c.in_ok-reason-in-StopAtOnce.ensures)
    c.in_ok-push_stop_sentence-in-StopAtOnce.ensures words.ensures)

pub returns-in_ok-reason-in-StopRevoked : goal.returns-in_ok-reason-in-StopRevoked
returns-in_ok-reason-in-StopRevoked c =
    let told = c.in-StopRevoked in
    let sent = c.args.sent.now in
    let place = c.args.told.now.place in
    let words = c.push_words-in-StopRevoked in
    told_as _ _ words.result c.args.track.now sent place c.args.told.now.what (what.StopRevoked told.number told.unanswered) c.args.log.now.items words.new.log.items told.is
    (stop_then_why _ _ words.result c.args.track.now sent told.number told.unanswered (revoked_text sent.message told.number (left_under sent.message told.unanswered)) c.as_bytes-in-StopRevoked.result.now c.args.log.now.items
    c.push_stop_sentence-in-StopRevoked.new.log.items words.new.log.items (c.as_bytes-in-StopRevoked.ensures.value ∙ c.in_ok-reason-in-StopRevoked.ensures
    ∙ ap (revoked_text sent.message told.number) c.left_under-left.ensures)
    c.in_ok-push_stop_sentence-in-StopRevoked.ensures words.ensures)
