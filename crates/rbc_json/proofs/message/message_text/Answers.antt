use Rattle.std.proofs.Common.{string_bytes, ◌∙◌}
use Rattle.rbc_json.proofs.Messaging.{stop_at_sent, stop_sent, revoke_sent, general_sent}
use Rattle.rbc_json.proofs.message.message_text.Goals as goal

pub returns-in-StopAt : goal.returns-in-StopAt
returns-in-StopAt c =
    stop_at_sent (λ text. string_bytes text) c.stop_at_text.result c.args.track.now c.args.input c.args.sent.now.engine c.args.told.now.place c.args.sent.now.message c.args.told.now.what
    c.as_str.result.now (c.as_str.ensures.value ∙ c.in_ok-hex.ensures) c.in-StopAt.head c.in-StopAt.id _ _ _ _ c.in-StopAt.is c.stop_at_text.ensures

pub returns-in-Stop : goal.returns-in-Stop
returns-in-Stop c =
    stop_sent (λ text. string_bytes text) c.at_once_text.result c.args.track.now c.args.input c.args.sent.now.engine c.args.told.now.place c.args.sent.now.message c.args.told.now.what
    c.as_str.result.now (c.as_str.ensures.value ∙ c.in_ok-hex.ensures) c.in-Stop.head c.in-Stop.id c.in-Stop.is c.at_once_text.ensures

pub returns-in-Revoke : goal.returns-in-Revoke
returns-in-Revoke c =
    revoke_sent (λ text. string_bytes text) c.revoked_text.result c.args.track.now c.args.input c.args.sent.now.engine c.args.told.now.place c.args.sent.now.message c.args.told.now.what
    c.as_str.result.now (c.as_str.ensures.value ∙ c.in_ok-hex.ensures) c.in-Revoke.head c.in-Revoke.id c.in-Revoke.is c.revoked_text.ensures

pub returns : goal.returns
returns c =
    general_sent (λ text. string_bytes text) c.packed_text.result c.args.track.now c.args.input c.args.sent.now.engine c.args.told.now.place c.args.sent.now.message c.args.told.now.what
    c.as_str.result.now (c.as_str.ensures.value ∙ c.in_ok-hex.ensures) c.in-General.head c.in-General.packets c.in-General.is c.packed_text.ensures
