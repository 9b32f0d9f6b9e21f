use Rattle.std.proofs.Common.{[], ◌∷◌, codes, string_bytes}
use Rattle.rbc_json.specs.Json.{Null, Text, number, object}
use Rattle.rbc_json.specs.Effects.{answer_word}
use Rattle.rbc_json.proofs.Refusing.{any_text}
use Rattle.rbc_json.proofs.refused.answer_text.Goals as goal

pub returns-in-Stamp : goal.returns-in-Stamp
returns-in-Stamp c =
    any_text (λ text. string_bytes text) c.format.result (object ((codes "reason", Text (codes "stamp")) ∷ (codes "engine", number c.engine_of-engine.result) ∷ (codes "stamp", number c.in-Stamp.stamp) ∷ [])) c.format.ensures.ok

pub returns-in-AckOfStop : goal.returns-in-AckOfStop
returns-in-AckOfStop c =
    any_text (λ text. string_bytes text) c.format-in-AckOfStop.result (object ((codes "reason", Text (codes "stamp_of_stop")) ∷ (codes "engine", number c.in-AckOfStop.engine) ∷ (codes "stamp", number c.in-AckOfStop.stamp) ∷ (codes "stop", number c.in-AckOfStop.number) ∷ [])) c.format-in-AckOfStop.ensures.ok

pub returns-in-AckOfNothing : goal.returns-in-AckOfNothing
returns-in-AckOfNothing c =
    any_text (λ text. string_bytes text) c.format-in-AckOfNothing.result (object ((codes "reason", Text (codes "no_such_stamp")) ∷ (codes "engine", number c.in-AckOfNothing.engine) ∷ (codes "stamp", number c.in-AckOfNothing.stamp) ∷ [])) c.format-in-AckOfNothing.ensures.ok

pub returns-in-FreeIdentifier : goal.returns-in-FreeIdentifier
returns-in-FreeIdentifier c =
    any_text (λ text. string_bytes text) c.format-in-FreeIdentifier.result (object ((codes "reason", Text (codes "identifier_free")) ∷ (codes "engine", number c.in-FreeIdentifier.engine) ∷ (codes "identifier", number c.in-FreeIdentifier.id) ∷ [])) c.format-in-FreeIdentifier.ensures.ok

pub returns-in-RevokedIdentifier : goal.returns-in-RevokedIdentifier
returns-in-RevokedIdentifier c =
    any_text (λ text. string_bytes text) c.format-in-RevokedIdentifier.result (object ((codes "reason", Text (codes "identifier_being_revoked")) ∷ (codes "engine", number c.in-RevokedIdentifier.engine) ∷ (codes "identifier", number c.in-RevokedIdentifier.id) ∷ [])) c.format-in-RevokedIdentifier.ensures.ok

pub returns-in-OtherAnswer : goal.returns-in-OtherAnswer
returns-in-OtherAnswer c =
    any_text (λ text. string_bytes text) c.format-in-OtherAnswer.result (object ((codes "reason", Text (codes "other_answer")) ∷ (codes "engine", number c.in-OtherAnswer.engine) ∷ (codes "identifier", number c.identifier_of-id.result) ∷ (codes "stop", number c.in-OtherAnswer.number) ∷ (codes "message", number c.message_of-message.result) ∷ (codes "answer", answer_word c.in-OtherAnswer.answer) ∷ [])) c.format-in-OtherAnswer.ensures.ok

pub returns-in_default : goal.returns-in_default
returns-in_default c = any_text (λ text. string_bytes text) c.null_text.result Null c.null_text.ensures
