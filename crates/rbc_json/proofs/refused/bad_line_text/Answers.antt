use Rattle.std.proofs.Common.{◌∙◌, [], ◌∷◌, ◌++◌, codes, string_bytes}
use Rattle.std.specs.Str.{chars}
use Rattle.std.proofs.lemmas.Result.{IfOk-weaker}
use Rattle.rbc_json.specs.Json.{Text, object}
use Rattle.rbc_json.proofs.Refusing.{any_text}
use Rattle.rbc_json.proofs.refused.bad_line_text.Goals as goal

pub returns-in-CarriageReturn : goal.returns-in-CarriageReturn
returns-in-CarriageReturn c =
    any_text (λ text. string_bytes text) c.format.result (object ((codes "reason", Text (codes "carriage_return")) ∷ [])) c.format.ensures.ok

pub returns-in-Empty : goal.returns-in-Empty
returns-in-Empty c =
    any_text (λ text. string_bytes text) c.format-in-Empty.result (object ((codes "reason", Text (codes "empty")) ∷ [])) c.format-in-Empty.ensures.ok

pub returns-in-Spaces : goal.returns-in-Spaces
returns-in-Spaces c =
    any_text (λ text. string_bytes text) c.format-in-Spaces.result (object ((codes "reason", Text (codes "spaces")) ∷ [])) c.format-in-Spaces.ensures.ok

pub returns-in-FirstWord : goal.returns-in-FirstWord
returns-in-FirstWord c =
    any_text (λ text. string_bytes text) c.format-in-FirstWord.result (object ((codes "reason", Text (codes "first_word")) ∷ [])) c.format-in-FirstWord.ensures.ok

pub returns-in_ok-word-in-Form : goal.returns-in_ok-word-in-Form
returns-in_ok-word-in-Form c =
    let word = c.in_ok-word-in-Form.ensures in
    IfOk-weaker c.format-in-Form.result _ _
    (λ text e. (object ((codes "reason", Text (codes "form")) ∷ (codes "word", Text (chars c.in-Form.word.now)) ∷ []), e ∙ (λ i. codes "{\"reason\":\"form\",\"word\":" ++ (word i ++ codes "}"))))
    c.format-in-Form.ensures.ok
