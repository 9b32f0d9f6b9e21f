use Rattle.std.proofs.Common.{◌∙◌, [], ◌∷◌, ◌++◌, codes, decimal, sym, append_assoc, string_bytes}
use Rattle.std.proofs.lemmas.Result.{IfOk-weaker}
use Rattle.rbc_json.specs.Json.{Text, number, object, json_text}
use Rattle.rbc_json.specs.Shapes.{segment_object}
use Rattle.rbc_json.proofs.Refusing.{any_text}
use Rattle.rbc_json.proofs.refused.area_text.Goals as goal

pub returns-in-TooManyStretches : goal.returns-in-TooManyStretches
returns-in-TooManyStretches c =
    IfOk-weaker c.format.result _ _
    (λ text e. (
      object ((codes "reason", Text (codes "too_many_segments")) ∷ (codes "counts", object ((codes "segments", number c.in-TooManyStretches.count) ∷ [])) ∷ []),
      e ∙ (λ i. codes "{\"reason\":\"too_many_segments\",\"counts\":{\"segments\":" ++ sym (append_assoc (decimal c.in-TooManyStretches.count) (codes "}") (codes "}")) i),
    ))
    c.format.ensures.ok

pub returns-in-NoLine : goal.returns-in-NoLine
returns-in-NoLine c =
    IfOk-weaker c.format-in-NoLine.result _ _
    (λ text e. (
      object ((codes "reason", Text (codes "no_line")) ∷ (codes "segment", segment_object c.in-NoLine.segment) ∷ (codes "counts", object ((codes "lines", number c.args.track_lines) ∷ [])) ∷ []),
      e
          ∙ (λ i. codes "{\"reason\":\"no_line\",\"segment\":" ++ (json_text (segment_object c.in-NoLine.segment)
          ++ (codes ",\"counts\":{\"lines\":" ++ sym (append_assoc (decimal c.args.track_lines) (codes "}") (codes "}")) i))),
    ))
    c.format-in-NoLine.ensures.ok

pub returns-in-Crossed : goal.returns-in-Crossed
returns-in-Crossed c =
    any_text (λ text. string_bytes text) c.format-in-Crossed.result (object ((codes "reason", Text (codes "crossed")) ∷ (codes "segment", segment_object c.in-Crossed.segment) ∷ [])) c.format-in-Crossed.ensures.ok

pub returns-in-BeyondEnd : goal.returns-in-BeyondEnd
returns-in-BeyondEnd c =
    any_text (λ text. string_bytes text) c.format-in-BeyondEnd.result (object ((codes "reason", Text (codes "beyond_line")) ∷ (codes "segment", segment_object c.in-BeyondEnd.segment) ∷ (codes "length", number c.in-BeyondEnd.length) ∷ [])) c.format-in-BeyondEnd.ensures.ok

pub returns-in-NoLength : goal.returns-in-NoLength
returns-in-NoLength c =
    any_text (λ text. string_bytes text) c.format-in-NoLength.result (object ((codes "reason", Text (codes "no_length")) ∷ (codes "at", number c.in-NoLength.at) ∷ [])) c.format-in-NoLength.ensures.ok

pub returns-in-Speed : goal.returns-in-Speed
returns-in-Speed c =
    any_text (λ text. string_bytes text) c.format-in-Speed.result (object ((codes "reason", Text (codes "bad_speed")) ∷ (codes "speed", number c.in-Speed.speed) ∷ [])) c.format-in-Speed.ensures.ok
