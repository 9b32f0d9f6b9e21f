use Rattle.std.proofs.Common.{◌∙◌, [], ◌∷◌, ◌++◌, map, codes, decimal, sym, append_assoc, string_bytes}
use Rattle.std.proofs.lemmas.Result.{IfOk-weaker}
use Rattle.rbc_json.specs.Json.{Null, Text, number, array, object, json_text}
use Rattle.rbc_json.specs.Shapes.{number_or_null}
use Rattle.rbc_json.proofs.Refusing.{any_text}
use Rattle.rbc_json.proofs.refused.why_text.Goals as goal

pub returns-in-Nothing : goal.returns-in-Nothing
returns-in-Nothing c = any_text (λ text. string_bytes text) c.null_text.result Null c.null_text.ensures

pub returns-in-NotEnrolled : goal.returns-in-NotEnrolled
returns-in-NotEnrolled c =
    any_text (λ text. string_bytes text) c.format.result (object ((codes "reason", Text (codes "not_enrolled")) ∷ (codes "engine", number c.in-NotEnrolled.engine) ∷ [])) c.format.ensures.ok

pub returns-in-Enrolled : goal.returns-in-Enrolled
returns-in-Enrolled c =
    any_text (λ text. string_bytes text) c.format-in-Enrolled.result (object ((codes "reason", Text (codes "enrolled")) ∷ (codes "engine", number c.in-Enrolled.engine) ∷ (codes "length", number c.in-Enrolled.length) ∷ [])) c.format-in-Enrolled.ensures.ok

pub returns-in-Held : goal.returns-in-Held
returns-in-Held c =
    IfOk-weaker c.format-in-Held.result _ _
    (λ text e. (
      object (
          (codes "reason", Text (codes "held")) ∷ (codes "engine", number c.engine_of-engine.result) ∷ (codes "identifier", number c.in-Held.id) ∷ (codes "stop", number_or_null c.of-stop.result.0)
          ∷ (codes "counts", object ((codes "more", number c.in-Held.more) ∷ [])) ∷ []),
      e
          ∙ (λ i. codes "{\"reason\":\"held\",\"engine\":" ++ (decimal c.engine_of-engine.result ++ (codes ",\"identifier\":" ++ (decimal c.in-Held.id ++ (codes ",\"stop\":" ++ (json_text (number_or_null c.of-stop.result.0)
          ++ (codes ",\"counts\":{\"more\":" ++ sym (append_assoc (decimal c.in-Held.more) (codes "}") (codes "}")) i))))))),
    ))
    c.format-in-Held.ensures.ok

pub returns-in-LastStop : goal.returns-in-LastStop
returns-in-LastStop c =
    any_text (λ text. string_bytes text) c.format-in-LastStop.result (object ((codes "reason", Text (codes "last_stop")) ∷ (codes "stop", number c.in-LastStop.stop) ∷ [])) c.format-in-LastStop.ensures.ok

pub returns-in-LastRestriction : goal.returns-in-LastRestriction
returns-in-LastRestriction c =
    any_text (λ text. string_bytes text) c.format-in-LastRestriction.result (object ((codes "reason", Text (codes "last_restriction")) ∷ (codes "restriction", number c.in-LastRestriction.restriction) ∷ [])) c.format-in-LastRestriction.ensures.ok

pub returns-in_ok-active-in-ActiveStops : goal.returns-in_ok-active-in-ActiveStops
returns-in_ok-active-in-ActiveStops c =
    let active = c.in_ok-active-in-ActiveStops.ensures in
    IfOk-weaker c.format-in-ActiveStops.result _ _
    (λ text e. (object ((codes "reason", Text (codes "active_stops")) ∷ (codes "active", array (map number c.deref.result.now)) ∷ []), e ∙ (λ i. codes "{\"reason\":\"active_stops\",\"active\":" ++ (active i ++ codes "}"))))
    c.format-in-ActiveStops.ensures.ok

pub returns-in_ok-active-in-ActiveRestrictions : goal.returns-in_ok-active-in-ActiveRestrictions
returns-in_ok-active-in-ActiveRestrictions c =
    let active = c.in_ok-active-in-ActiveRestrictions.ensures in
    IfOk-weaker c.format-in-ActiveRestrictions.result _ _
    (λ text e. (object ((codes "reason", Text (codes "active_restrictions")) ∷ (codes "active", array (map number c.deref-in-ActiveRestrictions.result.now)) ∷ []), e ∙ (λ i. codes "{\"reason\":\"active_restrictions\",\"active\":" ++ (active i ++ codes "}"))))
    c.format-in-ActiveRestrictions.ensures.ok
