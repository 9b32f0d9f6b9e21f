use Rattle.std.proofs.Common.{◌++◌, ◌∙◌, codes}
use Rattle.std.proofs.lemmas.Result.{IfOk-weaker}
use Rattle.rbc_json.specs.Json.{json_text}
use Rattle.rbc_json.specs.Places.{place_or_null}
use Rattle.rbc_json.proofs.message.why_text.Goals as goal

pub returns : goal.returns
returns c = λ reason hex why is.
    IfOk-weaker c.format.result _ _
    (λ text e. e ∙ (λ i. codes ",\"place\":" ++ (json_text (place_or_null c.args.of.now.place) ++ (codes ",\"why\":" ++ (why i ++ (codes ",\"hex\":" ++ (is i ++ codes "}")))))))
    c.format.ensures.ok
