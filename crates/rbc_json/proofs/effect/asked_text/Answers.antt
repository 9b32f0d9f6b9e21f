use Rattle.std.proofs.Common.{rules, ◌≡◌, ◌∙◌, ℕ, List, Option, IfOk, [], ◌∷◌, ap, codes, string_bytes}
use Rattle.std.proofs.lemmas.Result.{IfOk-weaker}
use Rattle.rbc_json.specs.Json.{Text, number, opened}
use Rattle.rbc_json.specs.Shapes.{number_or_null}
use Rattle.rbc_json.proofs.effect.asked_text.Goals as goal

pub returns : goal.returns
returns c =
    let begun : Option ℕ → List ℕ = λ stamp.
    opened (
    (codes "kind", Text (codes "answer")) ∷ (codes "engine", number c.args.engine) ∷ (codes "stamp", number_or_null stamp) ∷ (codes "stop", number c.args.number)
    ∷ []) in
    let written : IfOk c.format.result (λ text. string_bytes text ≡ begun c.of_stamp-stamp.result.0) = search rules in
    IfOk-weaker c.format.result _ _ (λ text e. e ∙ ap begun c.of_stamp-stamp.ensures) written
