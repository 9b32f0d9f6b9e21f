use Rattle.std.proofs.Common.{rules, ◌≡◌, ◌∙◌, ℕ, List, IfOk, [], ◌∷◌, ap, codes, string_bytes}
use Rattle.std.proofs.lemmas.Result.{IfOk-weaker}
use Rattle.rbc_json.specs.Json.{number, opened}
use Rattle.rbc_json.proofs.end_object.inputs_text.Goals as goal

pub returns : goal.returns
returns c =
    let sums = c.args.account.now.sums in
    let begun : ℕ → List ℕ = λ count.
    opened ((codes "inputs", number count) ∷ (codes "accepted", number sums.accepted) ∷ (codes "refused", number sums.refused) ∷ (codes "messages", number sums.messages) ∷ []) in
    let written : IfOk c.format.result (λ text. string_bytes text ≡ begun c.inputs-inputs.result) = search rules in
    IfOk-weaker c.format.result _ _ (λ text e. e ∙ ap begun c.inputs-inputs.ensures) written
