use Rattle.std.proofs.Common.{◌∙◌, ◌++◌, string_bytes}
use Rattle.std.proofs.lemmas.Result.{IfOk-weaker}
use Rattle.rbc_json.proofs.end_object.head_text.Goals as goal

pub returns : goal.returns
returns c =
    let front = string_bytes c.in_ok-front.front in
    let active = string_bytes c.in_ok-active.active in
    let sums = c.in_ok-sums.ensures in
    IfOk-weaker c.format.result _ _ (λ text e. (front, active, c.args.standing.now, c.requires, e ∙ (λ i. front ++ (sums i ++ active)))) c.format.ensures.ok
