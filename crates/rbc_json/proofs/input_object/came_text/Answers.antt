use Rattle.std.proofs.Common.{◌∙◌, ◌++◌, codes}
use Rattle.std.proofs.lemmas.Result.{IfOk-weaker}
use Rattle.rbc_json.proofs.input_object.came_text.Goals as goal

pub returns : goal.returns
returns c = λ why did sent waiting refused effect messages not_told.
    IfOk-weaker c.format.result _ _
    (λ text e. e
    ∙ (λ i. codes ",\"refused\":" ++ (refused i ++ (codes ",\"effect\":" ++ (effect i ++ (codes ",\"messages\":" ++ (messages i ++ (codes ",\"not_told\":" ++ (not_told i ++ codes "}")))))))))
    c.format.ensures.ok
