use Rattle.std.proofs.Common.{◌∙◌}
use Rattle.std.proofs.lemmas.Result.{IfOk-weaker}
use Rattle.rbc_picture.proofs.Choosing.{left_counted}
use Rattle.rbc_picture.proofs.parts.left_text.Goals as goal

pub returns : goal.returns
returns c =
    IfOk-weaker c.left_words.result _ _ (λ text is. is ∙ left_counted c.args.selection.now c.args.parts.now c.args.lines c.lines_left.result
    c.args.trains.now c.trains_left-trains.result c.lines_left.ensures c.trains_left-trains.ensures) c.left_words.ensures
