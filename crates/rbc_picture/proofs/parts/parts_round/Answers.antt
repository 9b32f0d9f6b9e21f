use Rattle.std.proofs.Common.{◌∙◌, [], ◌∷◌, ap}
use Rattle.std.proofs.lemmas.Result.{IfOk-weaker}
use Rattle.rbc_picture.specs.declared.selection.LinePart.{LinePart}
use Rattle.rbc_picture.proofs.Choosing.{round_none, round_some}
use Rattle.rbc_picture.proofs.parts.parts_round.Goals as goal

pub returns-in-None : goal.returns-in-None
returns-in-None c = round_none c.args.train.now.place _ c.in-None.is c.new.ensures.items

pub returns-in-Some : goal.returns-in-Some
returns-in-Some c =
    IfOk-weaker c.only.result _ _ (λ parts are. round_some c.args.train.now.place c.in-Some.place c.round_train-around.result parts.items c.in-Some.is
    c.round_train-around.ensures (are ∙ ap (λ (part : LinePart). part ∷ []) c.line_round.ensures)) c.only.ensures
