use Rattle.std.proofs.Common.{◌∙◌, sym}
use Rattle.rbc_picture.proofs.Choosing.{train_on}
use Rattle.rbc_picture.proofs.parts.has_train.Goals as goal

pub returns : goal.returns
returns c = c.is_any_on.ensures ∙ sym (train_on c.args.line c.args.trains.now)
