use Rattle.ertms_c.proofs.Same.{message_eq}
use Rattle.ertms_c.proofs.to_train.are_same.Goals as goal

pub returns : goal.returns
returns c = rw c.eq.ensures (message_eq c.args.fields.now c.args.others.now)
