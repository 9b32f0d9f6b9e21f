use Rattle.std.proofs.Common.{List, ap}
use Rattle.ertms_codec.specs.declared.packets.Part.{Part}
use Rattle.ertms_codec.specs.declared.to_train.ToTrain.TheVariants.{General}
use Rattle.ertms_codec.proofs.to_train_reader.general.Goals as goal

pub returns-clause-ok : goal.returns-clause-ok
returns-clause-ok c = ap (λ (packets : List Part). General c.args.head packets) c.in_ok-packets.ensures.ok
