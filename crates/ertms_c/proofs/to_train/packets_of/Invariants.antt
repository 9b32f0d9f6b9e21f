use Rattle.std.proofs.Common.{take}
use Rattle.ertms_c.specs.ToTrainFields.{AreFieldsOf}
use Rattle.ertms_c.proofs.to_train.packets_of.Given as goal

-- the first fields are those of the first packets
abbrev pub invariant-loop-index : goal.invariant-loop-index
invariant-loop-index l = AreFieldsOf (take l.index l.packets) (take l.index l.fields)
