use Rattle.std.proofs.Common.{refl}
use Rattle.ertms_c.proofs.OneAnswer.{only_read, only_wants}
use Rattle.ertms_c.proofs.ertms_3_read_to_train.Goals as goal

pub returns-in-Ok-clause-only : goal.returns-in-Ok-clause-only
returns-in-Ok-clause-only c m spelled =
    only_read c.args.bytes.now c.read_to_train.result c.in-Ok.message m 0 c.fields_of.result c.in-Ok.is refl c.fields_of.ensures (c.read_to_train.ensures.only m spelled)

pub returns-in-Err-clause-only : goal.returns-in-Err-clause-only
returns-in-Err-clause-only c m spelled =
    only_wants c.args.bytes.now c.read_to_train.result c.in-Err.fault m c.read_code_of.result c.args.fields.now c.in-Err.is c.read_code_of.ensures.value (c.read_to_train.ensures.only m spelled)
