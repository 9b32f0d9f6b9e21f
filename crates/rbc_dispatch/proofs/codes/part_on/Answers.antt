use Rattle.std.proofs.lemmas.Result.{IfOk-weaker}
use Rattle.rbc_dispatch.proofs.PartOn.{one_row}
use Rattle.rbc_dispatch.proofs.codes.part_on.Goals as goal

pub returns-in-Some-default-None : goal.returns-in-Some-default-None
returns-in-Some-default-None c = IfOk-weaker c.format-in-Some-default-None.result _ _
    (λ text is. one_row c.args.code c.rows_on.result _ _ _ c.in-Some-default-None.is c.in-Some-default-None.field-0-1-is c.rows_on.ensures is) c.format-in-Some-default-None.ensures.ok
