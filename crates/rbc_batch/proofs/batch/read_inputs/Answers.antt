use Rattle.std.proofs.Common.{length, ap, arith}
use Rattle.rbc_batch.proofs.LineInputs.{as_many}
use Rattle.rbc_batch.proofs.batch.read_inputs.Goals as goal

pub returns-clause-few : goal.returns-clause-few
returns-clause-few g c =
    let same = as_many c.deref-2.result.now c.in_ok-parse_lines.field-0.items c.in_ok-parse_lines.ensures.inputs in
    let value = ap length c.deref-2.ensures.value in
    let few = c.in_ok-lines.ensures.few in
    omega (arith, same, value, few)
