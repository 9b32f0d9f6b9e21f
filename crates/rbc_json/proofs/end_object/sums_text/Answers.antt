use Rattle.std.proofs.Common.{refl, string_bytes}
use Rattle.rbc_json.specs.Objects.{input_fields, outstanding_fields}
use Rattle.rbc_json.proofs.Pieces.{joined}
use Rattle.rbc_json.proofs.end_object.sums_text.Goals as goal

pub returns : goal.returns
returns c =
    joined (λ text. string_bytes text) c.format.result (input_fields c.args.account.now.sums) (outstanding_fields c.args.standing.now) refl (string_bytes c.in_ok-inputs.inputs)
    (string_bytes c.in_ok-outstanding.outstanding) c.in_ok-inputs.ensures c.in_ok-outstanding.ensures c.format.ensures.ok
