use Rattle.std.proofs.Common.{refl, string_bytes}
use Rattle.rbc_json.specs.Effects.{asked_fields, answer_fields}
use Rattle.rbc_json.proofs.Pieces.{joined}
use Rattle.rbc_json.proofs.effect.answered_text.Goals as goal

pub returns : goal.returns
returns c =
    joined (λ text. string_bytes text) c.format.result (asked_fields c.args.engine c.args.stamp c.args.number) (answer_fields c.args.id c.args.answer c.args.placing.now) refl
    (string_bytes c.in_ok-asked.asked) (string_bytes c.in_ok-answer.answer) c.in_ok-asked.ensures c.in_ok-answer.ensures c.format.ensures.ok
