use Rattle.std.proofs.Common.{◌∙◌, refl, string_bytes}
use Rattle.rbc_json.specs.Messages.{stop_fields, stamp_fields, why_fields}
use Rattle.rbc_json.specs.Reasons.{at_once_object}
use Rattle.rbc_json.proofs.Pieces.{joined_3}
use Rattle.rbc_json.proofs.message.stop_text.Goals as goal

pub returns : goal.returns
returns c = λ hex is.
    let of = c.args.of.now in
    let reason = at_once_object c.args.why in
    joined_3 (λ text. string_bytes text) c.format.result (stop_fields of.input of.engine 16 c.args.number c.args.id) (stamp_fields c.args.head.stamp 147) refl
    (why_fields of.place reason hex) refl (string_bytes c.in_ok-front.front) (string_bytes c.in_ok-stamp.stamp) (string_bytes c.in_ok-why.why)
    c.in_ok-front.ensures c.in_ok-stamp.ensures (c.in_ok-why.ensures reason hex (c.as_str.ensures.value ∙ c.in_ok-reason.ensures) is) c.format.ensures.ok
