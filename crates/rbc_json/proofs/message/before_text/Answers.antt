use Rattle.std.proofs.Common.{◌∙◌, refl, string_bytes}
use Rattle.rbc_json.specs.Messages.{stop_fields, stamp_fields, before_fields, why_fields}
use Rattle.rbc_json.specs.Reasons.{edge_object}
use Rattle.rbc_json.proofs.Pieces.{joined_4}
use Rattle.rbc_json.proofs.message.before_text.Goals as goal

pub returns : goal.returns
returns c = λ hex is.
    let of = c.args.of.now in
    let reason = edge_object c.args.edge in
    joined_4 (λ text. string_bytes text) c.format.result (stop_fields of.input of.engine 15 c.args.number c.args.id) (stamp_fields c.args.head.stamp 147) refl
    (before_fields c.args.before.line c.args.before.at c.args.unit) refl (why_fields of.place reason hex)
    (string_bytes c.in_ok-front.front) (string_bytes c.in_ok-stamp.stamp) (string_bytes c.in_ok-place.place) (string_bytes c.in_ok-why.why) refl
    c.in_ok-front.ensures c.in_ok-stamp.ensures c.in_ok-place.ensures (c.in_ok-why.ensures reason hex (c.as_str.ensures.value ∙ c.in_ok-reason.ensures) is) c.format.ensures.ok
