use Rattle.std.proofs.Common.{◌∙◌, refl, string_bytes}
use Rattle.std.proofs.lemmas.Result.{IfOk-weaker}
use Rattle.rbc_json.specs.Messages.{message_fields, stamp_fields, packed_fields}
use Rattle.rbc_json.proofs.Pieces.{joined_3}
use Rattle.rbc_json.proofs.message.general_text.Goals as goal

pub returns : goal.returns
returns c = λ hex is.
    let of = c.args.of.now in
    let packets = c.in_ok-packets.ensures in
    IfOk-weaker c.format.result _ _ (λ text e. (packets.0, packets.1, e))
    (joined_3 (λ text. string_bytes text) c.format.result (message_fields of.input of.engine 24) (stamp_fields c.args.head.stamp 146) refl
    (packed_fields of.place packets.0 hex) refl (string_bytes c.in_ok-front.front) (string_bytes c.in_ok-stamp.stamp) (string_bytes c.in_ok-packed.packed)
    c.in_ok-front.ensures c.in_ok-stamp.ensures (c.in_ok-packed.ensures packets.0 hex (c.as_str.ensures.value ∙ packets.2) is) c.format.ensures.ok)
