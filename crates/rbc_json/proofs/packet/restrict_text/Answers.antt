use Rattle.std.proofs.Common.{refl, string_bytes}
use Rattle.rbc_json.specs.Packets.{stretch_fields, told_fields}
use Rattle.rbc_json.proofs.Pieces.{joined}
use Rattle.rbc_json.proofs.packet.restrict_text.Goals as goal

pub returns : goal.returns
returns c =
    let packet = c.args.packet.now in
    joined (λ text. string_bytes text) c.format.result (stretch_fields packet) (told_fields packet) refl (string_bytes c.in_ok-front.front) (string_bytes c.in_ok-rest.rest) c.in_ok-front.ensures c.in_ok-rest.ensures
    c.format.ensures.ok
