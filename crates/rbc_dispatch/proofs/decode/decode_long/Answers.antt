use Rattle.std.proofs.Common.{rules, ◌≡◌, Ok}
use Rattle.hex.specs.Hex.{decode_of}
use Rattle.ertms_codec.specs.Texts.{HasText}
use Rattle.rbc_dispatch.specs.Long.{long_text}
use Rattle.rbc_dispatch.proofs.LongText.{shown_long}
use Rattle.rbc_dispatch.proofs.decode.decode_long.Goals as goal

pub returns-clause-decodes : goal.returns-clause-decodes
returns-clause-decodes g c =
    let spelled : decode_of c.args.word.now ≡ Ok c.in_ok-bytes.bytes.items = search rules in
    let has : HasText c.in_ok-bytes.bytes.items c.in_ok-describe.field-0.items = search rules in
    let is : c.as_bytes.result.now ≡ long_text c.in_ok-bytes.bytes.items = search rules in
    shown_long _ _ _ _ c.show.result _ _ spelled has is c.show.ensures.ok c.show.ensures.part
