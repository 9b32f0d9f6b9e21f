use Rattle.std.proofs.Common.{◌≡◌, ◌∙◌, arith}
use Rattle.ertms_codec.specs.declared.to_train.ToTrain.TheVariants.{General}
use Rattle.ertms_codec.specs.ToTrain.{length_of_message}
use Rattle.ertms_codec.proofs.Written.{Writes-append, spells}
use Rattle.ertms_codec.proofs.write.write_general.Goals as goal

pub returns-clause-spelled : goal.returns-clause-spelled
returns-clause-spelled c =
    let m = General c.args.head c.args.packets.now in
    let length : c.div_ceil-length.result ≡ length_of_message m = omega (arith, c.div_ceil-length.ensures, c.packets_width.ensures.value) in
    let whole = Writes-append (rw (c.new-place.ensures, length) at c.put_header.ensures) c.put_packets.ensures in
    spells m _ _ _ _ _ c.requires tt whole c.put_fill_bits.ensures.used c.put_fill_bits.ensures.bits

pub returns-clause-behind : goal.returns-clause-behind
returns-clause-behind c =
    let whole = Writes-append c.put_header.ensures c.put_packets.ensures in
    c.put_fill_bits.ensures.behind ∙ (rw c.put_fill_bits.ensures.used whole.behind)
