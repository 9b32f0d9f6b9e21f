use Rattle.std.proofs.Common.{sym, rules}
use Rattle.std.proofs.Output.{has_written_append, has_written_of_eq}
use Rattle.ertms_codec.specs.Texts.{packet_behind}
use Rattle.ertms_codec.proofs.PacketFields.{one_more}
use Rattle.ertms_codec.proofs.text.write_packets.Goals as goal

pub loop-index-preserved : goal.loop-index-preserved
loop-index-preserved g c = λ plain.
    has_written_of_eq _ _ _ _ _ (sym (one_more packet_behind c.args.packets.now c.loop-index.index c.at-part.result c.at-part.ensures))
    (has_written_append _ _ _ _ _ _ (c.loop-index.invariant plain) (search rules))
