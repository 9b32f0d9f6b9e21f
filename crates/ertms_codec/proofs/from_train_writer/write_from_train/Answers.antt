use Rattle.std.proofs.Common.{◌≡◌, ◌∙◌, length, take, arith, length-take-le}
use Rattle.ertms_codec.specs.FromTrainWritten.{length_of_message}
use Rattle.ertms_codec.proofs.FromTrainWritten.{spells, length_is}
use Rattle.ertms_codec.proofs.from_train_writer.write_from_train.Goals as goal

pub returns-clause-spelled : goal.returns-clause-spelled
returns-clause-spelled c =
    let m = c.args.message.now in
    let written = rw c.new-place.ensures at c.put_message.ensures in
    let used : c.put_fill_bits.result ≡ length_of_message m =
    omega (arith, length_is m, written.moved, c.put_fill_bits.ensures.used) in
    let long : length (take c.put_fill_bits.result c.put_fill_bits.new.buffer) ≡ length_of_message m =
    length-take-le _ _ (omega arith) ∙ used in
    spells m _ _ _ _ _ c.requires written c.put_fill_bits.ensures.used long c.put_fill_bits.ensures.bits
