use Rattle.ertms_codec.proofs.Written.{Writes-append}
use Rattle.ertms_codec.proofs.from_train_writer.put_standing.Goals as goal

pub returns : goal.returns
returns c =
    Writes-append c.put.ensures
    (Writes-append c.put-2.ensures
    (Writes-append c.put-3.ensures
    (Writes-append c.put-4.ensures c.put-5.ensures)))
