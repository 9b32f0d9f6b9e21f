use Rattle.ertms_codec.proofs.Written.{Writes-append}
use Rattle.ertms_codec.proofs.from_train_writer.put_header.Goals as goal

pub returns : goal.returns
returns c =
    Writes-append c.put.ensures
    (Writes-append c.put-2.ensures
    (Writes-append (rw c.from.ensures at c.put-3.ensures)
    (rw c.from-2.ensures at c.put-4.ensures)))
