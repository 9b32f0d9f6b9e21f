use Rattle.ertms_codec.proofs.Written.{Writes-append}
use Rattle.ertms_codec.proofs.from_train_writer.put_position.Goals as goal

pub returns : goal.returns
returns c =
    Writes-append c.put_groups.ensures
    (Writes-append (rw c.from.ensures at c.put.ensures)
    (Writes-append (rw c.from-2.ensures at c.put-2.ensures)
    (Writes-append (rw c.from-3.ensures at c.put-3.ensures)
    (Writes-append (rw c.from-4.ensures at c.put-4.ensures)
    (Writes-append (rw c.from-5.ensures at c.put-5.ensures) c.put_standing.ensures)))))
