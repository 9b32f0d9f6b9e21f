use Rattle.ertms_codec.proofs.Written.{Writes-append}
use Rattle.ertms_codec.proofs.from_train_writer.put_groups.Goals as goal

pub returns-in-None : goal.returns-in-None
returns-in-None c =
    rw c.in-None.is
    (Writes-append c.put.ensures
    (Writes-append c.put-in-None.ensures
    (Writes-append (rw c.from-scale.ensures at c.put-in-None-2.ensures)
    (rw c.from-lrbg.ensures at c.put-in-None-3.ensures))))

pub returns-in-Some : goal.returns-in-Some
returns-in-Some c =
    rw c.in-Some.is
    (Writes-append c.put-in-Some.ensures
    (Writes-append c.put-in-Some-2.ensures
    (Writes-append (rw c.from-scale.ensures at c.put-in-Some-3.ensures)
    (Writes-append (rw c.from-lrbg.ensures at c.put-in-Some-4.ensures)
    (rw c.from.ensures at c.put-in-Some-5.ensures)))))
