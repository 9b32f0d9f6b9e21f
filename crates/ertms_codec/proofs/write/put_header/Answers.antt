use Rattle.ertms_codec.proofs.Written.{Writes-append, from_bool_is}
use Rattle.ertms_codec.proofs.write.put_header.Goals as goal

pub returns : goal.returns
returns c =
    Writes-append c.put.ensures
    (Writes-append c.put-2.ensures
    (Writes-append (rw c.from.ensures at c.put-3.ensures)
    (Writes-append (rw (c.from-2.ensures, from_bool_is) at c.put-4.ensures)
    (rw c.from-3.ensures at c.put-5.ensures))))
