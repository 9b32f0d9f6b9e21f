use Rattle.ertms_codec.proofs.Places.{takes_at}
use Rattle.ertms_codec.proofs.to_train_reader.head.Goals as goal

pub returns : goal.returns
returns c whole at =
    let stamp = takes_at whole 18 at c.next.ensures in
    let ack = takes_at whole 50 stamp.1 c.next-2.ensures in
    let lrbg = takes_at whole 51 ack.1 c.next-3.ensures in
    (rw (stamp.0, ack.0, lrbg.0), lrbg.1)
