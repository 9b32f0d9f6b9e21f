use Rattle.ertms_codec.proofs.Places.{takes_at}
use Rattle.ertms_codec.proofs.to_train_reader.restrict.Goals as goal

pub returns : goal.returns
returns c whole at =
    let scale = takes_at whole 23 at c.next.ensures in
    let id = takes_at whole 25 scale.1 c.next-2.ensures in
    let start = takes_at whole 33 id.1 c.next-3.ensures in
    let length = takes_at whole 48 start.1 c.next-4.ensures in
    let front = takes_at whole 63 length.1 c.next-5.ensures in
    let speed = takes_at whole 64 front.1 c.next-6.ensures in
    (rw (scale.0, id.0, start.0, length.0, front.0, speed.0), speed.1)
