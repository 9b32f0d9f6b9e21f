use Rattle.std.specs.Int.{w16}
use Rattle.std.proofs.lemmas.Int.{of_z-to_z}
use Rattle.ertms_codec.proofs.Places.{takes_at}
use Rattle.ertms_codec.proofs.to_train_reader.stop_at.Goals as goal

pub returns : goal.returns
returns c whole at =
    let id = takes_at whole 75 at c.next.ensures in
    let scale = takes_at whole 79 id.1 c.next-2.ensures in
    let reference = takes_at whole 81 scale.1 c.next-3.ensures in
    let dir = takes_at whole 97 reference.1 c.next-4.ensures in
    let distance = takes_at whole 99 dir.1 c.next-5.ensures in
    rw (c.cast_signed.ensures, of_z-to_z w16 c.next-3.result c.next-3.ensures.small, id.0, scale.0, reference.0, dir.0, distance.0)
