use Rattle.std.proofs.Common.{arith}
use Rattle.ertms_codec.proofs.Written.{Writes-append, Writes-joined, from_bool_is, flag_below}
use Rattle.ertms_codec.proofs.write.put_packet.Goals as goal

pub returns-in-Restrict : goal.returns-in-Restrict
returns-in-Restrict c =
    let fits = rw c.in-Restrict.is at c.requires.fits in
    let dir = rw c.from.ensures at c.joined-opening.ensures in
    let scale = rw c.from-in-Restrict.ensures at c.joined-opening-in-Restrict-2.ensures in
    let id = rw c.from-in-Restrict-2.ensures at c.joined-opening-in-Restrict-3.ensures in
    let length = rw (c.from-in-Restrict-3.ensures, c.from-in-Restrict-4.ensures) at c.joined-stretch.ensures in
    let front = rw (c.from-in-Restrict-5.ensures, from_bool_is) at c.joined-stretch-in-Restrict.ensures in
    let speed = rw c.from-in-Restrict-6.ensures at c.joined-stretch-in-Restrict-2.ensures in
    rw c.in-Restrict.is
    (Writes-append
    (Writes-joined 8 2 dir (omega (arith, fits))
    (Writes-joined 10 13 c.joined-opening-in-Restrict.ensures (omega (arith, fits))
    (Writes-joined 23 2 scale (omega (arith, fits))
    (Writes-joined 25 8 id (omega (arith, fits)) c.put.ensures))))
    (Writes-joined 15 15 length (omega (arith, fits))
    (Writes-joined 30 1 front (flag_below c.in-Restrict.front)
    (Writes-joined 31 7 speed (omega (arith, fits)) c.put-in-Restrict.ensures))))

pub returns-in-Lift : goal.returns-in-Lift
returns-in-Lift c =
    let fits = rw c.in-Lift.is at c.requires.fits in
    let dir = rw c.from-in-Lift.ensures at c.joined-packet.ensures in
    let id = rw c.from-in-Lift-2.ensures at c.joined-packet-in-Lift-2.ensures in
    rw c.in-Lift.is
    (Writes-joined 8 2 dir (omega (arith, fits))
    (Writes-joined 10 13 c.joined-packet-in-Lift.ensures (omega (arith, fits))
    (Writes-joined 23 8 id (omega (arith, fits)) c.put-in-Lift.ensures)))
