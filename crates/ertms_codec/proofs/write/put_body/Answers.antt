use Rattle.std.proofs.Common.{w16, FitsSigned, rules}
use Rattle.std.proofs.lemmas.Int.{to_z-of_z}
use Rattle.ertms_codec.proofs.Written.{Writes-append}
use Rattle.ertms_codec.proofs.write.put_body.Goals as goal

pub returns-in-StopAt-clause-written : goal.returns-in-StopAt-clause-written
returns-in-StopAt-clause-written c =
    let signed : FitsSigned w16 c.in-StopAt.reference = search rules in
    rw c.in-StopAt.is
    (Writes-append (rw c.from.ensures at c.put.ensures)
    (Writes-append (rw c.from-in-StopAt.ensures at c.put-in-StopAt.ensures)
    (Writes-append (rw (c.from-in-StopAt-2.ensures, c.cast_unsigned.ensures, to_z-of_z w16 c.in-StopAt.reference signed) at c.put-in-StopAt-2.ensures)
    (Writes-append (rw c.from-in-StopAt-3.ensures at c.put-in-StopAt-3.ensures)
    (rw c.from-in-StopAt-4.ensures at c.put-in-StopAt-4.ensures)))))

pub returns-in-General-clause-written : goal.returns-in-General-clause-written
returns-in-General-clause-written c =
    rw (c.in-General.is, c.parts-first.ensures.are) (Writes-append c.put_packet.ensures c.put_packets.ensures)
