use Rattle.std.proofs.Common.{refl}
use Rattle.ertms_codec.proofs.Places.{takes_at}
use Rattle.ertms_codec.proofs.to_train_reader.packet.Goals as goal

pub returns-in-65-clause-value : goal.returns-in-65-clause-value
returns-in-65-clause-value c =
    let bits = c.args.bits.now in
    let number = takes_at bits 0 refl c.next-number.ensures in
    let dir = takes_at bits 8 number.1 c.next-dir.ensures in
    let size = takes_at bits 10 dir.1 c.next-size.ensures in
    rw ((c.restrict.ensures bits size.1).0, dir.0, ← number.0, c.in-65.is)

pub returns-in-65-clause-rest : goal.returns-in-65-clause-rest
returns-in-65-clause-rest c =
    let bits = c.args.bits.now in
    let number = takes_at bits 0 refl c.next-number.ensures in
    let dir = takes_at bits 8 number.1 c.next-dir.ensures in
    let size = takes_at bits 10 dir.1 c.next-size.ensures in
    rw ((c.restrict.ensures bits size.1).1, ← size.0, c.if-size-eq71.true)

pub returns-in-66-clause-value : goal.returns-in-66-clause-value
returns-in-66-clause-value c =
    let bits = c.args.bits.now in
    let number = takes_at bits 0 refl c.next-number.ensures in
    let dir = takes_at bits 8 number.1 c.next-dir.ensures in
    let size = takes_at bits 10 dir.1 c.next-size.ensures in
    rw ((c.lift.ensures bits size.1).0, dir.0, ← number.0, c.in-66.is)

pub returns-in-66-clause-rest : goal.returns-in-66-clause-rest
returns-in-66-clause-rest c =
    let bits = c.args.bits.now in
    let number = takes_at bits 0 refl c.next-number.ensures in
    let dir = takes_at bits 8 number.1 c.next-dir.ensures in
    let size = takes_at bits 10 dir.1 c.next-size.ensures in
    rw ((c.lift.ensures bits size.1).1, ← size.0, c.if-size-eq31.true)
