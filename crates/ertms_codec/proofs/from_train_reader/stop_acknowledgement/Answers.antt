use Rattle.std.proofs.Common.{refl}
use Rattle.std.proofs.lemmas.Result.{err_from_is_err_and}
use Rattle.ertms_codec.proofs.Places.{takes_at}
use Rattle.ertms_codec.proofs.from_train_reader.stop_acknowledgement.Goals as goal

pub returns-in_err-position-clause-err : goal.returns-in_err-position-clause-err
returns-in_err-position-clause-err c =
    let id = takes_at c.args.bits.now 0 refl c.next-id.ensures in
    let answer = takes_at c.args.bits.now 4 id.1 c.next-answer.ensures in
    let p = err_from_is_err_and c.from_residual.result c.from_residual.ensures.1 in
    rw (p.1, p.2, ← answer.1) c.in_err-position.ensures.err

pub returns-clause-ok : goal.returns-clause-ok
returns-clause-ok c =
    let id = takes_at c.args.bits.now 0 refl c.next-id.ensures in
    let answer = takes_at c.args.bits.now 4 id.1 c.next-answer.ensures in
    let position = c.in_ok-position.ensures in
    record { read = rw (← answer.1) position.read; is = rw (position.value, answer.1, id.0, answer.0) }
