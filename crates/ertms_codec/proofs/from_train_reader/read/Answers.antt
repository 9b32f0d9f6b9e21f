use Rattle.std.proofs.Common.{arith}
use Rattle.std.proofs.lemmas.Result.{IfOk-weaker, IfErr-weaker}
use Rattle.ertms_bits.specs.Bits.{bits_of_bytes}
use Rattle.ertms_codec.proofs.Places.{takes_at}
use Rattle.ertms_codec.proofs.ToTrainSteps.{left_behind}
use Rattle.ertms_codec.proofs.FromTrainSteps.{ten_bytes, begins, is_read, is_refused}
use Rattle.ertms_codec.proofs.from_train_reader.read.Goals as goal

pub next_two-stamp-requires-clause-there : goal.next_two-stamp-requires-clause-there
next_two-stamp-requires-clause-there c =
    let steps = c.in_ok-check_length.ensures.ok in
    let ten = ten_bytes _ _ steps.0 steps.1 in
    left_behind 18 56 c.args.bytes.now _ c.in_ok-number.ensures.rest (omega (arith, ten))

pub body-requires-clause-acknowledgement : goal.body-requires-clause-acknowledgement
body-requires-clause-acknowledgement c one =
    let long = c.in_ok-check_length.ensures.ok.1.acknowledgement one in
    let stamp = takes_at (bits_of_bytes c.args.bytes.now) 18 c.in_ok-number.ensures.rest c.next_two-stamp.ensures.first in
    let engine = takes_at (bits_of_bytes c.args.bytes.now) 50 stamp.1 c.next_two-stamp.ensures.second in
    left_behind 74 32 c.args.bytes.now _ engine.1 (omega (arith, long))

pub body-requires-clause-of_a_stop : goal.body-requires-clause-of_a_stop
body-requires-clause-of_a_stop c one =
    let long = c.in_ok-check_length.ensures.ok.1.of_a_stop one in
    let stamp = takes_at (bits_of_bytes c.args.bytes.now) 18 c.in_ok-number.ensures.rest c.next_two-stamp.ensures.first in
    let engine = takes_at (bits_of_bytes c.args.bytes.now) 50 stamp.1 c.next_two-stamp.ensures.second in
    left_behind 74 6 c.args.bytes.now _ engine.1 (omega (arith, long))

pub returns-clause-ok : goal.returns-clause-ok
returns-clause-ok c =
    let bits = bits_of_bytes c.args.bytes.now in
    let number = c.in_ok-number.ensures.number in
    let b = begins c.args.bytes.now c.in_ok-number.number c.in_ok-number.ensures.length number c.in_ok-check_length.ensures.ok in
    let stamp = takes_at bits 18 c.in_ok-number.ensures.rest c.next_two-stamp.ensures.first in
    let engine = takes_at bits 50 stamp.1 c.next_two-stamp.ensures.second in
    IfOk-weaker c.body.result _ _ (λ m h. is_read c.args.bytes.now c.in_ok-number.number m b number (h bits engine.1 number stamp.0 engine.0)) c.body.ensures.ok

pub returns-clause-err : goal.returns-clause-err
returns-clause-err c =
    let bits = bits_of_bytes c.args.bytes.now in
    let number = c.in_ok-number.ensures.number in
    let b = begins c.args.bytes.now c.in_ok-number.number c.in_ok-number.ensures.length number c.in_ok-check_length.ensures.ok in
    let stamp = takes_at bits 18 c.in_ok-number.ensures.rest c.next_two-stamp.ensures.first in
    let engine = takes_at bits 50 stamp.1 c.next_two-stamp.ensures.second in
    IfErr-weaker c.body.result _ _ (λ e h. is_refused c.args.bytes.now c.in_ok-number.number e b number (h bits engine.1)) c.body.ensures.err
