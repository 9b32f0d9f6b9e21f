use Rattle.std.proofs.Common.{◌≡◌, arith}
use Rattle.ertms_codec.specs.FromTrainWritten.{length_of_message}
use Rattle.ertms_codec.proofs.Written.{Writes-append}
use Rattle.ertms_codec.proofs.FromTrainWritten.{length_of_report, length_of_answer}
use Rattle.ertms_codec.proofs.from_train_writer.put_message.Goals as goal

pub returns-in-Report : goal.returns-in-Report
returns-in-Report c =
    let whole = length_of_report c.in-Report.stamp c.in-Report.engine c.in-Report.position in
    let length : c.div_ceil-length.result ≡ length_of_message c.args.message.now =
    rw c.in-Report.is (omega (arith, whole, c.div_ceil-length.ensures, c.position_width.ensures.value)) in
    rw c.in-Report.is (Writes-append (rw (length, c.in-Report.is) at c.put_header.ensures) c.put_position.ensures)

pub returns-in-Ack : goal.returns-in-Ack
returns-in-Ack c = rw c.in-Ack.is (Writes-append c.put_header-in-Ack.ensures (rw c.from.ensures at c.put.ensures))

pub returns-in-StopAck : goal.returns-in-StopAck
returns-in-StopAck c =
    let s = c.in-StopAck in
    let whole = length_of_answer s.stamp s.engine s.id s.answer s.position in
    let length : c.div_ceil-length-in-StopAck.result ≡ length_of_message c.args.message.now =
    rw s.is (omega (arith, whole, c.div_ceil-length-in-StopAck.ensures, c.position_width-in-StopAck.ensures.value)) in
    rw s.is
    (Writes-append (rw (length, s.is) at c.put_header-in-StopAck.ensures)
    (Writes-append (rw c.from-in-StopAck.ensures at c.put-in-StopAck.ensures)
    (Writes-append (rw c.from-in-StopAck-2.ensures at c.put-in-StopAck-2.ensures) c.put_position-in-StopAck.ensures)))
