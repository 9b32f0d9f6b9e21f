use Rattle.std.proofs.Common.{rules, ◌≡◌, ◌*◌, ◌≤◌, ◌∙◌, length, ap, arith}
use Rattle.ertms_bits.specs.Bits.{bits_of_bytes}
use Rattle.ertms_bits.proofs.Bits.{length-bits_of_bytes}
use Rattle.ertms_codec.specs.Layout.{value_at}
use Rattle.ertms_codec.proofs.reading.message_number.Goals as goal

pub next_two-number-requires-clause-there : goal.next_two-number-requires-clause-there
next_two-number-requires-clause-there c =
    let long : length c.args.bits.now ≡ 8 * length c.args.bytes.now = ap length c.requires ∙ length-bits_of_bytes c.args.bytes.now in
    omega arith

pub returns-clause-length : goal.returns-clause-length
returns-clause-length c =
    let three : 3 ≤ length c.args.bytes.now = omega arith in
    let said : c.next_two-number.result.1 ≡ length c.args.bytes.now = c.if-length-bytes.false in
    let read : value_at 8 10 (bits_of_bytes c.args.bytes.now) ≡ c.next_two-number.result.1 = search rules in
    (three, read ∙ said)
