use Rattle.std.proofs.Common.{refl, inl, arith}
use Rattle.ertms_bits.specs.Bits.{bits_of_bytes}
use Rattle.ertms_codec.proofs.ToTrainSteps.{left_behind, begins, ten_bytes, packets_refused, has_packets, field_refused, length_refused, fault_handed_on, is_read}
use Rattle.ertms_codec.proofs.to_train_reader.read.Goals as goal

pub head-head-requires : goal.head-head-requires
head-head-requires c =
    let steps = c.in_ok-check_length.ensures.ok in
    let ten = ten_bytes _ _ steps.0 steps.1 in
    left_behind 18 57 c.args.bytes.now _ c.in_ok-number.ensures.rest (omega (arith, ten))

pub body-requires-clause-least : goal.body-requires-clause-least
body-requires-clause-least c =
    let steps = c.in_ok-check_length.ensures.ok in
    let ten = ten_bytes _ _ steps.0 steps.1 in
    left_behind 75 4 c.args.bytes.now _ (c.head-head.ensures (bits_of_bytes c.args.bytes.now) c.in_ok-number.ensures.rest).1 (omega (arith, ten))

pub body-requires-clause-conditional : goal.body-requires-clause-conditional
body-requires-clause-conditional c conditional =
    let fifteen = c.in_ok-check_length.ensures.ok.1.conditional conditional in
    left_behind 75 39 c.args.bytes.now _ (c.head-head.ensures (bits_of_bytes c.args.bytes.now) c.in_ok-number.ensures.rest).1 (omega (arith, fifteen))

pub returns-in_err-number-clause-err : goal.returns-in_err-number-clause-err
returns-in_err-number-clause-err c =
    fault_handed_on c.args.bytes.now c.from_residual.result _ c.from_residual.ensures.1 (inl c.in_err-number.ensures.err)

pub returns-in_err-check_length-clause-err : goal.returns-in_err-check_length-clause-err
returns-in_err-check_length-clause-err c =
    let refused = length_refused c.args.bytes.now c.in_ok-number.number _ c.in_ok-number.ensures.length c.in_ok-number.ensures.number c.in_err-check_length.ensures.err in
    fault_handed_on c.args.bytes.now c.from_residual-in_err-check_length.result _ c.from_residual-in_err-check_length.ensures.1 refused

pub returns-in_err-message-clause-err : goal.returns-in_err-message-clause-err
returns-in_err-message-clause-err c =
    let b = begins c.args.bytes.now c.in_ok-number.number c.in_ok-number.ensures.length c.in_ok-number.ensures.number c.in_ok-check_length.ensures.ok in
    let head = c.head-head.ensures (bits_of_bytes c.args.bytes.now) c.in_ok-number.ensures.rest in
    let refused = packets_refused c.args.bytes.now c.head-head.new.bits c.in_ok-number.number _ b c.in_ok-number.ensures.number head.1 c.in_err-message.ensures.err in
    fault_handed_on c.args.bytes.now c.from_residual-in_err-message.result _ c.from_residual-in_err-message.ensures.1 refused

pub returns-then-fits-clause-ok : goal.returns-then-fits-clause-ok
returns-then-fits-clause-ok c =
    let number = c.in_ok-number.ensures.number in
    let b = begins c.args.bytes.now c.in_ok-number.number c.in_ok-number.ensures.length number c.in_ok-check_length.ensures.ok in
    let head = c.head-head.ensures (bits_of_bytes c.args.bytes.now) c.in_ok-number.ensures.rest in
    let packets = has_packets c.args.bytes.now c.head-head.new.bits c.in_ok-number.number number head.1 c.in_ok-message.ensures.packets in
    is_read c.args.bytes.now c.in_ok-message.message b packets (c.in_ok-message.ensures.ok (bits_of_bytes c.args.bytes.now) head.1 head.0 number) (c.if-fits.ensures.0 refl)

pub returns-else-fits-clause-err : goal.returns-else-fits-clause-err
returns-else-fits-clause-err c =
    let number = c.in_ok-number.ensures.number in
    let b = begins c.args.bytes.now c.in_ok-number.number c.in_ok-number.ensures.length number c.in_ok-check_length.ensures.ok in
    let head = c.head-head.ensures (bits_of_bytes c.args.bytes.now) c.in_ok-number.ensures.rest in
    let packets = has_packets c.args.bytes.now c.head-head.new.bits c.in_ok-number.number number head.1 c.in_ok-message.ensures.packets in
    field_refused c.args.bytes.now c.in_ok-message.message b packets (c.in_ok-message.ensures.ok (bits_of_bytes c.args.bytes.now) head.1 head.0 number) (λ fits. let wrong = c.if-fits.ensures.1 fits in absurd cc)
