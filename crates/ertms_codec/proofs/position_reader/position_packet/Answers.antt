use Rattle.std.proofs.Common.{◌≡◌, ◌+◌, ◌-◌, ℕ, List, drop, refl, arith, ap, ◌∙◌, drop-drop}
use Rattle.std.specs.Prelude.{◌==◌, if◌then◌else◌}
use Rattle.std.proofs.lemmas.Result.{err_from_is_err_and}
use Rattle.ertms_bits.specs.Bits.{number_of}
use Rattle.ertms_codec.specs.Layout.{value_at}
use Rattle.ertms_codec.specs.FromTrain.{has_system}
use Rattle.ertms_codec.specs.RefusalsFromTrain.{shift_in, train_place, length_width, system_width}
use Rattle.ertms_codec.specs.Reading.{Takes, train_more}
use Rattle.ertms_codec.proofs.Places.{takes_at, further}
use Rattle.ertms_codec.proofs.position_reader.position_packet.Goals as goal

-- the bits that L_TRAININT and NID_NTC take, by the bits from Q_LENGTH on
more_is : {train behind : List ℕ} {integrity : ℕ} → Takes 2 train integrity behind → train_more integrity behind ≡ length_width train + system_width train
more_is {train} t =
    let long = length_width train in
    let place : 2 + (13 + long) ≡ 15 + long = omega arith in
    let level : value_at (13 + long) 3 (drop 2 train) ≡ value_at (15 + long) 3 train = ap (number_of 3) (drop-drop (13 + long) 2 train ∙ ap (λ n. drop n train) place) in
    rw (t.value, t.rest) (ap (λ n. long + (if has_system n then 8 else 0)) level)

shift_is : (packet : List ℕ) {number width : ℕ} → number ≡ value_at 0 8 packet → width ≡ (if number == 1 then 24 else 0) → width ≡ shift_in packet
shift_is packet at is = is ∙ ap (λ n. if n == 1 then 24 else 0) at

pub returns-clause-packet : goal.returns-clause-packet
returns-clause-packet c =
    let bits = c.args.bits.now in
    let header = c.header-number.ensures in
    let more = more_is (c.variables-integrity.ensures.value bits header.group header.number).1 in
    let shift = shift_is bits header.number c.previous_width-least.ensures in
    let enough = c.in_ok-pass_over_train.ensures.enough in
    record {
      header = omega (arith, c.left-left.ensures);
      number = omega (arith, header.number);
      enough = omega (arith, header.size, more, shift, enough);
      within = omega (arith, header.size, c.left-left.ensures);
    }

pub returns-clause-rest : goal.returns-clause-rest
returns-clause-rest c =
    let bits = c.args.bits.now in
    let header = c.header-number.ensures in
    let train = takes_at bits (train_place bits) refl (c.variables-integrity.ensures.value bits header.group header.number).1 in
    let shift = shift_is bits header.number c.previous_width-least.ensures in
    further bits c.variables-integrity.new.bits c.pass_over_train.new.bits (train_place bits + 2) (16 + (c.header-number.result.1 - (114 + c.previous_width-least.result))) (value_at 8 13 bits) (omega (arith, header.size, shift)) train.1 c.in_ok-pass_over_train.ensures.rest

pub returns-in_err-pass_over_train-clause-err : goal.returns-in_err-pass_over_train-clause-err
returns-in_err-pass_over_train-clause-err c =
    let bits = c.args.bits.now in
    let header = c.header-number.ensures in
    let more = more_is (c.variables-integrity.ensures.value bits header.group header.number).1 in
    let shift = shift_is bits header.number c.previous_width-least.ensures in
    let p = err_from_is_err_and c.from_residual.result c.from_residual.ensures.1 in
    let refused = c.in_err-pass_over_train.ensures.err in
    rw (p.1, p.2) (λ begins. omega (arith, header.size, more, shift, refused.0, begins.enough), refused.1)
