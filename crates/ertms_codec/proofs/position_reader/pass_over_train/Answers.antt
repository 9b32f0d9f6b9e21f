use Rattle.std.proofs.Common.{◌+◌, ◌-◌, arith}
use Rattle.ertms_codec.proofs.Places.{further}
use Rattle.ertms_codec.proofs.position_reader.pass_over_train.Goals as goal

pub returns-clause-rest : goal.returns-clause-rest
returns-clause-rest c =
    let bits = c.args.bits.now in
    let length = c.length_width-length.result in
    let level = further bits c.pass_over.new.bits c.next.new.bits (length + 7 + 2 + 4) 3 (16 + length) (omega arith) c.pass_over.ensures.rest c.next.ensures.rest in
    further bits c.next.new.bits c.pass_over-2.new.bits (16 + length) (c.args.more - c.from-3.result) (16 + c.args.more) (omega (arith, c.from-3.ensures)) level c.pass_over-2.ensures.rest
