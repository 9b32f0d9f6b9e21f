use Rattle.std.proofs.Common.{◌-◌, refl, arith}
use Rattle.ertms_codec.specs.Layout.{value_at}
use Rattle.ertms_codec.proofs.Places.{takes_at, further}
use Rattle.ertms_codec.proofs.position_reader.pass_over_packet.Goals as goal

pub returns-clause-rest : goal.returns-clause-rest
returns-clause-rest c =
    let bits = c.args.bits.now in
    let number = takes_at bits 0 refl c.next_two-size.ensures.first in
    let size = takes_at bits 8 number.1 c.next_two-size.ensures.second in
    further bits c.next_two-size.new.bits c.pass_over.new.bits 21 (c.next_two-size.result.1 - 21) (value_at 8 13 bits) (omega (arith, size.0)) size.1 c.pass_over.ensures.rest
