use Rattle.std.proofs.Common.{refl}
use Rattle.ertms_codec.proofs.Places.{takes_first, takes_second, takes_at}
use Rattle.ertms_codec.proofs.position_reader.header.Goals as goal

pub returns-clause-number : goal.returns-clause-number
returns-clause-number c = (takes_at c.args.bits.now 0 refl (takes_first 8 13 c.apart-number.ensures.0 c.next_two-both.ensures.first)).0

pub returns-clause-size : goal.returns-clause-size
returns-clause-size c = (takes_at c.args.bits.now 8 refl (takes_second 8 13 c.apart-number.ensures.1 c.next_two-both.ensures.first)).0
