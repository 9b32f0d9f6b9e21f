use Rattle.ertms_codec.proofs.Places.{takes_first, takes_second}
use Rattle.ertms_codec.proofs.reading.next_two.Goals as goal

pub returns-clause-first : goal.returns-clause-first
returns-clause-first c = takes_first c.args.first c.args.second c.apart.ensures.0 c.next-both.ensures

pub returns-clause-second : goal.returns-clause-second
returns-clause-second c = takes_second c.args.first c.args.second c.apart.ensures.1 c.next-both.ensures
