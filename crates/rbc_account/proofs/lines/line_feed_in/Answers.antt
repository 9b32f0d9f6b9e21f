use Rattle.ertms_codec.proofs.FirstPlaces.{first_place}
use Rattle.rbc_account.proofs.lines.line_feed_in.Goals as goal

pub returns : goal.returns
returns c = first_place 10 c.args.text.now c.memchr.result c.memchr.ensures
