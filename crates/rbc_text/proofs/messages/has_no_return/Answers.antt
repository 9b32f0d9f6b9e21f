use Rattle.ertms_codec.proofs.FirstPlaces.{found_nowhere}
use Rattle.rbc_text.proofs.messages.has_no_return.Goals as goal

pub returns : goal.returns
returns c = found_nowhere 13 c.args.word.now c.memchr.result c.is_none.result c.memchr.ensures c.is_none.ensures
