use Rattle.ertms_codec.proofs.FirstPlaces.{first_place}
use Rattle.ertms_codec.proofs.cutting.find_byte.Goals as goal

pub returns : goal.returns
returns c = first_place c.args.byte c.args.text.now c.memchr.result c.memchr.ensures
