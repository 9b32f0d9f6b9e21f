use Rattle.std.proofs.Common.{refl}
use Rattle.rbc_json.proofs.law.json_law_witnesses.Goals as goal

pub returns : goal.returns
returns c = record {
  list = (refl, refl);
  line_feed = (refl, refl);
  euro = (refl, refl);
  two_lines = refl;
  bytes_of_euro = refl;
}
