use Rattle.rbc_json.proofs.Plainness.{value_plain}
use Rattle.rbc_json.proofs.law.json_law.Goals as goal

pub returns : goal.returns
returns c = record { plain = value_plain }
