use Rattle.std.proofs.Common.{rules}
use Rattle.std.proofs.lemmas.Str.{chars_from_encodes}
use Rattle.rbc_track_report.proofs.names.is_short.Goals as goal

pub returns : goal.returns
returns c = search (rules, chars_from_encodes)
