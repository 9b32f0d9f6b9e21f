use Rattle.rbc_text.specs.BatchText.{words_of}
use Rattle.rbc_text.proofs.LineFits.{command_or_bad_fits}
use Rattle.rbc_text.proofs.line.parse_line.Goals as goal

pub returns-in_ok-found-in-Some-2-clause-fits : goal.returns-in_ok-found-in-Some-2-clause-fits
returns-in_ok-found-in-Some-2-clause-fits c =
    command_or_bad_fits c.cut.result.0.now (words_of c.in-Some-2.arguments.now) _ _ c.in_ok-found-in-Some-2.ensures (rw c.bad_line-in-Some-2.ensures at c.unwrap_or.ensures)
