use Rattle.std.proofs.Common.{append_assoc}
use Rattle.rbc_dispatch.proofs.figures.FiguresDisplay.fmt.Goals as goal

-- the pieces of the text are written as the report joins them
pub returns-clause-writes : goal.returns-clause-writes
returns-clause-writes g c = λ plain done. simp append_assoc (simp append_assoc at (c.write.ensures.writes plain done))
