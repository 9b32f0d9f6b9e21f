use Rattle.rbc_live.proofs.Alike.{shows_nothing}
use Rattle.rbc_live.proofs.line.UnfinishedLine.new.Goals as goal

pub returns : goal.returns
returns c = shows_nothing _ c.new.ensures.items
