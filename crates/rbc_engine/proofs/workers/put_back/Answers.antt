use Rattle.rbc_engine.proofs.Ends.{done}
use Rattle.rbc_engine.proofs.workers.put_back.Goals as goal

pub returns : goal.returns
returns g c = done g.N.RunName.run _ _ _ c.requires c.stats-stats.ensures.counts c.stats-stats.ensures.book.kept c.close.ensures.serial c.close.ensures.mails
