use Rattle.rbc_engine.proofs.Ends.{stopped}
use Rattle.rbc_engine.proofs.workers.finish.Goals as goal

pub returns-in-Failed : goal.returns-in-Failed
returns-in-Failed g c = stopped g.N.RunName.run _ _ _ c.committed-committed.ensures.count c.committed-committed.ensures.book.kept c.close.ensures.serial c.close.ensures.mails
