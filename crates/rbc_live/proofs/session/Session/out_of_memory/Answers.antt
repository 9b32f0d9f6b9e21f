use Rattle.rbc_live.proofs.Writing.{memory_refused}
use Rattle.rbc_live.proofs.session.Session.out_of_memory.Goals as goal

pub returns-in-Ok : goal.returns-in-Ok
returns-in-Ok g c = λ plan wanted old ended are. memory_refused plan wanted ended old _ (c.in-Ok.ensures.written plan wanted old ended are)
