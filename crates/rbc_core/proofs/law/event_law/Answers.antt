use Rattle.rbc_core.proofs.Laws.{events_are_serial}
use Rattle.rbc_core.proofs.law.event_law.Goals as goal

pub returns : goal.returns
returns c = events_are_serial
