use Rattle.rbc_live.proofs.Runs.{each_history_is_serial}
use Rattle.rbc_live.proofs.law.history_law.Goals as goal

pub returns : goal.returns
returns c = each_history_is_serial
