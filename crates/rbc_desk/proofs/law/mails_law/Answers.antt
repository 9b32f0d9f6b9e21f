use Rattle.rbc_desk.proofs.Mails.{each_run_says}
use Rattle.rbc_desk.proofs.law.mails_law.Goals as goal

pub returns : goal.returns
returns c = each_run_says
