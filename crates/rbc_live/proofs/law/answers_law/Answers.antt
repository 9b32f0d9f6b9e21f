use Rattle.rbc_live.proofs.Saying.{each_answer_says}
use Rattle.rbc_live.proofs.law.answers_law.Goals as goal

pub returns : goal.returns
returns c = each_answer_says
