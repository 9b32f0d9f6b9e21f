-- What the messages in answers say.
use Rattle.std.proofs.Common.{ℕ, List, [], map, sym, subst}
use Rattle.rbc_text.specs.Mail.{Mail}
use Rattle.rbc_text.specs.Serial.{new_desk}
use Rattle.rbc_text.specs.SaidMails.{AreSaidMails}
use Rattle.rbc_text.proofs.Begins.{new_world_is_well_formed}
use Rattle.rbc_text.proofs.LineFits.{inputs_fit}
use Rattle.rbc_text.proofs.Mails.{each_run_says}
use Rattle.rbc_live.specs.Lines.{EachAnswerSays}

pub each_answer_says : EachAnswerSays
each_answer_says plan wanted lines text answers is_plan =
    let fit = inputs_fit (map (λ one. one.line) answers.taken) answers.inputs answers.serial.0 in
    subst (λ (boxes : List (ℕ × List Mail)). AreSaidMails plan new_desk answers.inputs [] boxes) (sym answers.serial.1.outboxes)
    (each_run_says plan new_desk answers.inputs is_plan (new_world_is_well_formed plan) fit)
