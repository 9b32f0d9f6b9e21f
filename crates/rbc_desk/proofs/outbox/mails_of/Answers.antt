use Rattle.std.proofs.Common.{◌∙◌, ap, sym}
use Rattle.std.specs.Prelude.{option_copied}
use Rattle.rbc_desk.proofs.TakesBack.{found_mails, no_mails}
use Rattle.rbc_desk.proofs.outbox.mails_of.Goals as goal

pub returns-in-Some-clause-mails : goal.returns-in-Some-clause-mails
returns-in-Some-clause-mails c = c.mails.ensures.mails ∙ found_mails c.args.outboxes.now c.args.engine c.in-Some.outbox.now (ap option_copied (sym c.in-Some.is) ∙ c.value_of.ensures)

pub returns-in-None-clause-mails : goal.returns-in-None-clause-mails
returns-in-None-clause-mails c = no_mails c.args.outboxes.now c.args.engine (ap option_copied (sym c.in-None.is) ∙ c.value_of.ensures)
