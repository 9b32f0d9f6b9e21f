use Rattle.std.proofs.Common.{option_copied, sym, ◌∙◌}
use Rattle.rbc_account.proofs.told.stop_at_once.Goals as goal

pub returns-in-None-clause-why : goal.returns-in-None-clause-why
returns-in-None-clause-why c = c.stopped_at_once.ensures.why (option_copied c.args.before) (sym c.escalated_under.ensures ∙ c.in-None.is)
