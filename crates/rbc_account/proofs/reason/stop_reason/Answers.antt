use Rattle.std.proofs.Common.{option_copied, ap}
use Rattle.rbc_account.proofs.reason.stop_reason.Goals as goal

pub returns-in-Some-clause-is : goal.returns-in-Some-clause-is
returns-in-Some-clause-is c = (c.in-Some.field-0.now, ap option_copied c.in-Some.is, c.if-forced.true)
