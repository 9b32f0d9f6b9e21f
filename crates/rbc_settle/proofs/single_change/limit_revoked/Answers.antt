use Rattle.std.proofs.Common.{sym}
use Rattle.rbc_settle.proofs.SingleChange.{identifier_used}
use Rattle.rbc_settle.proofs.single_change.limit_revoked.Goals as goal

pub returns-clause-allowed : goal.returns-clause-allowed
returns-clause-allowed c = (identifier_used c.args.train.now.limits c.args.number c.in_ok-id.id (sym c.in_ok-id.ensures), tt)
