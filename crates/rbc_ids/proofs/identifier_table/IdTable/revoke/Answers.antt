use Rattle.std.proofs.Common.{arith}
use Rattle.rbc_ids.specs.Table.{is_used}
use Rattle.rbc_ids.proofs.Tables.{has-any}
use Rattle.rbc_ids.proofs.Once.{apart-revoking}
use Rattle.rbc_ids.proofs.identifier_table.IdTable.revoke.Goals as goal

pub put-requires : goal.put-requires
put-requires g c = (omega arith, (has-any c.args.id (λ held. is_used held.1) c.args.self.now c.requires, apart-revoking c.args.id c.args.stamp c.args.self.now))
