use Rattle.std.proofs.Common.{◌∙◌, sym, arith}
use Rattle.rbc_ids.proofs.Tables.{not_told}
use Rattle.rbc_tests.proofs.tests.settling.issue.Goals as goal

pub issue-requires : goal.issue-requires
issue-requires g c = (omega arith, not_told c.args.table.now c.args.number (sym c.of_number.ensures ∙ c.in-None.is))
