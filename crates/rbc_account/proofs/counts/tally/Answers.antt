use Rattle.std.proofs.Common.{arith}
use Rattle.rbc_account.proofs.Shares.{all_shared}
use Rattle.rbc_account.proofs.counts.tally.Goals as goal

pub returns-clause-add_up : goal.returns-clause-add_up
returns-clause-add_up c = omega (arith, c.how_many.ensures, c.how_many-2.ensures, c.how_many-3.ensures, c.how_many-4.ensures, all_shared c.args.shares.now)
