use Rattle.std.proofs.Common.{option_copied}
use Rattle.rbc_account.specs.Subjects.{IsToldOf}
use Rattle.rbc_account.proofs.Listing.{paired_length}
use Rattle.rbc_account.proofs.block.block_of.Goals as goal

pub returns-clause-paired : goal.returns-clause-paired
returns-clause-paired c = paired_length (IsToldOf c.args.desk.now.records c.args.input (option_copied c.args.before)) c.args.answer.messages _ c.in_ok-told.ensures.right
