use Rattle.std.proofs.Common.{◌∙◌}
use Rattle.rbc_account.specs.ToldPlaces.{kept_at}
use Rattle.rbc_account.specs.SentInputs.{input_at}
use Rattle.rbc_account.specs.Sums.{input_count}
use Rattle.rbc_account.proofs.Feeding.{fed_as, right_as, kept_as, noted_as, known_as}
use Rattle.rbc_account.proofs.account.Account.step.Goals as goal

pub returns-clause-fed : goal.returns-clause-fed
returns-clause-fed c =
    fed_as c.args.self.now.desk.track c.args.line.now c.args.self.now.desk.records c.take.new.self.desk.records c.in_ok-answer.answer.reply c.in_ok-answer.answer.messages
    c.block_of.result c.block_of.ensures.reply c.block_of.ensures.messages (c.in_ok-input.input, c.in_ok-input.ensures.spelled, c.in_ok-answer.ensures.steps)

pub returns-clause-told : goal.returns-clause-told
returns-clause-told c =
    kept_as c.args.self.now.desk.track (kept_at c.args.self.now.told_places) (kept_at c.take.new.self.told_places) c.in_ok-answer.answer.messages
    c.block_of.result c.block_of.ensures.messages c.in_ok-answer.ensures.told

pub returns-clause-sent : goal.returns-clause-sent
returns-clause-sent c =
    noted_as (input_count c.take.new.self.sums) (input_at c.args.self.now.sent_inputs) (input_at c.take.new.self.sent_inputs) c.in_ok-answer.answer.messages
    c.block_of.result c.block_of.ensures.messages c.in_ok-answer.ensures.sent

pub returns-clause-right : goal.returns-clause-right
returns-clause-right c =
    right_as c.take.new.self.desk.track c.args.self.now.desk.records c.take.new.self.desk.records c.in_ok-input.input _
    c.block_of.result c.block_of.ensures.input (c.as_ref.ensures.value ∙ c.in_ok-before.ensures) c.block_of.ensures.right

pub returns-clause-known : goal.returns-clause-known
returns-clause-known c =
    known_as c.args.self.now.desk.track c.args.self.now.desk.records c.take.new.self.desk.records c.in_ok-input.input _ c.in_ok-answer.answer.reply c.in_ok-answer.answer.messages
    c.block_of.result c.is_plan.ensures c.in_ok-input.ensures.fits c.args.self.now.desk.serial c.in_ok-answer.ensures.steps (c.as_ref.ensures.value ∙ c.in_ok-before.ensures)
    c.block_of.ensures.messages c.block_of.ensures.known
