use Rattle.rbc_account.specs.SentInputs.{input_at}
use Rattle.rbc_account.proofs.Noting.{message_noted}
use Rattle.rbc_account.proofs.sent_input.SentInputs.note.Goals as goal

pub loop-index-preserved : goal.loop-index-preserved
loop-index-preserved c =
    message_noted c.args.input (input_at c.args.self.now) (input_at c.loop-index.self) (input_at c.note_message.new.self) c.args.messages.now c.loop-index.index c.at.result.now c.at.ensures c.loop-index.invariant c.in_ok-note_message.ensures
