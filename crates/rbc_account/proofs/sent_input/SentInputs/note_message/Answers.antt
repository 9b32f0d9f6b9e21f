use Rattle.std.proofs.Common.{◌≡◌, ℕ, sym, subst}
use Rattle.std.specs.Prelude.{OnOk}
use Rattle.ertms_codec.specs.declared.to_train.ToTrain.{ToTrain}
use Rattle.rbc_account.specs.SentInputs.{input_at, noted_message}
use Rattle.rbc_account.proofs.sent_input.SentInputs.note_message.Goals as goal

pub returns-in-General : goal.returns-in-General
returns-in-General c =
    subst
    (λ (m : ToTrain). OnOk c.note_packets.result ((number : ℕ) → input_at c.note_packets.new.self number
    ≡ noted_message c.args.input c.args.sent.now.engine m (input_at c.args.self.now) number))
    (sym c.in-General.is) c.note_packets.ensures
