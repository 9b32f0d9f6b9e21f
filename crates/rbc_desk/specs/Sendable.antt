-- Mails that can be written, and read again.
use Rattle.std.specs.Prelude.{List}
use Rattle.std.specs.List.{All}
use Rattle.ertms_codec.specs.ToTrain.{Fits, Spells, spelling_of}
use Rattle.rbc_desk.specs.declared.outbox.Mail.{Mail}

-- each message fits, and is what its bytes spell
abbrev pub AreSendable : List Mail → Type 0
AreSendable mails = All (λ mail. Fits mail.message × Spells (spelling_of mail.message) mail.message) mails
