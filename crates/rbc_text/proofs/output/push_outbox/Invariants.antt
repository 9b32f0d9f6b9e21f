use Rattle.std.proofs.Common.{◌≡◌, ◌++◌, take}
use Rattle.std.specs.List.{flat_map}
use Rattle.rbc_text.specs.OutputText.{mail_line}
use Rattle.rbc_text.proofs.output.push_outbox.Given as goal

abbrev pub invariant-loop-mail : goal.invariant-loop-mail
invariant-loop-mail l = l.text.items ≡ l.fn.text.items ++ flat_map (mail_line l.engine) (take l.mail-index l.mails)
