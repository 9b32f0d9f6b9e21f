use Rattle.std.proofs.Common.{◌<◌, length, sym, subst, refl, rules}
use Rattle.rbc_text.specs.BatchText.{IsInput}
use Rattle.rbc_text.proofs.HexWords.{digits_alone}
use Rattle.rbc_text.proofs.messages.short_message.Goals as goal

pub returns-then-bytes_of_digits : goal.returns-then-bytes_of_digits
returns-then-bytes_of_digits c =
    let some : 0 < length c.args.text.now = search rules in
    let told = c.if-bytes_of_digits.ensures in
    subst (λ line. IsInput line c.heard.result) (sym (digits_alone c.args.text.now _ some (told.all.0 refl) (told.spelled refl))) c.heard.ensures
