use Rattle.std.proofs.Common.{◌≡◌, arith, sym, ◌∙◌, true, ap, w16, FitsSigned, rules}
use Rattle.std.specs.Str.{bytes_eq}
use Rattle.std.specs.Fmt.{signed_decimal}
use Rattle.std.proofs.lemmas.Int.{to_z-of_z}
use Rattle.std.proofs.lemmas.Fmt.{IsAscii-signed}
use Rattle.std.proofs.lemmas.Str.{IsUtf8-from_ascii}
use Rattle.ertms_codec.proofs.NumberWords.{not_refused_signed, no_other_signed, bytes_eq-same, false_is_not_true}
use Rattle.ertms_codec.proofs.words.reference_in.Goals as goal

pub returns-in_default-clause-none : goal.returns-in_default-clause-none
returns-in_default-clause-none c = λ number small is.
    absurd (c.in_default.ensures.cases.0 (IsUtf8-from_ascii c.args.word.now (rw is (IsAscii-signed number (omega arith)))))

pub returns-in_default-parse-clause-none : goal.returns-in_default-parse-clause-none
returns-in_default-parse-clause-none c = λ number small is.
    not_refused_signed (Unit {0}) w16 number c.in-Ok.text.now tt small (omega arith) (c.in-Ok.ensures.cases.0 ∙ is) c.in_default-parse.ensures.value.0

pub returns-else-eq-clause-none : goal.returns-else-eq-clause-none
returns-else-eq-clause-none c = λ number small is.
    let spelled = no_other_signed (Unit {0}) w16 number c.in-Ok-parse.number c.in-Ok.text.now small (omega arith) (c.in-Ok.ensures.cases.0 ∙ is) c.in-Ok-parse.ensures.value.0 in
    let signed : FitsSigned w16 c.in-Ok-parse.number = search rules in
    let same : bytes_eq c.in-Ok.text.now c.format.result.now ≡ true = bytes_eq-same _ _ (spelled ∙ sym (c.format.ensures.text ∙ ap signed_decimal (to_z-of_z w16 c.in-Ok-parse.number signed))) in
    false_is_not_true (sym c.if-eq.false ∙ c.eq.ensures ∙ same)
