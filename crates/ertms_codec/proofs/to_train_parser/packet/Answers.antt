use Rattle.std.proofs.Common.{◌≡◌, ◌∙◌, ap, arith}
use Rattle.std.specs.Prelude.{codes}
use Rattle.std.specs.Fmt.{decimal}
use Rattle.ertms_codec.proofs.Leads.{past_part, packet_number, word_65, word_66}
use Rattle.ertms_codec.proofs.WordsLeft.{about_err, handed_on}
use Rattle.ertms_codec.proofs.to_train_parser.packet.Goals as goal

pub returns-in_err-number-clause-err : goal.returns-in_err-number-clause-err
returns-in_err-number-clause-err c =
    handed_on c.from_residual.result _ _ c.from_residual.ensures.1 (λ next. c.in_err-number.ensures.err _)

pub returns-in-65-clause-err : goal.returns-in-65-clause-err
returns-in-65-clause-err c =
    let word : decimal c.in_ok-number.number ≡ codes "65" = ap decimal c.in-65.is ∙ word_65 in
    about_err c.restriction.result (λ wrong first next. past_part _ _ wrong c.in_ok-number.ensures.ok (rw word (first next))) c.restriction.ensures.err

pub returns-in_default-clause-err : goal.returns-in_default-clause-err
returns-in_default-clause-err c =
    let is = packet_number c.in_ok-number.number c.in_ok-number.ensures.ok.0 (omega (arith, c.in_default)) in
    let word : decimal c.in_ok-number.number ≡ codes "66" = ap decimal is ∙ word_66 in
    about_err c.revocation.result (λ wrong first next. past_part _ _ wrong c.in_ok-number.ensures.ok (rw word (first next))) c.revocation.ensures.err
