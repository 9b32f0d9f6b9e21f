use Rattle.std.proofs.Common.{sym}
use Rattle.ertms_codec.proofs.Leads.{past_named, word_66}
use Rattle.ertms_codec.proofs.WordsLeft.{handed_on}
use Rattle.ertms_codec.proofs.to_train_parser.revocation.Goals as goal

pub returns-in_err-dir-clause-err : goal.returns-in_err-dir-clause-err
returns-in_err-dir-clause-err c =
    handed_on c.from_residual.result _ _ c.from_residual.ensures.1
    (λ next. c.in_err-dir.ensures.err _)

pub returns-in_err-id-clause-err : goal.returns-in_err-id-clause-err
returns-in_err-id-clause-err c =
    handed_on c.from_residual-in_err-id.result _ _ c.from_residual-in_err-id.ensures.1
    (λ next. past_named _ _ _ _ _ c.in_ok-dir.ensures.ok
    (c.in_err-id.ensures.err _))

pub returns-clause-number : goal.returns-clause-number
returns-clause-number c = sym word_66
