use Rattle.ertms_codec.proofs.Leads.{past_named, past_flag}
use Rattle.ertms_codec.proofs.WordsLeft.{handed_on}
use Rattle.ertms_codec.proofs.to_train_parser.head.Goals as goal

pub returns-in_err-stamp-clause-err : goal.returns-in_err-stamp-clause-err
returns-in_err-stamp-clause-err c =
    handed_on c.from_residual.result _ _ c.from_residual.ensures.1
    (λ next. c.in_err-stamp.ensures.err _)

pub returns-in_err-ack-clause-err : goal.returns-in_err-ack-clause-err
returns-in_err-ack-clause-err c =
    handed_on c.from_residual-in_err-ack.result _ _ c.from_residual-in_err-ack.ensures.1
    (λ next. past_named _ _ _ _ _ c.in_ok-stamp.ensures.ok
    (c.in_err-ack.ensures.err _))

pub returns-in_err-lrbg-clause-err : goal.returns-in_err-lrbg-clause-err
returns-in_err-lrbg-clause-err c =
    handed_on c.from_residual-in_err-lrbg.result _ _ c.from_residual-in_err-lrbg.ensures.1
    (λ next. past_named _ _ _ _ _ c.in_ok-stamp.ensures.ok
    (past_flag _ _ _ _ c.in_ok-ack.ensures.ok
    (c.in_err-lrbg.ensures.err _)))
