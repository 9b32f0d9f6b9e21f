use Rattle.std.proofs.Common.{sym}
use Rattle.ertms_codec.proofs.Leads.{past_train, word_146}
use Rattle.ertms_codec.proofs.WordsLeft.{handed_on}
use Rattle.ertms_codec.proofs.from_train_parser.acknowledgement.Goals as goal

pub returns-in_err-stamp-clause-err : goal.returns-in_err-stamp-clause-err
returns-in_err-stamp-clause-err c =
    handed_on c.from_residual.result _ _ c.from_residual.ensures.1
    (λ next. c.in_err-stamp.ensures.err _)

pub returns-in_err-acked-clause-err : goal.returns-in_err-acked-clause-err
returns-in_err-acked-clause-err c =
    handed_on c.from_residual-in_err-acked.result _ _ c.from_residual-in_err-acked.ensures.1
    (λ next. past_train _ _ _ _ c.in_ok-stamp.ensures.range c.in_ok-stamp.ensures.ok
    (c.in_err-acked.ensures.err _))

pub returns-clause-kind : goal.returns-clause-kind
returns-clause-kind c = sym word_146
