use Rattle.ertms_codec.proofs.Leads.{past_named}
use Rattle.ertms_codec.proofs.WordsLeft.{handed_on}
use Rattle.ertms_codec.proofs.from_train_parser.train.Goals as goal

pub returns-in_err-stamp-clause-err : goal.returns-in_err-stamp-clause-err
returns-in_err-stamp-clause-err c =
    handed_on c.from_residual.result _ _ c.from_residual.ensures.1
    (λ next. c.in_err-stamp.ensures.err _)

pub returns-in_err-engine-clause-err : goal.returns-in_err-engine-clause-err
returns-in_err-engine-clause-err c =
    handed_on c.from_residual-in_err-engine.result _ _ c.from_residual-in_err-engine.ensures.1
    (λ next. past_named _ _ _ _ _ c.in_ok-stamp.ensures.ok
    (c.in_err-engine.ensures.err _))
