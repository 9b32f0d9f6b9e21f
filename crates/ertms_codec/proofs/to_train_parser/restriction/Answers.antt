use Rattle.std.proofs.Common.{sym}
use Rattle.ertms_codec.proofs.Leads.{past_named, past_flag, word_65}
use Rattle.ertms_codec.proofs.WordsLeft.{handed_on}
use Rattle.ertms_codec.proofs.to_train_parser.restriction.Goals as goal

pub returns-in_err-dir-clause-err : goal.returns-in_err-dir-clause-err
returns-in_err-dir-clause-err c =
    handed_on c.from_residual.result _ _ c.from_residual.ensures.1
    (λ next. c.in_err-dir.ensures.err _)

pub returns-in_err-scale-clause-err : goal.returns-in_err-scale-clause-err
returns-in_err-scale-clause-err c =
    handed_on c.from_residual-in_err-scale.result _ _ c.from_residual-in_err-scale.ensures.1
    (λ next. past_named _ _ _ _ _ c.in_ok-dir.ensures.ok
    (c.in_err-scale.ensures.err _))

pub returns-in_err-id-clause-err : goal.returns-in_err-id-clause-err
returns-in_err-id-clause-err c =
    handed_on c.from_residual-in_err-id.result _ _ c.from_residual-in_err-id.ensures.1
    (λ next. past_named _ _ _ _ _ c.in_ok-dir.ensures.ok
    (past_named _ _ _ _ _ c.in_ok-scale.ensures.ok
    (c.in_err-id.ensures.err _)))

pub returns-in_err-start-clause-err : goal.returns-in_err-start-clause-err
returns-in_err-start-clause-err c =
    handed_on c.from_residual-in_err-start.result _ _ c.from_residual-in_err-start.ensures.1
    (λ next. past_named _ _ _ _ _ c.in_ok-dir.ensures.ok
    (past_named _ _ _ _ _ c.in_ok-scale.ensures.ok
    (past_named _ _ _ _ _ c.in_ok-id.ensures.ok
    (c.in_err-start.ensures.err _))))

pub returns-in_err-length-clause-err : goal.returns-in_err-length-clause-err
returns-in_err-length-clause-err c =
    handed_on c.from_residual-in_err-length.result _ _ c.from_residual-in_err-length.ensures.1
    (λ next. past_named _ _ _ _ _ c.in_ok-dir.ensures.ok
    (past_named _ _ _ _ _ c.in_ok-scale.ensures.ok
    (past_named _ _ _ _ _ c.in_ok-id.ensures.ok
    (past_named _ _ _ _ _ c.in_ok-start.ensures.ok
    (c.in_err-length.ensures.err _)))))

pub returns-in_err-front-clause-err : goal.returns-in_err-front-clause-err
returns-in_err-front-clause-err c =
    handed_on c.from_residual-in_err-front.result _ _ c.from_residual-in_err-front.ensures.1
    (λ next. past_named _ _ _ _ _ c.in_ok-dir.ensures.ok
    (past_named _ _ _ _ _ c.in_ok-scale.ensures.ok
    (past_named _ _ _ _ _ c.in_ok-id.ensures.ok
    (past_named _ _ _ _ _ c.in_ok-start.ensures.ok
    (past_named _ _ _ _ _ c.in_ok-length.ensures.ok
    (c.in_err-front.ensures.err _))))))

pub returns-in_err-speed-clause-err : goal.returns-in_err-speed-clause-err
returns-in_err-speed-clause-err c =
    handed_on c.from_residual-in_err-speed.result _ _ c.from_residual-in_err-speed.ensures.1
    (λ next. past_named _ _ _ _ _ c.in_ok-dir.ensures.ok
    (past_named _ _ _ _ _ c.in_ok-scale.ensures.ok
    (past_named _ _ _ _ _ c.in_ok-id.ensures.ok
    (past_named _ _ _ _ _ c.in_ok-start.ensures.ok
    (past_named _ _ _ _ _ c.in_ok-length.ensures.ok
    (past_flag _ _ _ _ c.in_ok-front.ensures.ok
    (c.in_err-speed.ensures.err _)))))))

pub returns-clause-number : goal.returns-clause-number
returns-clause-number c = sym word_65
