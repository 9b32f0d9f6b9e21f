use Rattle.std.proofs.Common.{sym, rules}
use Rattle.ertms_codec.proofs.Leads.{past_named, past_reference, word_15}
use Rattle.ertms_codec.proofs.WordsLeft.{handed_on}
use Rattle.ertms_codec.proofs.to_train_parser.stop_at.Goals as goal

pub returns-in_err-id-clause-err : goal.returns-in_err-id-clause-err
returns-in_err-id-clause-err c =
    handed_on c.from_residual.result _ _ c.from_residual.ensures.1
    (c.in_err-id.ensures.err _)

pub returns-in_err-scale-clause-err : goal.returns-in_err-scale-clause-err
returns-in_err-scale-clause-err c =
    handed_on c.from_residual-in_err-scale.result _ _ c.from_residual-in_err-scale.ensures.1
    (past_named _ _ _ _ _ c.in_ok-id.ensures.ok
    (c.in_err-scale.ensures.err _))

pub returns-in_err-reference-clause-err : goal.returns-in_err-reference-clause-err
returns-in_err-reference-clause-err c =
    handed_on c.from_residual-in_err-reference.result _ _ c.from_residual-in_err-reference.ensures.1
    (past_named _ _ _ _ _ c.in_ok-id.ensures.ok
    (past_named _ _ _ _ _ c.in_ok-scale.ensures.ok
    (c.in_err-reference.ensures.err _)))

pub returns-in_err-dir-clause-err : goal.returns-in_err-dir-clause-err
returns-in_err-dir-clause-err c =
    handed_on c.from_residual-in_err-dir.result _ _ c.from_residual-in_err-dir.ensures.1
    (past_named _ _ _ _ _ c.in_ok-id.ensures.ok
    (past_named _ _ _ _ _ c.in_ok-scale.ensures.ok
    (past_reference _ _ _ (search rules) c.in_ok-reference.ensures.ok
    (c.in_err-dir.ensures.err _))))

pub returns-in_err-distance-clause-err : goal.returns-in_err-distance-clause-err
returns-in_err-distance-clause-err c =
    handed_on c.from_residual-in_err-distance.result _ _ c.from_residual-in_err-distance.ensures.1
    (past_named _ _ _ _ _ c.in_ok-id.ensures.ok
    (past_named _ _ _ _ _ c.in_ok-scale.ensures.ok
    (past_reference _ _ _ (search rules) c.in_ok-reference.ensures.ok
    (past_named _ _ _ _ _ c.in_ok-dir.ensures.ok
    (c.in_err-distance.ensures.err _)))))

pub returns-in_err-end-clause-err : goal.returns-in_err-end-clause-err
returns-in_err-end-clause-err c =
    handed_on c.from_residual-in_err-end.result _ _ c.from_residual-in_err-end.ensures.1
    (past_named _ _ _ _ _ c.in_ok-id.ensures.ok
    (past_named _ _ _ _ _ c.in_ok-scale.ensures.ok
    (past_reference _ _ _ (search rules) c.in_ok-reference.ensures.ok
    (past_named _ _ _ _ _ c.in_ok-dir.ensures.ok
    (past_named _ _ _ _ _ c.in_ok-distance.ensures.ok
    (c.in_err-end.ensures.err))))))

pub returns-clause-kind : goal.returns-clause-kind
returns-clause-kind c = sym word_15
