use Rattle.ertms_codec.proofs.Leads.{past_named}
use Rattle.ertms_codec.proofs.WordsLeft.{handed_on}
use Rattle.ertms_codec.proofs.to_train_parser.last_id.Goals as goal

pub returns-in_err-id-clause-err : goal.returns-in_err-id-clause-err
returns-in_err-id-clause-err c =
    handed_on c.from_residual.result _ _ c.from_residual.ensures.1
    (c.in_err-id.ensures.err _)

pub returns-in_err-end-clause-err : goal.returns-in_err-end-clause-err
returns-in_err-end-clause-err c =
    handed_on c.from_residual-in_err-end.result _ _ c.from_residual-in_err-end.ensures.1
    (past_named _ _ _ _ _ c.in_ok-id.ensures.ok
    (c.in_err-end.ensures.err))
