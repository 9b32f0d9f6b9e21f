use Rattle.ertms_codec.proofs.Leads.{past_message}
use Rattle.ertms_codec.proofs.WordsLeft.{handed_on}
use Rattle.ertms_codec.proofs.from_train_parser.message.Goals as goal

pub returns-in_err-number-clause-err : goal.returns-in_err-number-clause-err
returns-in_err-number-clause-err c =
    handed_on c.from_residual.result _ _ c.from_residual.ensures.1 (c.in_err-number.ensures.err _)

pub returns-in_err-end-clause-err : goal.returns-in_err-end-clause-err
returns-in_err-end-clause-err c =
    let m = c.in_ok-message.message in
    handed_on c.from_residual-in_err-end.result _ _ c.from_residual-in_err-end.ensures.1
    (past_message m c.in_ok-number.number _ c.in_ok-number.ensures.ok c.in_ok-message.ensures.range c.in_ok-message.ensures.kind c.in_ok-message.ensures.ok c.in_err-end.ensures.err)
