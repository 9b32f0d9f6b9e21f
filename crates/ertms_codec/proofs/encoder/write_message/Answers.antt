use Rattle.std.proofs.Common.{sym, ◌∙◌}
use Rattle.ertms_codec.specs.Grammar.{FirstWrong, message}
use Rattle.ertms_codec.proofs.ToTrainTexts.{wrong_to_train, wrong_from_train, wrong_behind, other_half}
use Rattle.ertms_codec.proofs.FirstWrongWord.{of_general}
use Rattle.ertms_codec.proofs.WordsLeft.{about_fault, handed_on}
use Rattle.ertms_codec.proofs.encoder.write_message.Goals as goal

pub returns-in_err-number-clause-err : goal.returns-in_err-number-clause-err
returns-in_err-number-clause-err c =
    handed_on c.from_residual.result _ _ c.from_residual.ensures.1 (c.in_err-number.ensures.err _)

pub returns-in_err-message-clause-err : goal.returns-in_err-message-clause-err
returns-in_err-message-clause-err c =
    handed_on c.from_residual-in_err-message.result _ _ c.from_residual-in_err-message.ensures.1
    (about_fault {Q = FirstWrong c.args.words.now.next message c.args.words.now.words} _
    (λ wrong first. wrong_to_train c.in_ok-number.number wrong (sym c.is_to_train.ensures ∙ c.if-is_to_train.true) c.in_ok-number.ensures.ok first) c.in_err-message.ensures.err)

pub returns-in_err-message-2-clause-err : goal.returns-in_err-message-2-clause-err
returns-in_err-message-2-clause-err c =
    handed_on c.from_residual-in_err-message-2.result _ _ c.from_residual-in_err-message-2.ensures.1
    (wrong_from_train c.in_ok-number.number _ (other_half _ _ c.in_ok-number.ensures.ok.0 (sym c.is_to_train.ensures ∙ c.if-is_to_train.false)) c.in_ok-number.ensures.ok (c.in_err-message-2.ensures.err _))

pub returns-in_err-end-clause-err : goal.returns-in_err-end-clause-err
returns-in_err-end-clause-err c =
    let read = c.in_ok-message-2.ensures in
    handed_on c.from_residual-in_err-end.result _ _ c.from_residual-in_err-end.ensures.1
    (wrong_behind c.in_ok-message-2.message c.in_ok-number.number _ (other_half _ _ c.in_ok-number.ensures.ok.0 (sym c.is_to_train.ensures ∙ c.if-is_to_train.false)) c.in_ok-number.ensures.ok read.range read.kind read.ok c.in_err-end.ensures.err)

pub returns-in_err-message-clause-memory : goal.returns-in_err-message-clause-memory
returns-in_err-message-clause-memory c =
    handed_on c.from_residual-in_err-message.result _ _ c.from_residual-in_err-message.ensures.1
    (λ is. of_general c.in_ok-number.number c.in_ok-number.ensures.ok.1 (c.in_err-message.ensures.memory is))
