use Rattle.std.proofs.Common.{arith}
use Rattle.ertms_codec.proofs.NumberWords.{false_is_not_true}
use Rattle.ertms_codec.proofs.WordsLeft.{wrong_word, other_number}
use Rattle.ertms_codec.proofs.words.Words.number.Goals as goal

pub returns-else-allows-clause-err : goal.returns-else-allows-clause-err
returns-else-allows-clause-err c = λ next.
    let unfit = other_number c.args.expected c.in_ok-word.word.now c.in-Some.number c.requires (omega (arith, c.in-Some.ensures.small)) c.in-Some.ensures.some (λ allowed. false_is_not_true (c.if-allows.ensures.1 allowed)) in
    wrong_word c.args.expected next c.in_ok-word.word.now _ _ c.in_ok-word.wrong c.in_ok-word.ensures.word unfit c.in_ok-word.ensures.wrong
