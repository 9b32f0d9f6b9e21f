use Rattle.ertms_codec.specs.declared.wrong_word.Expected.TheVariants as a
use Rattle.ertms_codec.specs.Grammar.{one}
use Rattle.ertms_codec.proofs.WordsLeft.{handed_on}
use Rattle.ertms_codec.proofs.words.Words.reference.Goals as goal

pub returns-in_err-name-clause-err : goal.returns-in_err-name-clause-err
returns-in_err-name-clause-err c =
    handed_on c.from_residual.result _ _ c.from_residual.ensures.1 (λ next. c.in_err-name.ensures.err (λ _. one a.Reference next))
