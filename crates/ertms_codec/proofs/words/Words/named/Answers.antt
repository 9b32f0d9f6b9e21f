use Rattle.std.proofs.Common.{refl}
use Rattle.ertms_codec.specs.declared.wrong_word.Expected.TheVariants as a
use Rattle.ertms_codec.specs.Names.{name_text}
use Rattle.ertms_codec.specs.Grammar.{one}
use Rattle.ertms_codec.proofs.WordsLeft.{behind_word, handed_on, about_err}
use Rattle.ertms_codec.proofs.words.Words.named.Goals as goal

pub returns-in_err-name-clause-err : goal.returns-in_err-name-clause-err
returns-in_err-name-clause-err c =
    handed_on c.from_residual.result _ _ c.from_residual.ensures.1
    (λ next. c.in_err-name.ensures.err (λ _. one (a.Number c.args.most) (λ _. next)))

pub returns-clause-err : goal.returns-clause-err
returns-clause-err c =
    about_err c.number.result
    (λ wrong first next. behind_word (a.Name c.args.name) (λ _. one (a.Number c.args.most) (λ _. next)) (name_text c.args.name) _ _ wrong c.in_ok-name.ensures.ok refl (first (λ _. next)))
    c.number.ensures.err
