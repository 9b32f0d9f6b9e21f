use Rattle.std.proofs.Common.{sym, ◌∙◌}
use Rattle.rbc_words.proofs.decode.text_from_train.Goals as goal

-- what is refused is spelled by no message
pub returns-in-Err : goal.returns-in-Err
returns-in-Err c = λ text says. let read = sym c.in-Err.is ∙ c.read_from_train.ensures.only says.0 says.1 in absurd (cc)
