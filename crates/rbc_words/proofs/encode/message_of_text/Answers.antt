use Rattle.std.proofs.Common.{rules}
use Rattle.rbc_words.proofs.Forms.{wrong_within}
use Rattle.rbc_words.proofs.encode.message_of_text.Goals as goal

-- a text has not so many words
pub overflow_add-result : goal.overflow_add-result
overflow_add-result c = let few = wrong_within c.args.text.now c.in-Err.wrong c.in-Err.ensures.refused in search rules
