use Rattle.std.proofs.Common.{rules, ◌∙◌}
use Rattle.rbc_words.proofs.Forms.{two_words}
use Rattle.rbc_words.proofs.encode.is_text.Goals as goal

-- a second word is there
pub returns-then-is_some : goal.returns-then-is_some
returns-then-is_some c = c.is_number.ensures ∙ two_words c.args.text.now c.cut.result.0.now c.cut.result.1 c.cut.ensures.pieces (search rules)
