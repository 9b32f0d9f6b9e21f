use Rattle.std.proofs.Common.{ap, sym, ◌∙◌, not}
use Rattle.rbc_text.proofs.LineWords.{one_word, no_message_behind, no_word}
use Rattle.rbc_text.proofs.messages.message_in_words.Goals as goal
use Rattle.rbc_text.proofs.messages.message_in_words.Goals.{else-is_none-via-then-is_none+else-is_hex_word, else-is_none-via-else-is_none}

-- a word that is not well formed, or a second word
pub returns-else-is_none : goal.returns-else-is_none
returns-else-is_none c = rw c.bad_line.ensures (elim c.else-is_none.branch [
  | else-is_none-via-then-is_none+else-is_hex_word w ↦
      no_word _ _ (one_word c.args.arguments.now _ _ c.cut.ensures.pieces (c.is_none.ensures ∙ ap not w.if-is_none.true)) (sym w.is_hex_word.ensures ∙ w.if-is_hex_word.false)
  | else-is_none-via-else-is_none w ↦
      no_message_behind c.args.arguments.now _ _ c.cut.ensures.pieces (c.is_none.ensures ∙ ap not w.if-is_none.false)
])
