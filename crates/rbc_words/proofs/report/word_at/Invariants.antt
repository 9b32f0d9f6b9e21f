use Rattle.std.proofs.Common.{◌≡◌, drop}
use Rattle.rbc_text.specs.BatchText.{words_of}
use Rattle.ertms_codec.specs.Pieces.{pieces_behind}
use Rattle.rbc_words.proofs.report.word_at.Given as goal

-- the words that are left
abbrev pub invariant-words : goal.invariant-words
invariant-words l = pieces_behind 32 l.left ≡ drop l.counter (words_of l.fn.line)
