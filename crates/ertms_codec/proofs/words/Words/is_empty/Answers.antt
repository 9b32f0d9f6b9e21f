use Rattle.std.proofs.Common.{◌∙◌, not, ap}
use Rattle.ertms_codec.proofs.WordsLeft.{has_words}
use Rattle.ertms_codec.proofs.words.Words.is_empty.Goals as goal

pub returns-clause-some : goal.returns-clause-some
returns-clause-some c = λ left. rw (← c.self.view_is) (has_words c.self.inside.left (c.is_none.ensures ∙ ap not left))
