use Rattle.std.proofs.Common.{append_assoc}
use Rattle.std.specs.List.{flat_map}
use Rattle.rbc_dispatch.specs.TextWords.{spaced}
use Rattle.rbc_dispatch.proofs.SpacedTexts.{all_are}
use Rattle.rbc_dispatch.proofs.encode.read_word.Goals as goal

pub returns-in_ok-push_word-in-Rest : goal.returns-in_ok-push_word-in-Rest
returns-in_ok-push_word-in-Rest c = λ words. rw (c.in-Rest.is, all_are words, c.in_ok-push_word-in-Rest.ensures) (append_assoc c.args.text.now.items (spaced c.args.word.now) (flat_map spaced words))
