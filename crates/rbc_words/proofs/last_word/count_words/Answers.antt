use Rattle.std.proofs.Common.{◌+◌, ◌∙◌, sym, ap}
use Rattle.std.proofs.lemmas.List.Splits.{length-slice_split}
use Rattle.rbc_text.specs.BatchText.{is_space}
use Rattle.rbc_words.proofs.last_word.count_words.Goals as goal

pub returns : goal.returns
returns c = ap (λ n. n + 1) c.count_spaces.ensures ∙ sym (length-slice_split is_space c.args.text.now)
