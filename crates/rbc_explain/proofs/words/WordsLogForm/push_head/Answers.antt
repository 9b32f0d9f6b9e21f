use Rattle.rbc_explain.proofs.InWords.{words_pushed_if}
use Rattle.rbc_explain.proofs.words.WordsLogForm.push_head.Goals as goal

pub returns : goal.returns
returns c = words_pushed_if c.push_words.result c.as_bytes.result.now c.args.log.now.items c.push_words.new.log.items c.push_words.ensures
