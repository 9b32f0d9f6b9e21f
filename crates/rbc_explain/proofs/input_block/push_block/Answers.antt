use Rattle.rbc_explain.proofs.Told.{words_around}
use Rattle.rbc_explain.proofs.input_block.push_block.Goals as goal

pub returns : goal.returns
returns c =
    let b = c.args.block.now in
    let before = c.in_ok-push_words.ensures in
    words_around c.args.of.track.now b.number _ _ c.push_words-2.result b.reply b.messages b.told.items c.as_bytes-2.result.now c.args.log.now.items c.push_words.new.log.items c.push_answer.new.log.items
    c.push_words-2.new.log.items (before.0, before.1, before.2) c.in_ok-push_answer.ensures c.push_words-2.ensures
