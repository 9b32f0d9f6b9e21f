use Rattle.rbc_explain.proofs.InWords.{block_pushed_if}
use Rattle.rbc_explain.proofs.words.WordsLogForm.push_block.Goals as goal

pub push_block-requires : goal.push_block-requires
push_block-requires c = record { sendable = c.requires.1.sendable; paired = c.requires.1.paired }

pub returns : goal.returns
returns c =
    let b = c.args.block.now in
    block_pushed_if c.push_block.result c.args.account.now.desk.track c.track.result.now b.number b.reply b.messages b.told.items c.args.log.now.items c.push_block.new.log.items c.track.ensures
    c.push_block.ensures
