use Rattle.rbc_explain.proofs.Told.{IsAllTold}
use Rattle.rbc_explain.proofs.input_block.push_answer.Given as goal

-- the messages before this one are told, and their lines stand there
abbrev pub invariant-loop-index : goal.invariant-loop-index
invariant-loop-index l =
    IsAllTold l.fn.of.track.now l.fn.block.number l.fn.block.reply l.fn.block.messages l.fn.block.told.items l.index l.rest l.fn.log.items l.log.items
