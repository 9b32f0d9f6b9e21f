use Rattle.std.proofs.Common.{arith}
use Rattle.rbc_text.specs.OutputText.{outbox_lines}
use Rattle.rbc_text.proofs.Ranges.{one_more_written}
use Rattle.rbc_text.proofs.output.push_outboxes.Goals as goal

pub loop-index-preserved : goal.loop-index-preserved
loop-index-preserved c =
    one_more_written outbox_lines c.args.desk.now.outboxes c.loop-index.index c.args.to _ _ _ _ c.outbox_at-engine.ensures.outbox (omega arith) c.loop-index.invariant c.in_ok-push_outbox.ensures
