use Rattle.std.proofs.Common.{◌+◌, arith}
use Rattle.rbc_batch.proofs.Joined.{start_within}
use Rattle.rbc_batch.proofs.rendering.render_part.Goals as goal

-- no part ends behind the last outbox
pub render_outboxes-requires-clause-within : goal.render_outboxes-requires-clause-within
render_outboxes-requires-clause-within c =
    let counted = c.outboxes-outboxes.ensures.count in
    let before = c.requires in
    let start = c.start_of-to.ensures in
    let within = start_within c.outboxes-outboxes.result c.args.parts (c.args.part + 1) (omega (arith, before)) (omega (arith, before)) in
    omega (arith, counted, start, within)
