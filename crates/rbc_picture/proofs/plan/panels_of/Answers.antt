use Rattle.std.proofs.Common.{get_or}
use Rattle.rbc_picture.proofs.Joining.{is_next}
use Rattle.rbc_picture.proofs.Showing.{shown_next}
use Rattle.rbc_picture.proofs.plan.panels_of.Goals as goal

pub loop-part-preserved : goal.loop-part-preserved
loop-part-preserved c =
    shown_next c.args.scene.now c.args.scene.now.parts.now c.loop-part.part-index (get_or c.args.scene.now.parts.now c.loop-part.part-index _)
    c.loop-part.panels.items _ c.in_ok-panel.panel (is_next c.args.scene.now.parts.now c.loop-part.part-index _ c.loop-part-test.true)
    c.loop-part.invariant c.in_ok-panel.ensures.shows c.in_ok-panel.ensures.of_part c.in_ok-push.ensures.items
