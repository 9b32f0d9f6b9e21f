use Rattle.std.proofs.Common.{string_bytes}
use Rattle.rbc_picture.specs.Panels.{panel_texts}
use Rattle.rbc_picture.proofs.Joining.{more_behind}
use Rattle.rbc_picture.proofs.plan.Plan.push_panels.Goals as goal

pub loop-panel-preserved : goal.loop-panel-preserved
loop-panel-preserved c =
    more_behind panel_texts c.args.self.now.panels.items c.loop-panel.panel-index c.panel-item.result (string_bytes c.args.document.now)
    (string_bytes c.loop-panel.document) (string_bytes c.push_piece.new.document) (string_bytes c.push.new.document)
    (record { seen = c.deref-panel-items.result.now; same = c.deref-panel-items.ensures.value; within = c.loop-panel-test.true; is = c.panel-item.is })
    c.loop-panel.invariant c.in_ok-push_piece.ensures c.in_ok-push.ensures
