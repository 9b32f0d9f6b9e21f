use Rattle.std.proofs.Common.{string_bytes}
use Rattle.rbc_picture.specs.Panels.{drawn_texts, plan_texts, scene_left}
use Rattle.rbc_picture.specs.Selections.{left_texts}
use Rattle.rbc_picture.proofs.Joining.{whole}
use Rattle.rbc_picture.proofs.Drawing.{plan_shown}
use Rattle.rbc_picture.proofs.plan.document_of.Goals as goal

pub returns : goal.returns
returns c =
    let scene = c.args.scene.now in
    whole (left_texts scene.selection.now (scene_left scene)) (plan_texts c.in_ok-plan.plan) (drawn_texts scene)
    (string_bytes c.new-document.result) (string_bytes c.push_piece.new.document) (string_bytes c.push_head.new.document)
    (string_bytes c.push.new.document) (string_bytes c.push_piece-2.new.document) c.new-document.ensures.bytes
    (plan_shown scene c.in_ok-plan.plan c.in_ok-plan.ensures) c.in_ok-push_piece.ensures c.in_ok-push_head.ensures
    c.in_ok-push.ensures c.in_ok-push_piece-2.ensures
