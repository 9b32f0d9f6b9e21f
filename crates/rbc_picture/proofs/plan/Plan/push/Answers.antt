use Rattle.std.proofs.Common.{List, subst, string_bytes}
use Rattle.std.specs.Result.{OnOk}
use Rattle.std.specs.List.{flat_map}
use Rattle.rbc_picture.specs.Panels.{panel_texts, lost_texts}
use Rattle.rbc_picture.specs.Shown.{IsShownOn}
use Rattle.rbc_picture.specs.declared.lost.LostTrain.{LostTrain}
use Rattle.rbc_picture.proofs.Joining.{then_more}
use Rattle.rbc_picture.proofs.plan.Plan.push.Goals as goal

pub returns : goal.returns
returns c =
    then_more c.push_lost.result (flat_map panel_texts c.args.self.now.panels.items) (lost_texts c.args.self.now.lost.items)
    (string_bytes c.args.document.now) (string_bytes c.push_panels.new.document) (string_bytes c.push_piece.new.document)
    (string_bytes c.push_lost.new.document) c.in_ok-push_panels.ensures c.in_ok-push_piece.ensures
    (subst (λ (lost : List LostTrain). OnOk c.push_lost.result (IsShownOn (lost_texts lost) (string_bytes c.push_piece.new.document)
    (string_bytes c.push_lost.new.document))) c.as_slice-lost.ensures.value c.push_lost.ensures)
