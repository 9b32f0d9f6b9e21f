use Rattle.std.proofs.Common.{string_bytes}
use Rattle.rbc_picture.specs.Panels.{lost_texts}
use Rattle.rbc_picture.proofs.Joining.{around}
use Rattle.rbc_picture.proofs.lost.push_lost.Goals as goal

pub returns : goal.returns
returns c =
    around c.push_piece-2.result (lost_texts c.args.lost.now) (string_bytes c.args.document.now)
    (string_bytes c.push_piece.new.document) (string_bytes c.push_boxes.new.document) (string_bytes c.push_piece-2.new.document)
    c.in_ok-push_piece.ensures c.in_ok-push_boxes.ensures c.push_piece-2.ensures
