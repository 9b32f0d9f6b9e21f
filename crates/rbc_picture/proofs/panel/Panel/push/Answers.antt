use Rattle.std.proofs.Common.{◌∙◌, string_bytes}
use Rattle.rbc_picture.specs.Titles.{line_heading}
use Rattle.rbc_picture.specs.Panels.{bands_texts, shapes_texts}
use Rattle.rbc_picture.proofs.Joining.{panel_joined, of_text}
use Rattle.rbc_picture.proofs.panel.Panel.push.Goals as goal

pub returns : goal.returns
returns c =
    let panel = c.args.self.now in
    let heading = c.as_str.ensures.value ∙ c.in_ok-line_heading.ensures in
    panel_joined c.push_piece-4.result (line_heading panel.part.line) (bands_texts panel.part.line panel.stops)
    (shapes_texts panel.trains.items) (bands_texts panel.part.line panel.limits) (string_bytes c.args.document.now)
    (string_bytes c.push_piece.new.document) (string_bytes c.push_text.new.document) (string_bytes c.push_piece-2.new.document)
    (string_bytes c.push.new.document) (string_bytes c.push_piece-3.new.document) (string_bytes c.push_trains.new.document)
    (string_bytes c.push-2.new.document) (string_bytes c.push_piece-4.new.document)
    c.in_ok-push_piece.ensures
    (of_text c.as_str.result.now _ (string_bytes c.push_piece.new.document) (string_bytes c.push_text.new.document) heading
    c.in_ok-push_text.ensures) c.in_ok-push_piece-2.ensures c.in_ok-push.ensures c.in_ok-push_piece-3.ensures
    c.in_ok-push_trains.ensures c.in_ok-push-2.ensures c.push_piece-4.ensures
