use Rattle.std.proofs.Common.{[], ◌∷◌, ◌∙◌, string_bytes}
use Rattle.rbc_picture.specs.Titles.{band_title}
use Rattle.rbc_picture.proofs.Joining.{around, of_text}
use Rattle.rbc_picture.proofs.bands.Band.push.Goals as goal

pub returns : goal.returns
returns c =
    let title = c.as_str.ensures.value ∙ c.in_ok-band_title.ensures in
    around c.push_piece-2.result (band_title c.args.line c.args.self.now.stretch ∷ []) (string_bytes c.args.document.now)
    (string_bytes c.push_piece.new.document) (string_bytes c.push_text.new.document) (string_bytes c.push_piece-2.new.document)
    c.in_ok-push_piece.ensures (of_text c.as_str.result.now _ (string_bytes c.push_piece.new.document)
    (string_bytes c.push_text.new.document) title c.in_ok-push_text.ensures) c.push_piece-2.ensures
