use Rattle.std.proofs.Common.{◌∙◌, ◌∷◌, List, ℕ, ap}
use Rattle.ertms_codec.specs.Pieces.{pieces_behind}
use Rattle.rbc_text.proofs.Texts.{first_of_lines}
use Rattle.rbc_text.proofs.words.first_line.Goals as goal

pub returns-in-Some-clause-line : goal.returns-in-Some-clause-line
returns-in-Some-clause-line c =
    first_of_lines c.args.text.now c.cut.result.0.now c.in-Some.behind.now (c.cut.ensures.pieces ∙ ap (λ (pieces : List (List ℕ)). c.cut.result.0.now ∷ pieces) (ap (pieces_behind 10) c.in-Some.is))
