use Rattle.std.proofs.Common.{◌∷◌, ◌∙◌, List, ℕ, ap}
use Rattle.ertms_codec.specs.Pieces.{pieces_behind}
use Rattle.rbc_words.proofs.LastWords.{too_many_words}
use Rattle.rbc_words.proofs.decode.digits_in.Goals as goal

-- there are four words or more
pub returns-in_default-Some : goal.returns-in_default-Some
returns-in_default-Some c =
    let first = c.cut.result.0.now in
    let second = c.cut-2.result.0.now in
    let third = c.cut-3.result.0.now in
    too_many_words c.args.line.now first second third c.in_default-Some.field-0-1.now
    (c.cut.ensures.pieces ∙ ap (λ (words : List (List ℕ)). first ∷ words) (ap (pieces_behind 32) c.in-Some.is ∙ c.cut-2.ensures.pieces
    ∙ ap (λ (words : List (List ℕ)). second ∷ words) (ap (pieces_behind 32) c.in-Some-behind.is ∙ c.cut-3.ensures.pieces
    ∙ ap (λ (words : List (List ℕ)). third ∷ words) (ap (pieces_behind 32) c.in_default-Some.is-1))))
