use Rattle.std.proofs.Common.{ap, sym, ◌∙◌, ◌∷◌, List, ℕ}
use Rattle.rbc_text.specs.BatchText.{enrolment_of, is_space}
use Rattle.ertms_codec.specs.Pieces.{pieces_behind}
use Rattle.ertms_codec.proofs.Cuts.{split_is_cons}
use Rattle.rbc_text.proofs.line.enrolment.Goals as goal

-- a third word is there
pub returns-in-Some : goal.returns-in-Some
returns-in-Some c =
    let third = split_is_cons is_space c.in-Some.field-0.now in
    let behind = ap (pieces_behind 32) c.in-Some.is ∙ third.2 in
    let rest = ap (pieces_behind 32) c.in_ok-behind.was ∙ c.cut-2.ensures.pieces ∙ ap (λ (words : List (List ℕ)). c.cut-2.result.0.now ∷ words) behind in
    sym (ap enrolment_of (c.cut.ensures.pieces ∙ ap (λ (words : List (List ℕ)). c.cut.result.0.now ∷ words) rest))
