use Rattle.std.proofs.Common.{rules, ◌≡◌, ◌∷◌, ◌++◌, ◌∙◌, List, ℕ, ap, sym}
use Rattle.std.specs.Prelude.{codes}
use Rattle.ertms_codec.specs.Pieces.{pieces_behind}
use Rattle.rbc_words.proofs.Forms.{line_is}
use Rattle.rbc_words.proofs.encode.form_of.Goals as goal

-- a text
pub returns-in-Some : goal.returns-in-Some
returns-in-Some c =
    let command : c.cut.result.0.now ≡ codes "recv" = search rules in
    let line = line_is c.args.line.now c.cut.result.0.now c.in-Some.text.now (c.cut.ensures.pieces ∙ ap (λ (words : List (List ℕ)). c.cut.result.0.now ∷ words) (ap (pieces_behind 32) c.in-Some.is)) in
    (line ∙ ap (λ (first : List ℕ). first ++ 32 ∷ c.in-Some.text.now) command, sym c.if-is_text.ensures)
