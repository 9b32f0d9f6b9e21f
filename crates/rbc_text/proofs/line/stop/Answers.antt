use Rattle.std.proofs.Common.{ap, ap₂, sym, refl, ◌≡◌, ◌∙◌, ◌∷◌, List, ℕ}
use Rattle.rbc_text.specs.BatchText.{stop_of, stop_from, segments_of, decimal_of, is_space}
use Rattle.ertms_codec.specs.Pieces.{pieces_behind}
use Rattle.ertms_codec.proofs.Cuts.{split_is_cons}
use Rattle.rbc_text.proofs.line.stop.Goals as goal

stop_with : (number : List ℕ) (words : List (List ℕ)) (first : List ℕ) (rest : List (List ℕ)) → words ≡ first ∷ rest → stop_of (number ∷ words) ≡ stop_from (decimal_of number) (segments_of words)
stop_with number words first rest e = rw e refl

-- there is always a first segment
pub returns-in_ok-segments-in-Some : goal.returns-in_ok-segments-in-Some
returns-in_ok-segments-in-Some c =
    let first = split_is_cons is_space c.in-Some.words.now in
    let words = c.cut.ensures.pieces ∙ ap (λ (words : List (List ℕ)). c.cut.result.0.now ∷ words) (ap (pieces_behind 32) c.in-Some.is) in
    c.stop_from.ensures ∙ ap₂ stop_from c.decimal.ensures c.in_ok-segments-in-Some.ensures
    ∙ sym (ap stop_of words ∙ stop_with c.cut.result.0.now _ first.0 first.1 first.2)
