-- Bytes are made digits part by part.
use Rattle.std.proofs.Common.{◌≡◌, ℕ, ◌/◌, ◌%◌, List, [], ◌∷◌, ◌++◌, take, drop, refl, sym, ap, ◌∙◌, append_assoc}
use Rattle.std.specs.Prelude.{slice_index}
use Rattle.std.proofs.lemmas.List.{take-append-drop}
use Rattle.hex.specs.Hex.{upper_digits, encode_with, encode_upper}

-- the digits of two parts are those of both
of_both : (xs ys : List ℕ) → encode_with upper_digits (xs ++ ys) ≡ encode_with upper_digits xs ++ encode_with upper_digits ys
unfolding encode_with
of_both [] ys = refl
of_both (x ∷ xs) ys = ap (λ (digits : List ℕ). slice_index upper_digits (x / 16) ∷ slice_index upper_digits (x % 16) ∷ digits) (of_both xs ys)

-- one more part is made digits
pub one_more_part : (n : ℕ) (old text next bytes rest first behind : List ℕ) → first ≡ take n rest → behind ≡ drop n rest → next ≡ text ++ encode_upper first
    → text ++ encode_upper rest ≡ old ++ encode_upper bytes → next ++ encode_upper behind ≡ old ++ encode_upper bytes
one_more_part n old text next bytes rest first behind is_first is_behind pushed so_far =
    ap (λ (t : List ℕ). t ++ encode_upper behind) pushed
    ∙ append_assoc text (encode_upper first) (encode_upper behind)
    ∙ ap (λ (digits : List ℕ). text ++ digits) (sym (of_both first behind) ∙ ap encode_upper ((λ i. is_first i ++ is_behind i) ∙ take-append-drop n rest))
    ∙ so_far
