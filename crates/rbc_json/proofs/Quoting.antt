-- A text with one character more.
use Rattle.std.proofs.Common.{◌≡◌, ◌∙◌, ℕ, ◌+◌, ◌<◌, List, [], ◌∷◌, ◌++◌, take, length, min, get_or, append_assoc, append-nil, ap, sym, Result, Ok, Err}
use Rattle.std.specs.Result.{OnOk}
use Rattle.std.proofs.lemmas.List.{take_more, take_min}
use Rattle.rbc_json.specs.Json.{characters_text, character_text}

characters_behind : (text : List ℕ) (last : ℕ) → characters_text (text ++ last ∷ []) ≡ characters_text text ++ character_text last
characters_behind [] last = append-nil (character_text last)
characters_behind (c ∷ more) last =
    ap (λ rest. character_text c ++ rest) (characters_behind more last) ∙ sym (append_assoc (character_text c) (characters_text more) (character_text last))

-- one character more
pub characters_more : (now new text : List ℕ) (last : ℕ) → now ≡ 34 ∷ characters_text text → new ≡ now ++ character_text last → new ≡ 34 ∷ characters_text (text ++ last ∷ [])
characters_more now new text last before added =
    added ∙ ap (λ text. text ++ character_text last) before ∙ ap (λ rest. 34 ∷ rest) (sym (characters_behind text last))

-- one byte more
pub bytes_more : (now new bytes : List ℕ) (i : ℕ) → i < length bytes → now ≡ 34 ∷ characters_text (take i bytes) → new ≡ now ++ character_text (get_or bytes i 0)
    → new ≡ 34 ∷ characters_text (take (i + 1) bytes)
bytes_more now new bytes i within before added =
    characters_more now new (take i bytes) (get_or bytes i 0) before added
    ∙ ap (λ text. 34 ∷ characters_text text) (sym (take_more bytes i 0 within))

-- the quotation mark behind a text
pub text_ended : (now new text whole : List ℕ) → now ≡ 34 ∷ characters_text text → text ≡ whole → new ≡ now ++ 34 ∷ [] → new ≡ 34 ∷ (characters_text whole ++ 34 ∷ [])
text_ended now new text whole is all ended = ended ∙ ap (λ before. before ++ 34 ∷ []) (is ∙ ap (λ list. 34 ∷ characters_text list) all)

-- two pieces one after the other
pub two_added : {E : Type 0} (r : Result (Unit {0}) E) (old now new first second : List ℕ) → now ≡ old ++ first → OnOk r (new ≡ now ++ second) → OnOk r (new ≡ old ++ (first ++ second))
two_added (Ok done) old now new first second one next = next ∙ ap (λ text. text ++ second) one ∙ append_assoc old first second
two_added (Err refused) old now new first second one next = tt

-- at most so many bytes of a text
pub take_at_most : (n : ℕ) (bytes : List ℕ) → take (min n (length bytes)) bytes ≡ take n bytes
take_at_most n bytes = take_min n bytes
