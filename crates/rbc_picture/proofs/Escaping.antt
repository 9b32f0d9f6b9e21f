-- How a text is escaped, character by character.
use Rattle.std.proofs.Common.{◌≡◌, ◌∙◌, ℕ, Bool, true, false, List, [], ◌∷◌, ◌++◌, Result, Ok, Err, append_assoc, append-nil, ◌==◌, ne_eqb, ap, sym, refl, if◌then◌else◌, codes}
use Rattle.std.specs.Result.{is_ok, OnOk}
use Rattle.std.specs.Char.{IsScalar, encode_utf8}
use Rattle.std.specs.Str.{IsUtf8, chars}
use Rattle.std.proofs.lemmas.Str.{chars-append, chars-nil, chars_past_char, IsUtf8-encode}
use Rattle.rbc_picture.specs.Escape.{escaped, spelling_of, is_inert}

-- what a text has behind it
pub added : {T E : Type 0} (r : Result T E) (old new more cs : List ℕ) → IsUtf8 old → chars more ≡ cs → new ≡ (if is_ok r then old ++ more else old)
    → OnOk r (chars new ≡ chars old ++ cs)
added (Ok done) old new more cs text is e = ap chars e ∙ chars-append old more text ∙ ap (λ list. chars old ++ list) is
added (Err refused) old new more cs text is e = tt

-- a text that is escaped behind another
pub escaped-append : (front back : List ℕ) → escaped (front ++ back) ≡ escaped front ++ escaped back
escaped-append [] back = refl
escaped-append (c ∷ rest) back =
    ap (λ list. spelling_of c ++ list) (escaped-append rest back) ∙ sym (append_assoc (spelling_of c) (escaped rest) (escaped back))

-- what is written for a character can neither begin nor end an element, by what the character is
spelt_by : (c : ℕ) (more : List ℕ) (is_amp is_lt is_gt : Bool) → (c == 38) ≡ is_amp → (c == 60) ≡ is_lt → (c == 62) ≡ is_gt → is_inert more ≡ true
    → is_inert ((if is_amp then codes "&amp;" else if is_lt then codes "&lt;" else if is_gt then codes "&gt;" else c ∷ []) ++ more) ≡ true
spelt_by c more true is_lt is_gt amp lt gt inert = inert
spelt_by c more false true is_gt amp lt gt inert = inert
spelt_by c more false false true amp lt gt inert = inert
spelt_by c more false false false amp lt gt inert = rw (lt, gt, amp) inert

spelt_inert : (c : ℕ) (more : List ℕ) → is_inert more ≡ true → is_inert (spelling_of c ++ more) ≡ true
spelt_inert c more inert = spelt_by c more (c == 38) (c == 60) (c == 62) refl refl refl inert

pub escaped_inert : (text : List ℕ) → is_inert (escaped text) ≡ true
escaped_inert [] = refl
escaped_inert (c ∷ rest) = spelt_inert c (escaped rest) (escaped_inert rest)

-- a character that is written as it is
pub one_char : (c : ℕ) → IsScalar c → chars (encode_utf8 c) ≡ c ∷ []
one_char c scalar =
    chars_past_char (encode_utf8 c) [] c (IsUtf8-encode c scalar) (sym (append-nil (encode_utf8 c))) ∙ ap (λ rest. c ∷ rest) chars-nil

-- an entity
pub spelt_amp : (c : ℕ) → c ≡ 38 → chars (codes "&amp;") ≡ spelling_of c
unfolding chars
spelt_amp c is = rw is refl

pub spelt_lt : (c : ℕ) → c ≡ 60 → chars (codes "&lt;") ≡ spelling_of c
unfolding chars
spelt_lt c is = rw is refl

pub spelt_gt : (c : ℕ) → c ≡ 62 → chars (codes "&gt;") ≡ spelling_of c
unfolding chars
spelt_gt c is = rw is refl

-- any other character
pub spelt_same : (c : ℕ) → IsScalar c → ¬ (c ≡ 38) → ¬ (c ≡ 60) → ¬ (c ≡ 62) → chars (encode_utf8 c) ≡ spelling_of c
spelt_same c scalar amp lt gt = rw (ne_eqb c 38 amp, ne_eqb c 60 lt, ne_eqb c 62 gt) (one_char c scalar)

-- one more character
pub escaped_more : (old now new front : List ℕ) (c : ℕ) → now ≡ old ++ escaped front → new ≡ now ++ spelling_of c → new ≡ old ++ escaped (front ++ c ∷ [])
escaped_more old now new front c is more =
    more ∙ ap (λ list. list ++ spelling_of c) is ∙ append_assoc old (escaped front) (spelling_of c)
    ∙ ap (λ list. old ++ (escaped front ++ list)) (sym (append-nil (spelling_of c))) ∙ ap (λ list. old ++ list) (sym (escaped-append front (c ∷ [])))
