-- Texts of objects that are written in pieces.
use Rattle.std.proofs.Common.{◌≡◌, ◌∙◌, ℕ, List, [], ◌∷◌, ◌++◌, Bool, true, false, Result, IfOk, codes, sym, ap, append_assoc}
use Rattle.std.proofs.lemmas.Result.{IfOk-weaker}
use Rattle.rbc_json.specs.Json.{Json, json_text, characters_text, fields_text, fields_of, object, fields_before, opened, middle, closed}

-- the text of a key and its value, before more
abbrev keyed : List ℕ → List ℕ → Json → List ℕ → List ℕ
keyed before key value more = before ++ (34 ∷ (characters_text key ++ (34 ∷ 58 ∷ (json_text value ++ more))))

-- a text behind that of a key and its value
keyed_then : (before key : List ℕ) (value : Json) (more rest : List ℕ) → keyed before key value more ++ rest ≡ keyed before key value (more ++ rest)
keyed_then before key value more rest =
    append_assoc before (34 ∷ (characters_text key ++ (34 ∷ 58 ∷ (json_text value ++ more)))) rest
    ∙ ap (λ (t : List ℕ). before ++ (34 ∷ t))
    (append_assoc (characters_text key) (34 ∷ 58 ∷ (json_text value ++ more)) rest
    ∙ ap (λ (t : List ℕ). characters_text key ++ (34 ∷ 58 ∷ t)) (append_assoc (json_text value) more rest))

-- first fields, and the rest of an object
split : (before : List ℕ) (first : List ℕ × Json) (xs ys : List (List ℕ × Json))
    → fields_text before (fields_of (first ∷ (xs ++ ys))) ≡ fields_before before (first ∷ xs) [] ++ closed ys
split before (key, value) [] ys = sym (keyed_then before key value [] (closed ys))
split before (key, value) (second ∷ xs) ys =
    ap (λ (t : List ℕ). keyed before key value t) (split (codes ",") second xs ys)
    ∙ sym (keyed_then before key value (fields_before (codes ",") (second ∷ xs) []) (closed ys))

-- fields of which there is none
abbrev pub is_none : List (List ℕ × Json) → Bool
is_none [] = true
is_none (first ∷ more) = false

-- first fields, of which there are some, and the rest
all_of : (before : List ℕ) (xs ys : List (List ℕ × Json)) → is_none xs ≡ false → fields_text before (fields_of (xs ++ ys)) ≡ fields_before before xs [] ++ closed ys
all_of before [] ys some = absurd cc
all_of before (first ∷ xs) ys some = split before first xs ys

-- the text of an object in two pieces
pub whole_object : (xs ys : List (List ℕ × Json)) (front rest : List ℕ) → is_none xs ≡ false → front ≡ opened xs → rest ≡ closed ys
    → front ++ rest ≡ json_text (object (xs ++ ys))
whole_object xs ys front rest some begun ended = (λ i. begun i ++ ended i) ∙ ap (λ (t : List ℕ). 123 ∷ t) (sym (all_of [] xs ys some))

-- the end of an object in two pieces
pub whole_end : (xs ys : List (List ℕ × Json)) (front rest : List ℕ) → is_none xs ≡ false → front ≡ middle xs → rest ≡ closed ys
    → front ++ rest ≡ closed (xs ++ ys)
whole_end xs ys front rest some begun ended = (λ i. begun i ++ ended i) ∙ sym (all_of (codes ",") xs ys some)

module _ {T E : Type 0} (bytes : T → List ℕ) (r : Result T E) (xs ys : List (List ℕ × Json)) (some : is_none xs ≡ false) where
  -- an object in two pieces
  pub joined : (front rest : List ℕ) → front ≡ opened xs → rest ≡ closed ys → IfOk r (λ text. bytes text ≡ front ++ rest)
      → IfOk r (λ text. bytes text ≡ json_text (object (xs ++ ys)))
  joined front rest begun ended text = IfOk-weaker r _ _ (λ one e. e ∙ whole_object xs ys front rest some begun ended) text

  module _ (zs : List (List ℕ × Json)) (more : is_none ys ≡ false) where
    -- an object in three pieces
    pub joined_3 : (front mid rest : List ℕ) → front ≡ opened xs → mid ≡ middle ys → rest ≡ closed zs → IfOk r (λ text. bytes text ≡ front ++ (mid ++ rest))
        → IfOk r (λ text. bytes text ≡ json_text (object (xs ++ (ys ++ zs))))
    joined_3 front mid rest begun between ended text =
        IfOk-weaker r _ _ (λ one e. e ∙ whole_object xs (ys ++ zs) front (mid ++ rest) some begun (whole_end ys zs mid rest more between ended)) text

    -- an object in four pieces
    pub joined_4 : (us : List (List ℕ × Json)) (front one two rest : List ℕ) → is_none zs ≡ false → front ≡ opened xs → one ≡ middle ys → two ≡ middle zs → rest ≡ closed us
        → IfOk r (λ text. bytes text ≡ front ++ (one ++ (two ++ rest))) → IfOk r (λ text. bytes text ≡ json_text (object (xs ++ (ys ++ (zs ++ us)))))
    joined_4 us front one two rest others begun second third ended text =
        IfOk-weaker r _ _
        (λ _ e. e
        ∙ whole_object xs (ys ++ (zs ++ us)) front (one ++ (two ++ rest)) some begun
        (whole_end ys (zs ++ us) one (two ++ rest) more second (whole_end zs us two rest others third ended)))
        text
