-- How many words a line has, by its cuts.
use Rattle.std.proofs.Common.{◌≡◌, ℕ, true, false, List, [], ◌∷◌, Option, Some, None, is_some, refl, sym, ap, ◌∙◌}
use Rattle.std.specs.Option.{unwrap_or}
use denote.Ref.{Bor}
use Rattle.rbc_rule.specs.declared.input.Input.TheVariants.{Bad}
use Rattle.rbc_text.specs.BatchText.{is_space, words_of, number_of, withdrawal_from, withdrawal_of, restriction_of, message_of, is_hex_word, IsInput, Spelled}
use Rattle.ertms_codec.specs.Pieces.{pieces_behind}
use Rattle.ertms_codec.proofs.Cuts.{split_is_cons}

-- a second word is there, where something stands behind the first one
pub two_words : (text first : List ℕ) (behind : Option (Bor (List ℕ))) (more : Bor (List ℕ)) → words_of text ≡ first ∷ pieces_behind 32 behind → behind ≡ Some more → (second : List ℕ) × (rest : List (List ℕ)) × (words_of text ≡ first ∷ second ∷ rest)
two_words text first behind more pieces e =
    let cut = split_is_cons is_space more.now in
    (cut.0, cut.1, pieces ∙ ap (λ (words : List (List ℕ)). first ∷ words) (ap (pieces_behind 32) e ∙ cut.2))

-- one word more than stand behind it
pub one_more : (text first : List ℕ) (behind : Option (Bor (List ℕ))) (more : Bor (List ℕ)) (words : List (List ℕ)) → words_of text ≡ first ∷ pieces_behind 32 behind → behind ≡ Some more → words_of more.now ≡ words → words_of text ≡ first ∷ words
one_more text first behind more words pieces e rest = pieces ∙ ap (λ (words : List (List ℕ)). first ∷ words) (ap (pieces_behind 32) e ∙ rest)

pub no_number : (words : List (List ℕ)) (first second : List ℕ) (rest : List (List ℕ)) → words ≡ first ∷ second ∷ rest → None ≡ number_of words
no_number words first second rest e = sym (ap number_of e)

-- a withdrawal is of a number by itself
pub withdrawal_is : (words : List (List ℕ)) → withdrawal_of words ≡ withdrawal_from (number_of words)
withdrawal_is [] = refl
withdrawal_is (word ∷ []) = refl
withdrawal_is (first ∷ second ∷ words) = refl

-- six words are no restriction
pub no_restriction : (words : List (List ℕ)) (a b c d e f : List ℕ) (rest : List (List ℕ)) → words ≡ a ∷ b ∷ c ∷ d ∷ e ∷ f ∷ rest → None ≡ restriction_of words
no_restriction words a b c d e f rest same = sym (ap restriction_of same)

-- two words are no message
pub no_message : (words : List (List ℕ)) (first second : List ℕ) (rest : List (List ℕ)) → words ≡ first ∷ second ∷ rest → IsInput (unwrap_or (message_of words) (Spelled (Bad 1))) (Bad 1)
no_message words first second rest e = rw e refl

-- a word that has not the form of one is none
pub no_word : (words : List (List ℕ)) (word : List ℕ) → words ≡ word ∷ [] → is_hex_word word ≡ false → IsInput (unwrap_or (message_of words) (Spelled (Bad 1))) (Bad 1)
no_word words word e bad = rw e (rw bad refl)

-- nothing stands behind the first word
pub one_word : (text first : List ℕ) (behind : Option (Bor (List ℕ))) → words_of text ≡ first ∷ pieces_behind 32 behind → is_some behind ≡ false → words_of text ≡ first ∷ []
one_word text first None pieces e = pieces
one_word text first (Some more) pieces e = absurd (let bad : true ≡ false = e in cc)

-- something stands behind the first word
pub no_message_behind : (text first : List ℕ) (behind : Option (Bor (List ℕ))) → words_of text ≡ first ∷ pieces_behind 32 behind → is_some behind ≡ true → IsInput (unwrap_or (message_of (words_of text)) (Spelled (Bad 1))) (Bad 1)
no_message_behind text first None pieces e = absurd (let bad : false ≡ true = e in cc)
no_message_behind text first (Some more) pieces e = let words = two_words text first (Some more) more pieces refl in no_message _ _ _ _ words.2
