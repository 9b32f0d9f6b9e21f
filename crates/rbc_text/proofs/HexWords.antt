-- Hexadecimal digits are one word, and have no carriage return.
use Rattle.std.proofs.Common.{◌≡◌, ℕ, ◌<◌, true, false, cond, ◌==◌, List, [], ◌∷◌, length, Some, None, Ok, refl, sym, ap, ◌∙◌, arith}
use Rattle.std.specs.List.{list_all, slice_split, onto_first, AllPass}
use Rattle.std.specs.Option.{unwrap_or}
use Rattle.std.proofs.lemmas.Bool.{ne_eqb, and_from}
use Rattle.std.proofs.lemmas.List.Elements.{All-head, All-tail}
use Rattle.hex.specs.Hex.{decode_of, is_hex_digit}
use Rattle.rbc_rule.specs.declared.input.Input.TheVariants.{Bad}
use Rattle.rbc_text.specs.BatchText.{is_space, words_of, is_hex_word, message_of, line_of_hex, Spelled, Heard}

-- what is no digit is not among digits
other : (none c : ℕ) → is_hex_digit none ≡ false → is_hex_digit c ≡ true → (c == none) ≡ false
other none c not_digit digit = ne_eqb c none (λ same. let bad : true ≡ false = sym digit ∙ ap is_hex_digit same ∙ not_digit in absurd cc)

one_word : (text : List ℕ) → AllPass is_hex_digit text → words_of text ≡ text ∷ []
one_word [] digits = refl
one_word (c ∷ text) digits =
    ap (λ b. cond b ([] ∷ slice_split is_space text) (onto_first c (slice_split is_space text))) (other 32 c refl (All-head (λ c. is_hex_digit c ≡ true) c text digits))
    ∙ ap (onto_first c) (one_word text (All-tail (λ c. is_hex_digit c ≡ true) c text digits))

no_return : (text : List ℕ) → AllPass is_hex_digit text → list_all (λ byte. cond (byte == 13) false true) text ≡ true
no_return [] digits = refl
no_return (c ∷ text) digits =
    and_from (cond (c == 13) false true) (list_all (λ byte. cond (byte == 13) false true) text)
    (ap (λ b. cond b false true) (other 13 c refl (All-head (λ c. is_hex_digit c ≡ true) c text digits)))
    (no_return text (All-tail (λ c. is_hex_digit c ≡ true) c text digits))

is_word : (text : List ℕ) → 0 < length text → AllPass is_hex_digit text → is_hex_word text ≡ true
is_word [] some digits = absurd (omega (arith, some))
is_word (c ∷ text) some digits = no_return (c ∷ text) digits

-- a text of digits that is not empty is the message of its bytes
pub digits_alone : (text bytes : List ℕ) → 0 < length text → AllPass is_hex_digit text → decode_of text ≡ Ok bytes → unwrap_or (message_of (words_of text)) (Spelled (Bad 1)) ≡ Heard bytes
digits_alone text bytes some digits is =
    ap (λ words. unwrap_or (message_of words) (Spelled (Bad 1))) (one_word text digits)
    ∙ ap (λ b. unwrap_or (cond b (Some (line_of_hex (decode_of text))) None) (Spelled (Bad 1))) (is_word text some digits)
    ∙ ap line_of_hex is
