-- What a line is, by its words.
use Rattle.std.proofs.Common.{◌≡◌, ℕ, ◌+◌, ◌≤◌, true, List, [], ◌∷◌, ◌++◌, length, Option, Some, None, is_some, sym, ap, ◌∙◌, arith}
use Rattle.std.specs.List.{join_with_byte}
use Rattle.std.proofs.lemmas.List.Splits.{join_with_byte-slice_split}
use Rattle.ertms_codec.specs.Grammar.{FirstWrong, from_train}
use Rattle.ertms_codec.specs.Pieces.{pieces_behind}
use Rattle.ertms_codec.specs.declared.wrong_word.WrongWord.{WrongWord}
use Rattle.ertms_codec.proofs.Cuts.{split_is_cons}
use Rattle.rbc_text.specs.BatchText.{is_space, words_of}
use Rattle.rbc_words.specs.Encoding.{is_number, has_number}
use Rattle.rbc_words.proofs.FirstWrongWord.{stops_within}
use Rattle.rbc_words.proofs.LastWords.{total, total_of_line}
use denote.Ref.{Bor}

-- a second word is there
pub two_words : (text number : List ℕ) (behind : Option (Bor (List ℕ))) → words_of text ≡ number ∷ pieces_behind 32 behind → is_some behind ≡ true → is_number number ≡ has_number (words_of text)
two_words text number None e some = cc
two_words text number (Some behind) e some =
    let next = split_is_cons is_space behind.now in
    sym (ap has_number (e ∙ ap (λ (words : List (List ℕ)). number ∷ words) next.2))

-- what stands behind the first word
pub line_is : (line command text : List ℕ) → words_of line ≡ command ∷ words_of text → line ≡ command ++ 32 ∷ text
line_is line command text e =
    let next = split_is_cons is_space text in
    sym (join_with_byte-slice_split 32 line) ∙ ap (join_with_byte 32) (e ∙ ap (λ (words : List (List ℕ)). command ∷ words) next.2)
    ∙ ap (λ (rest : List ℕ). command ++ 32 ∷ rest) (ap (join_with_byte 32) (sym next.2) ∙ join_with_byte-slice_split 32 text)

as_many : (words : List (List ℕ)) → length words ≤ total words
as_many [] = omega arith
as_many (word ∷ words) = let rest = as_many words in omega (arith, rest)

-- the number of a wrong word is not too great
pub wrong_within : (text : List ℕ) (wrong : WrongWord) → FirstWrong 1 from_train (words_of text) wrong → wrong.index ≤ length text + 2
wrong_within text wrong first =
    let high = (stops_within 1 from_train (words_of text) wrong first.is).1 in
    let many = as_many (words_of text) in
    let all = total_of_line is_space text in
    omega (arith, high, many, all)
