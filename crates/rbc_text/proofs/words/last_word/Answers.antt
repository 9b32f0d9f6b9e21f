use Rattle.std.proofs.Common.{◌≡◌, ◌++◌, ◌∷◌, ◌-◌, ◌+◌, [], ℕ, List, length, take, drop, arith, sym, ap, ◌∙◌, subst}
use Rattle.std.proofs.lemmas.List.{take_all, length-drop}
use Rattle.rbc_text.specs.BatchText.{words_of}
use Rattle.rbc_text.proofs.LastSpaces.{no_space, last_word_is, words_around}
use Rattle.rbc_text.proofs.words.last_word.Goals as goal

-- what is left behind a place
left : (line : List ℕ) (at : ℕ) → take (length line - (at + 1)) (drop (at + 1) line) ≡ drop (at + 1) line
left line at = take_all _ _ (omega (arith, length-drop (at + 1) line))

pub returns-in-Some-clause-words : goal.returns-in-Some-clause-words
returns-in-Some-clause-words c =
    let line = c.args.line.now in
    let at = c.in-Some.at in
    words_around line at c.in-Some.ensures.0 c.in-Some.ensures.1 ∙ ap (λ (word : List ℕ). words_of (take at line) ++ word ∷ []) (sym (left line at))

pub returns-in-Some-clause-whole : goal.returns-in-Some-clause-whole
returns-in-Some-clause-whole c =
    let line = c.args.line.now in
    let at = c.in-Some.at in
    subst (λ (word : List ℕ). words_of word ≡ word ∷ []) (sym (left line at)) (last_word_is line at c.in-Some.ensures.0 c.in-Some.ensures.1)

pub returns-in-None-clause-none : goal.returns-in-None-clause-none
returns-in-None-clause-none c = no_space c.args.line.now c.in-None.ensures
