use Rattle.std.proofs.Common.{◌≡◌, ◌∙◌, sym, ap, List, [], ◌∷◌, Option, None, Some, filter_map, map, option_map, unwrap_or, refl, codes}
use denote.Ref.{Bor}
use Rattle.std.proofs.lemmas.Result.{IfOk-weaker}
use Rattle.clap.specs.Matches.{found_of}
use Rattle.clap.specs.Walk.{Text}
use Rattle.clap.proofs.WalkLemmas.{raw_values-rows}
use Rattle.rbc_dispatch.specs.Words.{number_in, numbers_in}
use Rattle.rbc_dispatch.proofs.words.lines_in.Goals as goal

-- the numbers among words that are borrowed
numbers_of_texts : (words : List (Bor Text)) → filter_map (λ word. number_in word.now) words ≡ numbers_in (map (λ word. word.now) words)
numbers_of_texts [] = refl
numbers_of_texts (word ∷ words) = rw (numbers_of_texts words) refl

-- words that were found are all words
all_words : (found : Option (List Text)) (words : List Text) → Some words ≡ found → words ≡ unwrap_or found []
all_words (Some other) words is = ap (λ (o : Option (List Text)). unwrap_or o []) is
all_words None words is = cc

no_words : (found : Option (List Text)) → None ≡ found → [] ≡ unwrap_or found []
no_words None is = refl
no_words (Some other) is = cc

pub returns-in-Some : goal.returns-in-Some
returns-in-Some c =
    let rows = raw_values-rows (found_of c.args.found.now) (codes "line") in
    let words = all_words _ (map (λ word. word.now) c.in-Some.words.now) (sym (ap (option_map (λ s. map (λ v. v.now) s.now)) c.in-Some.is) ∙ c.get_strs.ensures ∙ rows) in
    IfOk-weaker c.numbers_of.result _ _ (λ lines is. is ∙ numbers_of_texts c.in-Some.words.now ∙ ap numbers_in words) c.numbers_of.ensures

pub returns-in-None : goal.returns-in-None
returns-in-None c =
    let rows = raw_values-rows (found_of c.args.found.now) (codes "line") in
    let words = no_words _ (sym (ap (option_map (λ s. map (λ v. v.now) s.now)) c.in-None.is) ∙ c.get_strs.ensures ∙ rows) in
    c.new.ensures.items ∙ ap numbers_in words
