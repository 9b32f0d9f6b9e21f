-- The word behind so many others.
use Rattle.std.proofs.Common.{◌≡◌, ℕ, ◌+◌, ◌≤◌, ◌<◌, List, [], ◌∷◌, length, drop, get_or, Option, Some, None, sym, ap, ◌∙◌, arith, length-drop}
use Rattle.std.specs.Prelude.{slice_get}
use Rattle.std.proofs.lemmas.List.{drop_more}
use Rattle.std.proofs.lemmas.Option.{slice_get_past, slice_get-get_or}
use Rattle.rbc_words.specs.ReportWords.{word_shown}
use denote.Ref.{Bor}

-- no word is left
pub nothing_left : (words : List (List ℕ)) (i k : ℕ) (left : Option (Bor (List ℕ))) → left ≡ None → [] ≡ drop i words → i ≤ k → word_shown left ≡ slice_get words k
nothing_left words i k left none e within =
    let count = ap length e in
    let left = length-drop i words in
    ap word_shown none ∙ sym (slice_get_past words k (omega (arith, count, left, within)))

-- a word is left
pub next_left : (words : List (List ℕ)) (i : ℕ) (first : List ℕ) (rest : List (List ℕ)) → first ∷ rest ≡ drop i words → (Some first ≡ slice_get words i) × (rest ≡ drop (i + 1) words)
next_left words i first rest e =
    let count = ap length e in
    let left = length-drop i words in
    let within : i < length words = omega (arith, count, left) in
    let same : first ∷ rest ≡ get_or words i first ∷ drop (i + 1) words = e ∙ drop_more words i first within in
    let head : first ≡ get_or words i first = cc in
    (ap (λ (w : List ℕ). Some w) head ∙ sym (slice_get-get_or words i first within), cc)
