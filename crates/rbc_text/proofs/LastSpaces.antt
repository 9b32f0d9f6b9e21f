-- The last space of a line, as a search finds it.
use Rattle.std.proofs.Common.{◌≡◌, ℕ, ◌+◌, true, false, eqb, eqb-true, List, [], ◌∷◌, ◌++◌, length, take, drop, get_or, refl, sym, ap, ◌∙◌, subst, append-nil, take-append-drop, get_or-drop, arith, length-drop}
use Rattle.std.proofs.lemmas.List.{drop_more}
use Rattle.std.proofs.lemmas.List.Elements.{All-from_get_or}
use Rattle.std.proofs.lemmas.List.Splits.{slice_split_none}
use Rattle.std.proofs.lemmas.Bool.{false_from_ne_true}
use Rattle.memchr.specs.Find.{NoneAfter, Nowhere, Passes, is_byte}
use Rattle.rbc_text.specs.BatchText.{is_space, words_of}
use Rattle.rbc_text.proofs.LinePieces.{glued, split_glued}
use Rattle.ertms_codec.proofs.Cuts.{split_is_cons}

-- a blank piece before others
glued_blank : (pieces more : List (List ℕ)) (first : List ℕ) (rest : List (List ℕ)) → pieces ≡ first ∷ rest → glued pieces ([] ∷ more) ≡ pieces ++ more
glued_blank [] more first rest e = cc
glued_blank (last ∷ []) more first rest e = ap (λ (l : List ℕ). l ∷ more) (append-nil last)
glued_blank (piece ∷ other ∷ pieces) more first rest e = ap (λ (all : List (List ℕ)). piece ∷ all) (glued_blank (other ∷ pieces) more other pieces refl)

-- the words of a text with a space in it
pub at_space : (front behind : List ℕ) → words_of (front ++ 32 ∷ behind) ≡ words_of front ++ words_of behind
at_space front behind =
    let is = split_is_cons is_space front in
    split_glued is_space front (32 ∷ behind) ∙ glued_blank (words_of front) (words_of behind) is.0 is.1 is.2

-- no space is there
pub no_space : (line : List ℕ) → Nowhere (Passes (is_byte 32) line) 0 (length line) → words_of line ≡ line ∷ []
no_space line never =
    slice_split_none is_space line (All-from_get_or (λ x. is_space x ≡ false) line 0 (λ k within. false_from_ne_true (eqb (get_or line k 0) 32) (never k (omega arith) within)))

-- no space is behind a place
behind_last : (line : List ℕ) (at : ℕ) → Nowhere (Passes (is_byte 32) line) (at + 1) (length line) → words_of (drop (at + 1) line) ≡ drop (at + 1) line ∷ []
behind_last line at never =
    slice_split_none is_space (drop (at + 1) line) (All-from_get_or (λ x. is_space x ≡ false) (drop (at + 1) line) 0 (λ k within.
    let left = length-drop (at + 1) line in
    false_from_ne_true (eqb (get_or (drop (at + 1) line) k 0) 32)
    (subst (λ byte. eqb byte 32 ≡ true → ⊥) (sym (get_or-drop (at + 1) line k 0)) (never (at + 1 + k) (omega arith) (omega (arith, within, left))))))

pub last_word_is : (line : List ℕ) (at : ℕ) → NoneAfter (Passes (is_byte 32) line) 0 (length line) at → Passes (is_byte 32) line at → words_of (drop (at + 1) line) ≡ drop (at + 1) line ∷ []
last_word_is line at none here = behind_last line at none.after

-- the words before the last space, and the one behind it
pub words_around : (line : List ℕ) (at : ℕ) → NoneAfter (Passes (is_byte 32) line) 0 (length line) at → Passes (is_byte 32) line at
    → words_of line ≡ words_of (take at line) ++ drop (at + 1) line ∷ []
words_around line at none here =
    let byte : get_or line at 0 ≡ 32 = eqb-true (get_or line at 0) 32 here in
    let cut : line ≡ take at line ++ 32 ∷ drop (at + 1) line =
    sym (take-append-drop at line) ∙ ap (λ (behind : List ℕ). take at line ++ behind) (drop_more line at 0 none.high ∙ ap (λ b. b ∷ drop (at + 1) line) byte) in
    ap words_of cut ∙ at_space (take at line) (drop (at + 1) line) ∙ ap (λ (words : List (List ℕ)). words_of (take at line) ++ words) (behind_last line at none.after)
