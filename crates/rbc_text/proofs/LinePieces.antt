-- Pieces of a text that grows, and the lines that they are.
use Rattle.std.proofs.Common.{◌≡◌, ℕ, ◌≤◌, Bool, true, false, cond, List, [], ◌∷◌, ◌++◌, length, refl, sym, ap, ◌∙◌, append_assoc, append-nil, arith}
use Rattle.std.specs.List.{slice_split, onto_first}
use Rattle.rbc_text.specs.BatchText.{without_empty_end}
use Rattle.rbc_text.specs.EndedLines.{but_last, joined}
use Rattle.ertms_codec.proofs.Cuts.{split_is_cons}

-- the last piece goes on in others
abbrev pub glued : {X : Type 0} → List (List X) → List (List X) → List (List X)
glued [] pieces = pieces
glued (last ∷ []) [] = last ∷ []
glued (last ∷ []) (first ∷ more) = (last ++ first) ∷ more
glued (piece ∷ other ∷ front) pieces = piece ∷ glued (other ∷ front) pieces

-- a piece of nothing before others
glued_empty : {X : Type 0} (pieces : List (List X)) (first : List X) (more : List (List X)) → pieces ≡ first ∷ more → glued ([] ∷ []) pieces ≡ pieces
glued_empty [] first more e = cc
glued_empty (piece ∷ pieces) first more e = refl

glued_behind : {X : Type 0} (piece : List X) (front pieces : List (List X)) (first : List X) (more : List (List X)) → front ≡ first ∷ more → glued (piece ∷ front) pieces ≡ piece ∷ glued front pieces
glued_behind piece [] pieces first more e = cc
glued_behind piece (other ∷ front) pieces first more e = refl

glued_onto : {X : Type 0} (x : X) (front pieces : List (List X)) (first : List X) (more : List (List X)) → front ≡ first ∷ more → onto_first x (glued front pieces) ≡ glued (onto_first x front) pieces
glued_onto x [] pieces first more e = cc
glued_onto x (last ∷ []) [] first more e = refl
glued_onto x (last ∷ []) (piece ∷ pieces) first more e = refl
glued_onto x (last ∷ other ∷ front) pieces first more e = refl

-- the pieces of a text behind another
pub split_glued : {X : Type 0} (p : X → Bool) (xs ys : List X) → slice_split p (xs ++ ys) ≡ glued (slice_split p xs) (slice_split p ys)
split_glued p [] ys = let is = split_is_cons p ys in sym (glued_empty (slice_split p ys) is.0 is.1 is.2)
split_glued p (x ∷ xs) ys =
    let is = split_is_cons p xs in
    elim (p x) as (λ b. cond b ([] ∷ slice_split p (xs ++ ys)) (onto_first x (slice_split p (xs ++ ys))) ≡ glued (cond b ([] ∷ slice_split p xs) (onto_first x (slice_split p xs))) (slice_split p ys)) [
      | true ↦ ap (λ pieces. [] ∷ pieces) (split_glued p xs ys) ∙ sym (glued_behind [] (slice_split p xs) (slice_split p ys) is.0 is.1 is.2)
      | false ↦ ap (onto_first x) (split_glued p xs ys) ∙ glued_onto x (slice_split p xs) (slice_split p ys) is.0 is.1 is.2
    ]

glued_last : (ended : List (List ℕ)) (rest : List ℕ) (pieces : List (List ℕ)) → glued (ended ++ rest ∷ []) pieces ≡ ended ++ joined rest pieces
glued_last [] rest [] = refl
glued_last [] rest (first ∷ more) = refl
glued_last (line ∷ []) rest pieces = ap (λ (all : List (List ℕ)). line ∷ all) (glued_last [] rest pieces)
glued_last (line ∷ other ∷ ended) rest pieces = ap (λ (all : List (List ℕ)). line ∷ all) (glued_last (other ∷ ended) rest pieces)

-- the pieces of all that was read, after one piece more of it
pub one_piece_more : (p : ℕ → Bool) (batch piece : List ℕ) (ended : List (List ℕ)) (rest : List ℕ) → slice_split p batch ≡ ended ++ rest ∷ []
    → slice_split p (batch ++ piece) ≡ ended ++ joined rest (slice_split p piece)
one_piece_more p batch piece ended rest e =
    split_glued p batch piece ∙ ap (λ (front : List (List ℕ)). glued front (slice_split p piece)) e ∙ glued_last ended rest (slice_split p piece)

-- a piece of nothing goes on in pieces
pub joined_whole : (left : List (List ℕ)) (first : List ℕ) (more : List (List ℕ)) → left ≡ first ∷ more → joined [] left ≡ left
joined_whole [] first more e = cc
joined_whole (piece ∷ left) first more e = refl

-- a line that is ended by the first of the pieces
pub line_more : (lines : List (List ℕ)) (begun line : List ℕ) (pieces left : List (List ℕ)) → pieces ≡ line ∷ left → lines ++ joined begun pieces ≡ (lines ++ (begun ++ line) ∷ []) ++ left
line_more lines begun line pieces left e =
    ap (λ (all : List (List ℕ)). lines ++ joined begun all) e ∙ sym (append_assoc lines ((begun ++ line) ∷ []) left)

-- the one piece goes on what has begun
pub last_more : (lines : List (List ℕ)) (begun line : List ℕ) (pieces left : List (List ℕ)) → pieces ≡ line ∷ left → left ≡ [] → lines ++ joined begun pieces ≡ lines ++ joined (begun ++ line) left
last_more lines begun line pieces left e none = rw e (rw none refl)

-- all but the last, behind others
pub but_last_behind : (front : List (List ℕ)) (piece : List ℕ) (more : List (List ℕ)) → but_last (front ++ piece ∷ more) ≡ front ++ but_last (piece ∷ more)
but_last_behind [] piece more = refl
but_last_behind (line ∷ []) piece more = refl
but_last_behind (line ∷ other ∷ front) piece more = ap (λ (all : List (List ℕ)). line ∷ all) (but_last_behind (other ∷ front) piece more)

pub but_one : (ended : List (List ℕ)) (rest : List ℕ) → but_last (ended ++ rest ∷ []) ≡ ended
but_one ended rest = but_last_behind ended rest [] ∙ append-nil ended

-- the lines are those that have ended, and what is left
pub lines_beyond : (pieces : List (List ℕ)) → (more : List (List ℕ)) × (without_empty_end pieces ≡ but_last pieces ++ more)
lines_beyond [] = ([], refl)
lines_beyond ([] ∷ []) = ([], refl)
lines_beyond ((byte ∷ line) ∷ []) = ((byte ∷ line) ∷ [], refl)
lines_beyond ([] ∷ other ∷ pieces) = let rest = lines_beyond (other ∷ pieces) in (rest.0, ap (λ (all : List (List ℕ)). [] ∷ all) rest.1)
lines_beyond ((byte ∷ line) ∷ other ∷ pieces) = let rest = lines_beyond (other ∷ pieces) in (rest.0, ap (λ (all : List (List ℕ)). (byte ∷ line) ∷ all) rest.1)

all_ended : (ended : List (List ℕ)) → without_empty_end (ended ++ [] ∷ []) ≡ ended
all_ended [] = refl
all_ended ([] ∷ []) = refl
all_ended ((byte ∷ line) ∷ []) = refl
all_ended ([] ∷ other ∷ ended) = ap (λ (all : List (List ℕ)). [] ∷ all) (all_ended (other ∷ ended))
all_ended ((byte ∷ line) ∷ other ∷ ended) = ap (λ (all : List (List ℕ)). (byte ∷ line) ∷ all) (all_ended (other ∷ ended))

-- nothing is left
pub no_line_left : (ended : List (List ℕ)) (rest : List ℕ) → rest ≡ [] → without_empty_end (ended ++ rest ∷ []) ≡ ended
no_line_left ended rest none = ap (λ (r : List ℕ). without_empty_end (ended ++ r ∷ [])) none ∙ all_ended ended

-- a line is left
pub line_left : (ended : List (List ℕ)) (rest : List ℕ) → 1 ≤ length rest → without_empty_end (ended ++ rest ∷ []) ≡ ended ++ rest ∷ []
line_left ended [] some = absurd (omega (arith, some))
line_left [] (byte ∷ rest) some = refl
line_left ([] ∷ []) (byte ∷ rest) some = refl
line_left ((b ∷ line) ∷ []) (byte ∷ rest) some = refl
line_left ([] ∷ other ∷ ended) (byte ∷ rest) some = ap (λ (all : List (List ℕ)). [] ∷ all) (line_left (other ∷ ended) (byte ∷ rest) some)
line_left ((b ∷ line) ∷ other ∷ ended) (byte ∷ rest) some = ap (λ (all : List (List ℕ)). (b ∷ line) ∷ all) (line_left (other ∷ ended) (byte ∷ rest) some)
