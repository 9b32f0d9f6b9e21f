-- Texts in lines: none of them has a line feed in it.
use Rattle.std.proofs.Common.{◌≡◌, ℕ, suc, zero, ◌+◌, ◌/◌, ◌%◌, ◌<◌, Bool, true, false, cond, ◌&&◌, ◌==◌, nat_lt, List, [], ◌∷◌, ◌++◌, length, slice_index, Option, Some, None, codes, flat_map, bytes_eq, take, drop, decimal, refl, sym, ap, ◌∙◌, subst, append_assoc, arith}
use Rattle.std.specs.List.{list_any, slice_split, onto_first, AllByRecursion}
use Rattle.std.specs.Fmt.{digits_onto, digit_glyph, digits}
use Rattle.std.proofs.lemmas.Bool.{ne_eqb, or_parts, or_from}
use Rattle.std.proofs.lemmas.Bool.Decides.{nat_tests}
use Rattle.memchr.specs.Find.{IsFirstByte, is_byte}
use Rattle.hex.specs.Hex.{upper_digits, encode_with, encode_upper}
use Rattle.rbc_text.specs.BatchText.{is_line_feed, without_empty_end, lines_of}
use Rattle.rbc_explain.specs.Marked.{ended, IsLine, IsPlain, unmarked}

-- what is in neither of two texts is not in both together
pub none_in_both : (p : ℕ → Bool) (xs ys : List ℕ) → list_any p xs ≡ false → list_any p ys ≡ false → list_any p (xs ++ ys) ≡ false
none_in_both p [] ys one two = two
none_in_both p (x ∷ xs) ys one two =
    let both = or_parts (p x) (list_any p xs) one in
    or_from (p x) (list_any p (xs ++ ys)) both.0 (none_in_both p xs ys both.1 two)

-- what is not in two texts together is not in the first
pub none_in_first : (p : ℕ → Bool) (xs ys : List ℕ) → list_any p (xs ++ ys) ≡ false → list_any p xs ≡ false
none_in_first p [] ys none = refl
none_in_first p (x ∷ xs) ys none =
    let both = or_parts (p x) (list_any p (xs ++ ys)) none in
    or_from (p x) (list_any p xs) both.0 (none_in_first p xs ys both.1)

-- two parts of a line are one
pub line_then : (xs ys : List ℕ) → IsLine xs → IsLine ys → IsLine (xs ++ ys)
line_then xs ys one two = none_in_both is_line_feed xs ys one two

-- what is not in a text is in none of its pieces
onto_first_none : (p : ℕ → Bool) (x : ℕ) (pieces : List (List ℕ)) → p x ≡ false → AllByRecursion (λ piece. list_any p piece ≡ false) pieces
    → AllByRecursion (λ piece. list_any p piece ≡ false) (onto_first x pieces)
onto_first_none p x [] is none = (or_from (p x) false is refl, tt)
onto_first_none p x (piece ∷ pieces) is none = (or_from (p x) (list_any p piece) is none.0, none.1)

split_none : (p : ℕ → Bool) (x : ℕ) (feed : Bool) (pieces : List (List ℕ)) → p x ≡ false → AllByRecursion (λ piece. list_any p piece ≡ false) pieces
    → AllByRecursion (λ piece. list_any p piece ≡ false) (cond feed ([] ∷ pieces) (onto_first x pieces))
split_none p x true pieces is none = (refl, none)
split_none p x false pieces is none = onto_first_none p x pieces is none

pub none_in_pieces : (p : ℕ → Bool) (text : List ℕ) → list_any p text ≡ false → AllByRecursion (λ piece. list_any p piece ≡ false) (slice_split is_line_feed text)
none_in_pieces p [] none = (refl, tt)
none_in_pieces p (x ∷ text) none =
    let both = or_parts (p x) (list_any p text) none in
    split_none p x (is_line_feed x) (slice_split is_line_feed text) both.0 (none_in_pieces p text both.1)

-- the pieces of a text are lines
split_lines : (x : ℕ) (feed : Bool) (pieces : List (List ℕ)) → is_line_feed x ≡ feed → AllByRecursion IsLine pieces → AllByRecursion IsLine (cond feed ([] ∷ pieces) (onto_first x pieces))
split_lines x true pieces is lines = (refl, lines)
split_lines x false pieces is lines = onto_first_none is_line_feed x pieces is lines

pub pieces_are_lines : (text : List ℕ) → AllByRecursion IsLine (slice_split is_line_feed text)
pieces_are_lines [] = (refl, tt)
pieces_are_lines (x ∷ text) = split_lines x (is_line_feed x) (slice_split is_line_feed text) refl (pieces_are_lines text)

without_end : (pieces : List (List ℕ)) → AllByRecursion IsLine pieces → AllByRecursion IsLine (without_empty_end pieces)
without_end [] lines = tt
without_end ([] ∷ []) lines = tt
without_end ([] ∷ next ∷ pieces) lines = (lines.0, without_end (next ∷ pieces) lines.1)
without_end ((x ∷ piece) ∷ pieces) lines = (lines.0, without_end pieces lines.1)

-- so are its lines
pub lines_are_lines : (text : List ℕ) → AllByRecursion IsLine (lines_of text)
lines_are_lines text = without_end (slice_split is_line_feed text) (pieces_are_lines text)

-- the first line of a text is a line
pub first_is_line : (text line : List ℕ) (lines : List (List ℕ)) → lines_of text ≡ line ∷ lines → IsLine line
first_is_line text line lines is = (subst (AllByRecursion IsLine) is (lines_are_lines text)).0

-- there is always a first piece
abbrev FirstPiece : List (List ℕ) → Type 0
FirstPiece pieces = (first : List ℕ) × (more : List (List ℕ)) × (pieces ≡ first ∷ more)

first_or_more : (x : ℕ) (feed : Bool) (pieces : List (List ℕ)) → FirstPiece (cond feed ([] ∷ pieces) (onto_first x pieces))
first_or_more x true pieces = ([], pieces, refl)
first_or_more x false [] = (x ∷ [], [], refl)
first_or_more x false (piece ∷ pieces) = (x ∷ piece, pieces, refl)

first_piece : (text : List ℕ) → FirstPiece (slice_split is_line_feed text)
first_piece [] = ([], [], refl)
first_piece (x ∷ text) = first_or_more x (is_line_feed x) (slice_split is_line_feed text)

-- a line, and what stands behind its line feed
split_behind : (line text : List ℕ) → IsLine line → slice_split is_line_feed (line ++ 10 ∷ text) ≡ line ∷ slice_split is_line_feed text
split_behind [] text is = refl
split_behind (x ∷ line) text is =
    let both = or_parts (is_line_feed x) (list_any is_line_feed line) is in
    let rest = slice_split is_line_feed (line ++ 10 ∷ text) in
    ap (λ (b : Bool). cond b ([] ∷ rest) (onto_first x rest)) both.0 ∙ ap (onto_first x) (split_behind line text both.1)

without_end_behind : (line : List ℕ) (pieces : List (List ℕ)) → FirstPiece pieces → without_empty_end (line ∷ pieces) ≡ line ∷ without_empty_end pieces
without_end_behind (x ∷ line) pieces some = refl
without_end_behind [] pieces some =
    ap (λ (ps : List (List ℕ)). without_empty_end ([] ∷ ps)) some.2 ∙ sym (ap (λ (ps : List (List ℕ)). [] ∷ without_empty_end ps) some.2)

pub lines_behind : (line text : List ℕ) → IsLine line → lines_of (line ++ 10 ∷ text) ≡ line ∷ lines_of text
lines_behind line text is = ap without_empty_end (split_behind line text is) ∙ without_end_behind line (slice_split is_line_feed text) (first_piece text)

pub lines_of_ended : (line text : List ℕ) → IsLine line → lines_of (ended line ++ text) ≡ line ∷ lines_of text
lines_of_ended line text is = ap lines_of (append_assoc line (codes "\n") text) ∙ lines_behind line text is

-- lines make a text of which they are the lines
pub lines_of_all : (lines : List (List ℕ)) → AllByRecursion IsLine lines → lines_of (flat_map ended lines) ≡ lines
lines_of_all [] each = refl
lines_of_all (line ∷ lines) each =
    lines_of_ended line (flat_map ended lines) each.0 ∙ ap (λ (ls : List (List ℕ)). line ∷ ls) (lines_of_all lines each.1)

-- the pieces of a text before its last line feed are its lines
ended_onto_first : (x : ℕ) (pieces : List (List ℕ)) → FirstPiece pieces → flat_map ended (onto_first x pieces) ≡ x ∷ flat_map ended pieces
ended_onto_first x pieces some =
    ap (λ (ps : List (List ℕ)). flat_map ended (onto_first x ps)) some.2 ∙ sym (ap (λ (ps : List (List ℕ)). x ∷ flat_map ended ps) some.2)

is_feed : (x : ℕ) → is_line_feed x ≡ true → x ≡ 10
is_feed x is = grind (arith, nat_tests)

ended_or_more : (x : ℕ) (feed : Bool) (pieces : List (List ℕ)) → is_line_feed x ≡ feed → FirstPiece pieces
    → flat_map ended (cond feed ([] ∷ pieces) (onto_first x pieces)) ≡ x ∷ flat_map ended pieces
ended_or_more x true pieces is some = ap (λ (n : ℕ). n ∷ flat_map ended pieces) (sym (is_feed x is))
ended_or_more x false pieces is some = ended_onto_first x pieces some

pub ended_pieces : (text : List ℕ) → flat_map ended (slice_split is_line_feed text) ≡ text ++ 10 ∷ []
ended_pieces [] = refl
ended_pieces (x ∷ text) =
    ended_or_more x (is_line_feed x) (slice_split is_line_feed text) refl (first_piece text) ∙ ap (λ (t : List ℕ). x ∷ t) (ended_pieces text)

-- a line without a first `=` has no mark
pub no_mark : (x : ℕ) (line : List ℕ) → (x == 61) ≡ false → unmarked (x ∷ line) ≡ None
no_mark x line is = ap (λ (b : Bool). cond (b && bytes_eq (take 1 line) (32 ∷ [])) (Some (drop 1 line)) None) is

-- what is at no place of a text is not in it
pub none_at_all : (p : ℕ → Bool) (text : List ℕ) → ((k : ℕ) → k < length text → ¬ (p (slice_index text k) ≡ true)) → list_any p text ≡ false
none_at_all p [] none = refl
none_at_all p (x ∷ text) none =
    or_from (p x) (list_any p text) (refused (p x) (none 0 (omega arith))) (none_at_all p text (λ k below. none (suc k) (omega (arith, below)))) where
      refused : (b : Bool) → ¬ (b ≡ true) → b ≡ false
      refused true never = absurd (never refl)
      refused false never = refl

-- a text whose last byte is a line feed, and in which no `=` is found
pub plain_text : (text body : List ℕ) (last : ℕ) (found : Option ℕ) → text ≡ body ++ last ∷ [] → last ≡ 10 → IsFirstByte (is_byte 61) text found → found ≡ None → IsPlain text
plain_text text body last found is feed first none = (
  body,
  is ∙ ap (λ (x : ℕ). body ++ x ∷ []) feed,
  none_at_all (λ byte. byte == 61) text (λ k below. (subst (IsFirstByte (is_byte 61) text) none first) k (omega arith) below),
)

-- digits have no line feed
other_glyph : (d : ℕ) (low : Bool) → (cond low (48 + d) (87 + d) == 10) ≡ false
other_glyph d true = ne_eqb (48 + d) 10 (λ e. absurd (omega (arith, e)))
other_glyph d false = ne_eqb (87 + d) 10 (λ e. absurd (omega (arith, e)))

digits_are_line : (k n : ℕ) (behind : List ℕ) → IsLine behind → IsLine (digits_onto k 10 false n behind)
digits_are_line zero n behind is = is
digits_are_line (suc k) n behind is =
    let next = or_from (digit_glyph false (n % 10) == 10) (list_any is_line_feed behind) (other_glyph (n % 10) (nat_lt (n % 10) 10)) is in
    let text = digit_glyph false (n % 10) ∷ behind in
    by_test (n / 10 == 0) text (digits_onto k 10 false (n / 10) text) next (digits_are_line k (n / 10) text next) where
      by_test : (is_last : Bool) (last more : List ℕ) → IsLine last → IsLine more → IsLine (cond is_last last more)
      by_test true last more one two = one
      by_test false last more one two = two

pub decimal_is_line : (n : ℕ) → IsLine (decimal n)
unfolding digits
decimal_is_line n = digits_are_line 64 n [] refl

none_at : (text : List ℕ) (k : ℕ) → IsLine text → (slice_index text k == 10) ≡ false
none_at [] k is = refl
none_at (x ∷ text) zero is = (or_parts (is_line_feed x) (list_any is_line_feed text) is).0
none_at (x ∷ text) (suc k) is = none_at text k (or_parts (is_line_feed x) (list_any is_line_feed text) is).1

hex_is_line : (table bytes : List ℕ) → IsLine table → IsLine (encode_with table bytes)
unfolding encode_with
hex_is_line table [] is = refl
hex_is_line table (x ∷ bytes) is =
    or_from _ _ (none_at table (x / 16) is) (or_from _ _ (none_at table (x % 16) is) (hex_is_line table bytes is))

pub upper_is_line : (bytes : List ℕ) → IsLine (encode_upper bytes)
upper_is_line bytes = hex_is_line upper_digits bytes refl
