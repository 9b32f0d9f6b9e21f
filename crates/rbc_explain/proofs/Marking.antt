-- Lines that are added to a log.
use Rattle.std.proofs.Common.{◌≡◌, ◌==◌, ℕ, Bool, true, false, List, [], ◌∷◌, ◌++◌, length, map, codes, flat_map, filter_map, Option, None, refl, sym, ap, ◌∙◌, append_assoc, append-nil, Result, Ok, Err, OnOk, is_ok, if◌then◌else◌, arith}
use Rattle.std.specs.List.{cons_option, slice_split, list_any, AllByRecursion}
use Rattle.std.proofs.lemmas.List.Concat.{flat_map-append}
use Rattle.std.proofs.lemmas.List.Elements.{filter_map-append}
use Rattle.std.proofs.lemmas.Bool.{or_parts}
use Rattle.rbc_text.specs.BatchText.{is_line_feed, lines_of}
use Rattle.rbc_explain.specs.Marked.{ended, indent_of, IsLine, IsPlain, shown, unmarked, AreAdded, IsToldOn}
use Rattle.rbc_explain.specs.Telling.{HasText, IsSaidOn}
use Rattle.rbc_explain.proofs.Lines.{none_in_first, none_in_pieces, pieces_are_lines, lines_are_lines, lines_of_all, ended_pieces, no_mark}

each_then : (P : List ℕ → Type 0) (lines more : List (List ℕ)) → AllByRecursion P lines → AllByRecursion P more → AllByRecursion P (lines ++ more)
each_then P [] more one two = two
each_then P (line ∷ lines) more one two = (one.0, each_then P lines more one.1 two)

-- nothing is added
pub added_none : (log : List ℕ) → AreAdded [] log log
added_none log = record { text = sym (append-nil log); each = tt }

-- one line is added
pub added_one : (line old new : List ℕ) → IsLine line → new ≡ old ++ ended line → AreAdded (line ∷ []) old new
added_one line old new is e = record { text = e ∙ ap (λ (t : List ℕ). old ++ t) (sym (append-nil (ended line))); each = (is, tt) }

-- lines are added twice
pub added_then : (lines more : List (List ℕ)) (first second third : List ℕ) → AreAdded lines first second → AreAdded more second third → AreAdded (lines ++ more) first third
added_then lines more first second third one two = record {
  text = two.text ∙ ap (λ (t : List ℕ). t ++ flat_map ended more) one.text ∙ append_assoc first (flat_map ended lines) (flat_map ended more)
      ∙ ap (λ (t : List ℕ). first ++ t) (sym (flat_map-append ended lines more));
  each = each_then IsLine lines more one.each two.each;
}

-- a log to which nothing is added
pub told_none : (log : List ℕ) → IsToldOn [] log log
told_none log = ([], added_none log, refl)

pub told_marked : (line old new : List ℕ) → AreAdded ((codes "= " ++ line) ∷ []) old new → IsToldOn (line ∷ []) old new
told_marked line old new added = ((codes "= " ++ line) ∷ [], added, refl)

-- ---- words

-- no line of words is marked as it is shown
shown_unmarked : (line : List ℕ) → unmarked (shown line) ≡ None
shown_unmarked [] = refl
shown_unmarked (first ∷ line) = by_test (first == 61) refl where
  by_test : (test : Bool) → (first == 61) ≡ test → unmarked ((if test then codes " " else []) ++ first ∷ line) ≡ None
  by_test true is = refl
  by_test false is = no_mark first line is

none_marked : (lines : List (List ℕ)) → filter_map unmarked (map shown lines) ≡ []
none_marked [] = refl
none_marked (line ∷ lines) =
    ap (λ (found : Option (List ℕ)). cons_option found (filter_map unmarked (map shown lines))) (shown_unmarked line) ∙ none_marked lines

-- each is a line still
shown_is_line : (line : List ℕ) → IsLine line → IsLine (shown line)
shown_is_line [] is = is
shown_is_line (first ∷ line) is = by_test (first == 61) where
  by_test : (test : Bool) → IsLine ((if test then codes " " else []) ++ first ∷ line)
  by_test true = is
  by_test false = is

shown_are_lines : (lines : List (List ℕ)) → AllByRecursion IsLine lines → AllByRecursion IsLine (map shown lines)
shown_are_lines [] each = tt
shown_are_lines (line ∷ lines) each = (shown_is_line line each.0, shown_are_lines lines each.1)

-- a line without `=` is shown as it is
shown_as_it_is : (line : List ℕ) → list_any (λ byte. byte == 61) line ≡ false → shown line ≡ line
shown_as_it_is [] none = refl
shown_as_it_is (first ∷ line) none =
    ap (λ (test : Bool). (if test then codes " " else []) ++ first ∷ line) (or_parts (first == 61) (list_any (λ byte. byte == 61) line) none).0

all_as_they_are : (lines : List (List ℕ)) → AllByRecursion (λ line. list_any (λ byte. byte == 61) line ≡ false) lines → map shown lines ≡ lines
all_as_they_are [] none = refl
all_as_they_are (line ∷ lines) none = λ i. shown_as_it_is line none.0 i ∷ all_as_they_are lines none.1 i

-- a text as it is shown
abbrev pub shown_text : List ℕ → List ℕ
shown_text text = flat_map ended (map shown (lines_of text))

plain_as_it_is : (text : List ℕ) → IsPlain text → shown_text text ≡ text
plain_as_it_is text plain =
    let pieces = slice_split is_line_feed plain.0 in
    let none = none_in_first (λ byte. byte == 61) plain.0 (codes "\n") (ap (λ (t : List ℕ). list_any (λ byte. byte == 61) t) (sym plain.1) ∙ plain.2) in
    ap shown_text (plain.1 ∙ sym (ended_pieces plain.0))
    ∙ ap (λ (ls : List (List ℕ)). flat_map ended (map shown ls)) (lines_of_all pieces (pieces_are_lines plain.0))
    ∙ ap (flat_map ended) (all_as_they_are pieces (none_in_pieces (λ byte. byte == 61) plain.0 none))
    ∙ ended_pieces plain.0 ∙ sym plain.1

-- a text is added
pub text_said : (text old new : List ℕ) → new ≡ old ++ shown_text text → IsSaidOn (HasText text) old new
text_said text old new e =
    let lines = map shown (lines_of text) in (
      lines,
      record { text = e; each = shown_are_lines (lines_of text) (lines_are_lines text) },
      none_marked (lines_of text),
      ([], [], sym (append-nil lines)),
    )

-- one that ends with a line feed and has no `=`, unless memory was refused
pub plain_said : (T E : Type 0) (r : Result T E) (text old new : List ℕ) → IsPlain text → new ≡ (if is_ok r then old ++ text else old) → OnOk r (IsSaidOn (HasText text) old new)
plain_said T E (Ok done) text old new plain e = text_said text old new (e ∙ ap (λ (t : List ℕ). old ++ t) (sym (plain_as_it_is text plain)))
plain_said T E (Err fault) text old new plain e = tt

-- a line of it is added in parts, unless memory was refused
pub line_in_parts : (T E : Type 0) (r : Result T E) (line old mid next new : List ℕ) → mid ≡ old ++ indent_of line → next ≡ mid ++ line
    → new ≡ (if is_ok r then next ++ codes "\n" else next) → OnOk r (new ≡ old ++ ended (shown line))
line_in_parts T E (Ok done) line old mid next new first second third =
    third ∙ ap (λ (t : List ℕ). t ++ codes "\n") (second ∙ ap (λ (t : List ℕ). t ++ line) first ∙ append_assoc old (indent_of line) line) ∙ append_assoc old (shown line) (codes "\n")
line_in_parts T E (Err fault) line old mid next new first second third = tt

-- what is shown and what is left of a text are all of it
pub one_line_less : (old text log rest line behind new : List ℕ) → log ++ shown_text rest ≡ old ++ shown_text text → lines_of rest ≡ line ∷ lines_of behind
    → new ≡ log ++ ended (shown line) → new ++ shown_text behind ≡ old ++ shown_text text
one_line_less old text log rest line behind new so_far first e =
    ap (λ (t : List ℕ). t ++ shown_text behind) e ∙ append_assoc log (ended (shown line)) (shown_text behind)
    ∙ ap (λ (ls : List (List ℕ)). log ++ flat_map ended (map shown ls)) (sym first) ∙ so_far

pub no_line_left : (old text log rest : List ℕ) → log ++ shown_text rest ≡ old ++ shown_text text → length rest ≡ 0 → IsSaidOn (HasText text) old log
no_line_left old text log [] so_far none = text_said text old log (sym (append-nil log) ∙ so_far)
no_line_left old text log (x ∷ rest) so_far none = absurd (omega (arith, none))

-- a log that is added to twice
pub told_then : (lines more : List (List ℕ)) (first second third : List ℕ) → IsToldOn lines first second → IsToldOn more second third → IsToldOn (lines ++ more) first third
told_then lines more first second third one two = (
  one.0 ++ two.0,
  added_then one.0 two.0 first second third one.1 two.1,
  filter_map-append unmarked one.0 two.0 ∙ (λ i. one.2 i ++ two.2 i),
)
