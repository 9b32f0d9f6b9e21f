-- A message in too many digits.
use Rattle.std.proofs.Common.{◌≡◌, ℕ, ◌+◌, ◌*◌, ◌%◌, ◌<◌, ◌≤◌, Bool, true, false, cond, ◌&&◌, List, [], ◌∷◌, ◌++◌, length, take, drop, Some, None, Result, Ok, Err, inl, inr, eqb, refl, sym, ap, ◌∙◌, take-append-drop, arith, length-append, length-take-le}
use Rattle.std.specs.Prelude.{codes}
use Rattle.std.specs.List.{list_all}
use Rattle.std.specs.Option.{unwrap_or}
use Rattle.std.proofs.lemmas.Bool.{and_parts}
use Rattle.std.proofs.lemmas.List.Folds.{list_all-append}
use Rattle.std.proofs.lemmas.List.Sums.{AllPass-from_list_all, list_all-from_AllPass}
use Rattle.hex.specs.Hex.{decode_of, is_hex_digit}
use Rattle.hex.specs.declared.error.FromHexError.{FromHexError}
use Rattle.hex.proofs.HexLemmas.{decode_of-ok, decode_of-digits}
use Rattle.ertms_bits.specs.Bits.{bits_of_bytes}
use Rattle.ertms_bits.proofs.Numbers.{AreBits-bits_of_bytes}
use Rattle.ertms_codec.specs.declared.error.DecodeError.TheVariants.{Length}
use Rattle.ertms_codec.specs.Layout.{value_at}
use Rattle.ertms_codec.specs.Refusals.{HasItsLength}
use Rattle.ertms_codec.proofs.Fields.{at_below}
use Rattle.ertms_codec.proofs.FromTrainAgain.{again}
use Rattle.ertms_codec.proofs.Cuts.{split_is_cons}
use Rattle.rbc_rule.specs.declared.input.Input.{Input}
use Rattle.rbc_rule.specs.declared.input.Input.TheVariants.{Enrol, Withdraw, Stop, Release, Restrict, Lift, Received, Bad}
use Rattle.rbc_rule.specs.Codes.{code_of}
use Rattle.rbc_rule.specs.Step.{step}
use Rattle.rbc_text.specs.BatchText.{Line, Spelled, Heard, is_space, words_of, is_hex_word, line_of_hex, message_of, line_of_words, line_of, refusal_of, AreHeard}
use Rattle.rbc_live.specs.GoingOn.{ActsAs, GoesOnAs}
use Rattle.rbc_text.specs.EndedLines.{joined}
use Rattle.rbc_text.proofs.LinePieces.{one_piece_more}
use Rattle.rbc_live.proofs.Words.{digits_are_one}
use Rattle.rbc_live.proofs.Alike.{acts_same, acts_at, bad_whatever_follows}

-- ---- bytes

-- L_MESSAGE has 10 bits
too_long : (bytes : List ℕ) → 1024 ≤ length bytes → ¬ HasItsLength bytes
too_long bytes long has =
    let counted : value_at 8 10 (bits_of_bytes bytes) ≡ length bytes = has.1 in
    let below : value_at 8 10 (bits_of_bytes bytes) < 1024 = at_below 8 10 (bits_of_bytes bytes) (AreBits-bits_of_bytes bytes) in
    omega (arith, counted, below, long)

-- too many bytes are refused for their length
refused : (bytes : List ℕ) → 1024 ≤ length bytes → (input : Input) → AreHeard bytes input → input ≡ Bad 3
refused bytes long (Received message) is = absurd (too_long bytes long (again bytes message is).sized)
refused bytes long (Bad code) is =
    elim is.1 [
      | inl x ↦ ap Bad (is.2 ∙ ap (λ fault. code_of (refusal_of fault)) x.1)
      | inr x ↦ absurd (too_long bytes long x.0)
    ]
refused bytes long (Enrol engine train_length) is = absurd is
refused bytes long (Withdraw engine) is = absurd is
refused bytes long (Stop number segments) is = absurd is
refused bytes long (Release number) is = absurd is
refused bytes long (Restrict number segment dirs speed front) is = absurd is
refused bytes long (Lift number) is = absurd is

both_refused : (kept bytes : List ℕ) → 1024 ≤ length kept → 1024 ≤ length bytes → ActsAs (Heard kept) (Heard bytes)
both_refused kept bytes few many = λ input is.
    (Bad 3, (Length, inl (too_long bytes many, refl), refl), λ plan w. ap (step plan w) (sym (refused kept few input is)))

-- ---- digits

bad_digits : (text : List ℕ) → list_all is_hex_digit text ≡ false → line_of_hex (decode_of text) ≡ Spelled (Bad 2)
bad_digits text bad = by (decode_of text) refl
  where
    by : (r : Result (List ℕ) FromHexError) → decode_of text ≡ r → line_of_hex r ≡ Spelled (Bad 2)
    by (Ok bytes) e =
        absurd (let never : true ≡ false = sym (list_all-from_AllPass is_hex_digit text (decode_of-ok text bytes e).1) ∙ bad in cc)
    by (Err fault) e = refl

-- both are digits or both are not, and both are even in number or both are not
decoded : (kept text : List ℕ) → 2048 ≤ length kept → 2048 ≤ length text → length kept % 2 ≡ length text % 2 → list_all is_hex_digit kept ≡ list_all is_hex_digit text
    → ActsAs (line_of_hex (decode_of kept)) (line_of_hex (decode_of text))
decoded kept text few many same alike = by (decode_of kept) (decode_of text) refl refl
  where
    by : (k t : Result (List ℕ) FromHexError) → decode_of kept ≡ k → decode_of text ≡ t → ActsAs (line_of_hex k) (line_of_hex t)
    by (Ok bytes) (Ok others) a b =
        let shorter : length kept ≡ 2 * length bytes = (decode_of-ok kept bytes a).2 in
        let longer : length text ≡ 2 * length others = (decode_of-ok text others b).2 in
        both_refused bytes others (omega (arith, few, shorter)) (omega (arith, many, longer))
    by (Ok bytes) (Err fault) a b =
        let is = decode_of-ok kept bytes a in
        let read = decode_of-digits text (sym same ∙ is.0) (AllPass-from_list_all is_hex_digit text (sym alike ∙ list_all-from_AllPass is_hex_digit kept is.1)) in
        absurd (let never = sym b ∙ read.1 in cc)
    by (Err fault) (Ok bytes) a b =
        let is = decode_of-ok text bytes b in
        let read = decode_of-digits kept (same ∙ is.0) (AllPass-from_list_all is_hex_digit kept (alike ∙ list_all-from_AllPass is_hex_digit text is.1)) in
        absurd (let never = sym a ∙ read.1 in cc)
    by (Err fault) (Err other) a b = acts_same (Spelled (Bad 2)) (Spelled (Bad 2)) refl

-- ---- words

step_to : (x y : Bool) (kept line : Line) → x ≡ y → ActsAs kept line → ActsAs (unwrap_or (cond x (Some kept) None) (Spelled (Bad 1))) (unwrap_or (cond y (Some line) None) (Spelled (Bad 1)))
step_to true true kept line same acts = acts
step_to false false kept line same acts = acts_same (Spelled (Bad 1)) (Spelled (Bad 1)) refl
step_to true false kept line same acts = cc same
step_to false true kept line same acts = cc same

-- what follows a word has no carriage return
goes_on : (word more : List ℕ) → 1 ≤ length word → list_all (λ byte. cond (eqb byte 13) false true) word ≡ true
    → is_hex_word (word ++ more) ≡ list_all (λ byte. cond (eqb byte 13) false true) more
goes_on [] more some none = absurd (omega (arith, some))
goes_on (digit ∷ word) more some none =
    list_all-append (λ byte. cond (eqb byte 13) false true) (digit ∷ word) more ∙ ap (λ b. b && list_all (λ byte. cond (eqb byte 13) false true) more) none

stops : (word more : List ℕ) → list_all (λ byte. cond (eqb byte 13) false true) word ≡ false → is_hex_word (word ++ more) ≡ false
stops [] more bad = cc bad
stops (digit ∷ word) more bad =
    list_all-append (λ byte. cond (eqb byte 13) false true) (digit ∷ word) more ∙ ap (λ b. b && list_all (λ byte. cond (eqb byte 13) false true) more) bad

-- a message that goes on
message_line : (line word more : List ℕ) → words_of line ≡ codes "recv" ∷ word ∷ [] → line_of (line ++ more) ≡ unwrap_or (message_of (joined word (words_of more))) (Spelled (Bad 1))
message_line line word more e = ap (λ (words : List (List ℕ)). unwrap_or (line_of_words words) (Spelled (Bad 1))) (one_piece_more is_space line more (codes "recv" ∷ []) word e)

by_first : (kept word first : List ℕ) (rest : List (List ℕ)) → is_hex_word (kept ++ first) ≡ is_hex_word (word ++ first)
    → ActsAs (line_of_hex (decode_of (kept ++ first))) (line_of_hex (decode_of (word ++ first)))
    → ActsAs (unwrap_or (message_of ((kept ++ first) ∷ rest)) (Spelled (Bad 1))) (unwrap_or (message_of ((word ++ first) ∷ rest)) (Spelled (Bad 1)))
by_first kept word first [] same acts = step_to (is_hex_word (kept ++ first)) (is_hex_word (word ++ first)) (line_of_hex (decode_of (kept ++ first))) (line_of_hex (decode_of (word ++ first))) same acts
by_first kept word first (second ∷ rest) same acts = acts_same (Spelled (Bad 1)) (Spelled (Bad 1)) refl

-- two messages that go on
messages_alike : (short line kept word : List ℕ) → words_of short ≡ codes "recv" ∷ kept ∷ [] → words_of line ≡ codes "recv" ∷ word ∷ []
    → ((first : List ℕ) → (is_hex_word (kept ++ first) ≡ is_hex_word (word ++ first)) × ActsAs (line_of_hex (decode_of (kept ++ first))) (line_of_hex (decode_of (word ++ first)))) → GoesOnAs short line
messages_alike short line kept word k l alike = λ more.
    let next = split_is_cons is_space more in
    let to : List ℕ → List (List ℕ) → Line = λ w ws. unwrap_or (message_of (joined w ws)) (Spelled (Bad 1)) in
    let at = alike next.0 in
    acts_at (line_of (short ++ more)) (line_of (line ++ more)) (to kept (next.0 ∷ next.1)) (to word (next.0 ∷ next.1))
    (message_line short kept more k ∙ ap (to kept) next.2) (message_line line word more l ∙ ap (to word) next.2) (by_first kept word next.0 next.1 at.0 at.1)

never_hex : (word first : List ℕ) (rest : List (List ℕ)) → is_hex_word (word ++ first) ≡ false → unwrap_or (message_of ((word ++ first) ∷ rest)) (Spelled (Bad 1)) ≡ Spelled (Bad 1)
never_hex word first [] bad = ap (λ b. unwrap_or (cond b (Some (line_of_hex (decode_of (word ++ first)))) None) (Spelled (Bad 1))) bad
never_hex word first (second ∷ rest) bad = refl

-- a word with a carriage return in it
pub with_return : (kept line word : List ℕ) → kept ≡ 32 ∷ [] → words_of line ≡ codes "recv" ∷ word ∷ [] → list_all (λ byte. cond (eqb byte 13) false true) word ≡ false → GoesOnAs kept line
with_return kept line word is e bad = bad_whatever_follows kept line is (λ more.
    let next = split_is_cons is_space more in
    message_line line word more e ∙ ap (λ (words : List (List ℕ)). unwrap_or (message_of (joined word words)) (Spelled (Bad 1))) next.2 ∙ never_hex word next.0 next.1 (stops word next.0 bad))

all_of_both : (word first : List ℕ) → list_all is_hex_digit word ≡ false → list_all is_hex_digit (word ++ first) ≡ false
all_of_both word first bad = list_all-append is_hex_digit word first ∙ ap (λ b. b && list_all is_hex_digit first) bad

-- a word with a byte in it that is no digit
pub with_bad_digit : (short line word : List ℕ) → short ≡ codes "recv g" → words_of line ≡ codes "recv" ∷ word ∷ [] → 1 ≤ length word
    → list_all (λ byte. cond (eqb byte 13) false true) word ≡ true → list_all is_hex_digit word ≡ false → GoesOnAs short line
with_bad_digit short line word is e some none bad = messages_alike short line (103 ∷ []) word (ap words_of is) e (λ first. (
  goes_on (103 ∷ []) first (omega arith) refl ∙ sym (goes_on word first some none),
  acts_same (line_of_hex (decode_of (103 ∷ first))) (line_of_hex (decode_of (word ++ first)))
      (bad_digits (word ++ first) (all_of_both word first bad) ∙ sym (bad_digits (103 ∷ first) (all_of_both (103 ∷ []) first refl))),
))

-- a part of digits
front_passes : (p : ℕ → Bool) (n : ℕ) (word : List ℕ) → list_all p word ≡ true → list_all p (take n word) ≡ true
front_passes p n word all =
    (and_parts (list_all p (take n word)) (list_all p (drop n word)) (sym (list_all-append p (take n word) (drop n word)) ∙ ap (list_all p) (take-append-drop n word) ∙ all)).0

alike_behind : (kept word first : List ℕ) → list_all is_hex_digit kept ≡ true → list_all is_hex_digit word ≡ true → list_all is_hex_digit (kept ++ first) ≡ list_all is_hex_digit (word ++ first)
alike_behind kept word first k w =
    list_all-append is_hex_digit kept first ∙ ap (λ b. b && list_all is_hex_digit first) (k ∙ sym w) ∙ sym (list_all-append is_hex_digit word first)

-- digits alone: an even or an odd number of them
pub with_digits : (short line word : List ℕ) (n : ℕ) → short ≡ codes "recv " ++ take n word → words_of line ≡ codes "recv" ∷ word ∷ [] → n ≡ 4096 + length word % 2 → 4097 ≤ length word
    → list_all (λ byte. cond (eqb byte 13) false true) word ≡ true → list_all is_hex_digit word ≡ true → GoesOnAs short line
with_digits short line word n is e number long none digits =
    let kept = take n word in
    let kept_digits = front_passes is_hex_digit n word digits in
    let rest : length word % 2 < 2 = omega arith in
    let size : length kept ≡ n = length-take-le n word (omega (arith, number, long, rest)) in
    messages_alike short line kept word (ap words_of is ∙ ap (λ (words : List (List ℕ)). codes "recv" ∷ words) (digits_are_one kept kept_digits)) e (λ first.
    let few = length-append kept first in
    let many = length-append word first in (
      goes_on kept first (omega (arith, size, number)) (front_passes (λ byte. cond (eqb byte 13) false true) n word none) ∙ sym (goes_on word first (omega (arith, long)) none),
      decoded (kept ++ first) (word ++ first) (omega (arith, few, size, number)) (omega (arith, many, long)) (omega (arith, few, many, size, number))
          (alike_behind kept word first kept_digits digits),
    ))
