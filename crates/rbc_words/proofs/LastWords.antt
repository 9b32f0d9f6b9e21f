-- The last word of a line, and how long a line is that ends in a message.
use Rattle.std.proofs.Common.{◌≡◌, ℕ, suc, ◌+◌, ◌*◌, ◌<◌, ◌≤◌, Bool, true, false, cond, leb, ◌&&◌, ◌-◌, take, List, [], ◌∷◌, ◌++◌, length, Option, Some, None, is_some, inl, inr, refl, sym, ap, ◌∙◌, subst, arith, length-append}
use Rattle.std.specs.List.{slice_split, onto_first, list_all}
use Rattle.std.specs.Prelude.{codes}
use Rattle.std.specs.Str.{bytes_eq}
use Rattle.std.proofs.lemmas.Bool.{and_parts, leb-true}
use Rattle.std.proofs.lemmas.Slice.Eq.{bytes_eq-Decides}
use Rattle.std.proofs.Math.Seq.{take-append_seam}
use Rattle.hex.proofs.HexLemmas.{decode_of-ok}
use Rattle.ertms_bits.specs.Bits.{bits_of_bytes}
use Rattle.ertms_bits.proofs.Numbers.{AreBits-bits_of_bytes}
use Rattle.ertms_codec.specs.Layout.{value_at}
use Rattle.ertms_codec.specs.Refusals.{HasItsLength}
use Rattle.ertms_codec.proofs.Fields.{at_below}
use Rattle.ertms_codec.proofs.FromTrainAgain as from_train
use Rattle.ertms_codec.proofs.ToTrainAgain as to_train
use Rattle.ertms_codec.proofs.Cuts.{split_is_cons}
use Rattle.rbc_text.specs.BatchText.{is_space, is_digit, words_of, decimal_of, is_decimal, value_of}
use Rattle.rbc_words.specs.Lines.{last_of}
use Rattle.rbc_words.specs.Decoding.{Decodes, EndsInMessage, HasText, Says, digits_in, is_to_train}
use Rattle.rbc_words.specs.declared.decode.Direction.{Direction}
use Rattle.rbc_words.specs.declared.decode.Direction.TheVariants as ways

-- ---- words

pub last_behind : (word : List ℕ) (words : List (List ℕ)) (first : List ℕ) (more : List (List ℕ)) → words ≡ first ∷ more → last_of (word ∷ words) ≡ last_of words
last_behind word [] first more e = cc
last_behind word (other ∷ words) first more e = refl

-- a line of one word is that word
one_piece : (p : ℕ → Bool) (line first : List ℕ) → slice_split p line ≡ first ∷ [] → line ≡ first
one_piece p [] first e = cc
one_piece p (byte ∷ line) first e = by (p byte) (one_piece p line) e
  where
    onto : (words : List (List ℕ)) (next : List ℕ) (more : List (List ℕ)) → words ≡ next ∷ more → ((one : List ℕ) → words ≡ one ∷ [] → line ≡ one) → onto_first byte words ≡ first ∷ [] → byte ∷ line ≡ first
    onto [] next more e one is = cc
    onto (word ∷ []) next more e one is = let same = one word refl in cc
    onto (word ∷ other ∷ words) next more e one is = cc

    by : (b : Bool) → ((one : List ℕ) → slice_split p line ≡ one ∷ [] → line ≡ one) → cond b ([] ∷ slice_split p line) (onto_first byte (slice_split p line)) ≡ first ∷ [] → byte ∷ line ≡ first
    by true one e = let next = split_is_cons p line in absurd (empty (slice_split p line) next.0 next.1 next.2 e)
      where
        empty : (words : List (List ℕ)) (next : List ℕ) (more : List (List ℕ)) → words ≡ next ∷ more → [] ∷ words ≡ first ∷ [] → ⊥
        empty words next more e is = cc
    by false one e = let next = split_is_cons p line in onto (slice_split p line) next.0 next.1 next.2 one e

-- a line ends in its last word
pub ends_in_word : (p : ℕ → Bool) (line : List ℕ) → ((front : List ℕ) × (line ≡ front ++ last_of (slice_split p line)))
ends_in_word p [] = ([], refl)
ends_in_word p (byte ∷ line) =
    let next = split_is_cons p line in
    let behind = ends_in_word p line in
    elim (p byte) as (λ b. (front : List ℕ) × (byte ∷ line ≡ front ++ last_of (cond b ([] ∷ slice_split p line) (onto_first byte (slice_split p line))))) [
      | true ↦ (byte ∷ behind.0, ap (λ (l : List ℕ). byte ∷ l) (behind.1 ∙ ap (λ (w : List ℕ). behind.0 ++ w) (sym (last_behind [] (slice_split p line) next.0 next.1 next.2))))
      | false ↦ onto (slice_split p line) next.0 next.1 next.2 behind.0 behind.1 (one_piece p line)
    ]
  where
    onto : (words : List (List ℕ)) (first : List ℕ) (more : List (List ℕ)) → words ≡ first ∷ more → (front : List ℕ) → line ≡ front ++ last_of words → ((one : List ℕ) → words ≡ one ∷ [] → line ≡ one)
        → (front : List ℕ) × (byte ∷ line ≡ front ++ last_of (onto_first byte words))
    onto [] first more e front whole one = cc
    onto (word ∷ []) first more e front whole one = ([], ap (λ (l : List ℕ). byte ∷ l) (one word refl))
    onto (word ∷ other ∷ words) first more e front whole one = (byte ∷ front, ap (λ (l : List ℕ). byte ∷ l) whole)

-- the bytes of words, and one more for each
abbrev pub total : List (List ℕ) → ℕ
total [] = 0
total (word ∷ words) = suc (length word) + total words

pub total_of_line : (p : ℕ → Bool) (line : List ℕ) → total (slice_split p line) ≡ length line + 1
total_of_line p [] = refl
total_of_line p (byte ∷ line) =
    let next = split_is_cons p line in
    let behind = total_of_line p line in
    elim (p byte) as (λ b. total (cond b ([] ∷ slice_split p line) (onto_first byte (slice_split p line))) ≡ length (byte ∷ line) + 1) [
      | true ↦ omega (arith, behind)
      | false ↦ let more = onto (slice_split p line) next.0 next.1 next.2 in omega (arith, more, behind)
    ]
  where
    onto : (words : List (List ℕ)) (first : List ℕ) (more : List (List ℕ)) → words ≡ first ∷ more → total (onto_first byte words) ≡ suc (total words)
    onto [] first more e = cc
    onto (word ∷ words) first more e = omega arith

-- ---- lines that end in a message

pub fits_ten : (word : List ℕ) → is_some (decimal_of word) ≡ true → length word ≤ 10
fits_ten word some = by (is_decimal word) refl some
  where
    by : (b : Bool) → is_decimal word ≡ b → is_some (cond (b && leb (value_of word) 4294967295) (Some (value_of word)) None) ≡ true → length word ≤ 10
    by false e some = cc
    by true e some = leb-true (length word) 10 (and_parts (leb (length word) 10) (list_all is_digit word) (and_parts (leb 1 (length word)) (leb (length word) 10 && list_all is_digit word) e).1).0

paired : (word digits : List ℕ) (way direction : Direction) → ◌≡◌ {A = Option (List ℕ × Direction)} (Some (word, way)) (Some (digits, direction)) → (word ≡ digits) × (way ≡ direction)
paired word digits way direction e =
    let pair : ◌≡◌ {A = List ℕ × Direction} (word, way) (digits, direction) = cc in
    (ap (λ (p : List ℕ × Direction). p.0) pair, ap (λ (p : List ℕ × Direction). p.1) pair)

-- the word is the last one, and what stands before it is short
pub word_is_last : (words : List (List ℕ)) (digits : List ℕ) (direction : Direction) → digits_in words ≡ Some (digits, direction) → (last_of words ≡ digits) × (total words ≤ length digits + 23)
word_is_last [] digits direction e = cc
word_is_last (word ∷ []) digits direction e = let same = (paired word digits ways.Either direction e).0 in (same, let n = ap length same in omega (arith, n))
word_is_last (command ∷ word ∷ []) digits direction e = by (bytes_eq command (codes "recv")) refl e
  where
    by : (b : Bool) → bytes_eq command (codes "recv") ≡ b → cond {A = Option (List ℕ × Direction)} b (Some (word, ways.FromTrain)) None ≡ Some (digits, direction) → (word ≡ digits) × (suc (length command) + (suc (length word) + 0) ≤ length digits + 23)
    by false is e = cc
    by true is e =
        let same = (paired word digits ways.FromTrain direction e).0 in
        let n = ap length same in
        let four = ap length ((bytes_eq-Decides command (codes "recv")).0 is) in
        (same, omega (arith, n, four))
word_is_last (engine ∷ input ∷ word ∷ []) digits direction e = by (is_some (decimal_of engine) && is_some (decimal_of input)) refl e
  where
    by : (b : Bool) → is_some (decimal_of engine) && is_some (decimal_of input) ≡ b → cond {A = Option (List ℕ × Direction)} b (Some (word, ways.ToTrain)) None ≡ Some (digits, direction)
        → (word ≡ digits) × (suc (length engine) + (suc (length input) + (suc (length word) + 0)) ≤ length digits + 23)
    by false is e = cc
    by true is e =
        let same = (paired word digits ways.ToTrain direction e).0 in
        let n = ap length same in
        let parts = and_parts (is_some (decimal_of engine)) (is_some (decimal_of input)) is in
        let first = fits_ten engine parts.0 in
        let second = fits_ten input parts.1 in
        (same, omega (arith, n, first, second))
word_is_last (engine ∷ input ∷ word ∷ more ∷ words) digits direction e = cc

-- L_MESSAGE has 10 bits
few_bytes : (bytes : List ℕ) → HasItsLength bytes → length bytes < 1024
few_bytes bytes has =
    let counted : value_at 8 10 (bits_of_bytes bytes) ≡ length bytes = has.1 in
    let below : value_at 8 10 (bits_of_bytes bytes) < 1024 = at_below 8 10 (bits_of_bytes bytes) (AreBits-bits_of_bytes bytes) in
    omega (arith, counted, below)

few_said : (to : Bool) (bytes text : List ℕ) → Says to bytes text → length bytes < 1024
few_said true bytes text (m, spells, is) = few_bytes bytes (to_train.again bytes m spells).sized
few_said false bytes text (m, spells, is) = few_bytes bytes (from_train.again bytes m spells).sized

few_digits : (direction : Direction) (digits text : List ℕ) → HasText direction digits text → length digits ≤ 2046
few_digits direction digits text (bytes, spelled, says) =
    let twice : length digits ≡ 2 * length bytes = (decode_of-ok digits bytes spelled).2 in
    let few = few_said (is_to_train direction bytes) bytes text says in
    omega (arith, twice, few)

-- a line that ends in a message is short
pub short_line : (line front text : List ℕ) → EndsInMessage line front text → length line ≤ 2068
short_line line front text ends =
    let few = few_digits ends.direction ends.digits text ends.says in
    let all = total_of_line is_space line in
    let word = (word_is_last (words_of line) ends.digits ends.direction ends.word).1 in
    omega (arith, few, all, word)

-- a line that is longer stays as it is, however it goes on
pub long_line : (begun : List ℕ) → 2068 < length begun → (more : List ℕ) → Decodes (begun ++ more) (begun ++ more)
long_line begun long more = inr (
  (λ front text ends. let short = short_line (begun ++ more) front text ends in let all = length-append begun more in omega (arith, short, all, long)),
  refl,
)

-- what stands before the digits
pub front_is : (line digits : List ℕ) (direction : Direction) → digits_in (words_of line) ≡ Some (digits, direction) → (front : List ℕ) × (line ≡ front ++ digits)
front_is line digits direction e =
    let is = ends_in_word is_space line in
    (is.0, is.1 ∙ ap (λ (word : List ℕ). is.0 ++ word) (word_is_last (words_of line) digits direction e).0)

-- the digits spell no message
pub no_message : (line digits : List ℕ) (direction : Direction) → digits_in (words_of line) ≡ Some (digits, direction) → ((text : List ℕ) → HasText direction digits text → ⊥) → Decodes line line
no_message line digits direction word none = inr ((λ front text ends. none text (same ends.digits ends.direction text (sym ends.word ∙ word) ends.says)), refl)
  where
    same : (other : List ℕ) (way : Direction) (text : List ℕ) → ◌≡◌ {A = Option (List ℕ × Direction)} (Some (other, way)) (Some (digits, direction)) → HasText way other text → HasText direction digits text
    same other way text e has =
        let both = paired other digits way direction e in
        subst (λ (x : List ℕ). HasText direction x text) both.0 (subst (λ (x : Direction). HasText x other text) both.1 has)

-- the digits spell a message
pub with_message : (line digits text : List ℕ) (direction : Direction) (front : List ℕ) → digits_in (words_of line) ≡ Some (digits, direction) → HasText direction digits text
    → front ≡ take (length line - length digits) line → Decodes line (front ++ text)
with_message line digits text direction front word has is =
    let parts = front_is line digits direction word in
    let count = ap length parts.1 ∙ length-append parts.0 digits in
    let less : length line - length digits ≡ length parts.0 = omega (arith, count) in
    let same : front ≡ parts.0 = is ∙ ap (λ n. take n line) less ∙ ap (take (length parts.0)) parts.1 ∙ take-append_seam parts.0 digits in
    inl (front, text, record { digits = digits; direction = direction; word = word; whole = parts.1 ∙ ap (λ (f : List ℕ). f ++ digits) (sym same); says = has }, refl)

-- there are four words or more
pub too_many_words : (line first second third behind : List ℕ) → words_of line ≡ first ∷ second ∷ third ∷ words_of behind → None ≡ digits_in (words_of line)
too_many_words line first second third behind e =
    let next = split_is_cons is_space behind in
    sym (ap digits_in (e ∙ ap (λ (words : List (List ℕ)). first ∷ second ∷ third ∷ words) next.2))
