-- The words of a line that goes on, and how long they are.
use Rattle.std.proofs.Common.{◌≡◌, ℕ, suc, ◌+◌, ◌<◌, ◌≤◌, Bool, true, false, cond, List, [], ◌∷◌, length, take, drop, Option, Some, None, ◌⊎◌, inl, inr, eqb, refl, sym, ap, ◌∙◌, subst, arith, length-take, length-drop}
use Rattle.std.specs.Prelude.{codes, nat_le, ◌&&◌, option_map}
use Rattle.std.specs.List.{slice_split, onto_first, before_first, after_first, list_all, position_or_len}
use Rattle.std.specs.Str.{bytes_eq}
use Rattle.std.specs.Option.{unwrap_or}
use Rattle.std.proofs.lemmas.Bool.{cases_lt, and_parts, ne_eqb}
use Rattle.std.proofs.lemmas.Bool.Decides.{nat_tests}
use Rattle.std.proofs.lemmas.List.Splits.{slice_split-cons_no}
use Rattle.std.proofs.lemmas.Slice.Eq.{bytes_eq-Decides}
use Rattle.hex.specs.Hex.{is_hex_digit}
use Rattle.rbc_zones.specs.declared.segment.Segment.{Segment}
use Rattle.rbc_zones.specs.declared.limit.Dirs.{Dirs}
use Rattle.rbc_zones.specs.declared.limit.Dirs.TheVariants.{Up, Down, Both}
use Rattle.rbc_rule.specs.declared.input.Input.{Input}
use Rattle.rbc_rule.specs.declared.input.Input.TheVariants.{Bad}
use Rattle.rbc_text.specs.BatchText.{is_space, is_colon, is_dash, is_digit, words_of, value_of, decimal_of, segment_from, segment_of, enrolment_from, enrolment_of, withdrawal_from, withdrawal_of, number_of, dirs_of, front_of, restriction_from, restriction_of, Line, Spelled, message_of, stop_of, line_of_words, line_of}
use Rattle.ertms_codec.proofs.Cuts.{split_is_cons}

-- ---- pieces

abbrev first_of : {X : Type 0} → List (List X) → List X
first_of [] = []
first_of (piece ∷ pieces) = piece

piece_step : {X : Type 0} (p : X → Bool) (x : X) (xs first begun : List X) (more rest : List (List X)) (b : Bool) → p x ≡ b → slice_split p xs ≡ begun ∷ rest → slice_split p begun ≡ begun ∷ []
    → cond b ([] ∷ slice_split p xs) (onto_first x (slice_split p xs)) ≡ first ∷ more → slice_split p first ≡ first ∷ []
piece_step {X} p x xs first begun more rest true is split whole e = subst (λ (piece : List X). slice_split p piece ≡ piece ∷ []) (ap first_of e) refl
piece_step {X} p x xs first begun more rest false is split whole e =
    let same : x ∷ begun ≡ first = sym (ap (λ (pieces : List (List X)). first_of (onto_first x pieces)) split) ∙ ap first_of e in
    subst (λ (piece : List X). slice_split p piece ≡ piece ∷ []) same (slice_split-cons_no p x begun is ∙ ap (onto_first x) whole)

-- the first piece has no separator
pub first_is_whole : {X : Type 0} (p : X → Bool) (xs first : List X) (more : List (List X)) → slice_split p xs ≡ first ∷ more → slice_split p first ≡ first ∷ []
first_is_whole {X} p [] first more e = subst (λ (piece : List X). slice_split p piece ≡ piece ∷ []) (ap first_of e) refl
first_is_whole p (x ∷ xs) first more e =
    let is = split_is_cons p xs in
    piece_step p x xs first is.0 more is.1 (p x) refl is.2 (first_is_whole p xs is.0 is.1 is.2) e

abbrev second_of : List (List ℕ) → List ℕ
second_of [] = []
second_of (first ∷ []) = []
second_of (first ∷ second ∷ words) = second

-- what stands behind the first space begins with the second word
pub second_is : (line second behind word : List ℕ) (others : List (List ℕ)) → words_of line ≡ word ∷ words_of behind → words_of behind ≡ second ∷ others
    → (a b : List ℕ) (rest : List (List ℕ)) → words_of line ≡ a ∷ b ∷ rest → (second ≡ b) × (words_of second ≡ second ∷ [])
second_is line second behind word others e f = λ a b rest is. (
  ap second_of (sym (e ∙ ap (λ (words : List (List ℕ)). word ∷ words) f) ∙ is),
  first_is_whole is_space behind second others f,
)

-- ---- lengths

-- how long words are, with a space behind each
abbrev pub room_of : List (List ℕ) → ℕ
room_of [] = 0
room_of (word ∷ words) = suc (length word) + room_of words

room_onto : (x : ℕ) (pieces : List (List ℕ)) (first : List ℕ) (more : List (List ℕ)) → pieces ≡ first ∷ more → room_of (onto_first x pieces) ≡ suc (room_of pieces)
room_onto x [] first more e = cc
room_onto x (piece ∷ pieces) first more e = omega arith

pub room_of_pieces : (p : ℕ → Bool) (text : List ℕ) → room_of (slice_split p text) ≡ suc (length text)
room_of_pieces p [] = refl
room_of_pieces p (x ∷ xs) =
    let is = split_is_cons p xs in
    let rest = room_of_pieces p xs in
    elim (p x) as (λ b. room_of (cond b ([] ∷ slice_split p xs) (onto_first x (slice_split p xs))) ≡ suc (suc (length xs))) [
      | true ↦ omega (arith, rest)
      | false ↦ room_onto x (slice_split p xs) is.0 is.1 is.2 ∙ ap suc rest
    ]

too_long : (n most : ℕ) → most < n → nat_le n most ≡ false
too_long n most long = grind (arith, nat_tests)

no_decimal : (a b c d : Bool) (value : ℕ) → b ≡ false → cond ((a && (b && c)) && d) (Some value) None ≡ None
no_decimal true true c d value e = cc e
no_decimal true false c d value e = refl
no_decimal false b c d value e = refl

-- a long word is no number
pub long_decimal : (word : List ℕ) → 10 < length word → decimal_of word ≡ None
long_decimal word long =
    no_decimal (nat_le 1 (length word)) (nat_le (length word) 10) (list_all is_digit word) (nat_le (value_of word) 4294967295) (value_of word) (too_long (length word) 10 long)

within_parts : (place : ℕ) (xs : List ℕ) → length xs ≤ length (take place xs) + (length (drop (place + 1) xs) + 1)
within_parts place xs = let front = length-take place xs in let behind = length-drop (place + 1) xs in grind (arith, front, behind)

no_line : (from to : Option ℕ) → segment_from None from to ≡ None
no_line from to = refl

no_from : (line to : Option ℕ) → segment_from line None to ≡ None
no_from None to = refl
no_from (Some line) to = refl

no_to : (line from : Option ℕ) → segment_from line from None ≡ None
no_to None from = refl
no_to (Some line) None = refl
no_to (Some line) (Some from) = refl

-- a long word is no segment
pub long_segment : (word : List ℕ) → 32 < length word → segment_of word ≡ None
long_segment word long =
    let line = before_first is_colon word in
    let places = after_first is_colon word in
    let from = before_first is_dash places in
    let to = after_first is_dash places in
    let whole : length word ≤ length line + (length places + 1) = within_parts (position_or_len is_colon word) word in
    let ends : length places ≤ length from + (length to + 1) = within_parts (position_or_len is_dash places) places in
    elim (cases_lt 10 (length line)) [
      | inl a ↦ ap (λ (o : Option ℕ). segment_from o (decimal_of from) (decimal_of to)) (long_decimal line a)
      | inr a ↦
          elim (cases_lt 10 (length from)) [
            | inl b ↦ ap (λ (o : Option ℕ). segment_from (decimal_of line) o (decimal_of to)) (long_decimal from b) ∙ no_from (decimal_of line) (decimal_of to)
            | inr b ↦
                ap (segment_from (decimal_of line) (decimal_of from)) (long_decimal to (omega (arith, long, whole, ends, a, b))) ∙ no_to (decimal_of line) (decimal_of from)
          ]
    ]

-- ---- the commands

no_length : (engine : Option ℕ) → enrolment_from engine None ≡ None
no_length None = refl
no_length (Some engine) = refl

long_enrolment : (words : List (List ℕ)) → 200 < room_of words → enrolment_of words ≡ None
long_enrolment [] long = refl
long_enrolment (engine ∷ []) long = refl
long_enrolment (engine ∷ train_length ∷ []) long =
    elim (cases_lt 10 (length engine)) [
      | inl a ↦ ap (λ (o : Option ℕ). enrolment_from o (decimal_of train_length)) (long_decimal engine a)
      | inr a ↦ ap (enrolment_from (decimal_of engine)) (long_decimal train_length (omega (arith, long, a))) ∙ no_length (decimal_of engine)
    ]
long_enrolment (engine ∷ train_length ∷ word ∷ words) long = refl

long_withdrawal : (words : List (List ℕ)) → 200 < room_of words → withdrawal_of words ≡ None
long_withdrawal [] long = refl
long_withdrawal (engine ∷ []) long = ap withdrawal_from (long_decimal engine (omega (arith, long)))
long_withdrawal (engine ∷ word ∷ words) long = refl

long_number : (words : List (List ℕ)) → 200 < room_of words → number_of words ≡ None
long_number [] long = refl
long_number (number ∷ []) long = long_decimal number (omega (arith, long))
long_number (number ∷ word ∷ words) long = refl

pub is_other : (word name : List ℕ) → ¬ (word ≡ name) → bytes_eq word name ≡ false
is_other word name other = by (bytes_eq word name) (bytes_eq-Decides word name).0
  where
    by : (b : Bool) → (b ≡ true → word ≡ name) → b ≡ false
    by true same = absurd (other (same refl))
    by false same = refl

long_other : (word name : List ℕ) → length name < length word → bytes_eq word name ≡ false
long_other word name long = is_other word name (λ same. let e = ap length same in absurd (omega (arith, long, e)))

no_dirs : (a b c : Bool) → a ≡ false → b ≡ false → c ≡ false → cond {A = Option Dirs} a (Some Up) (cond b (Some Down) (cond c (Some Both) None)) ≡ None
no_dirs true b c ea eb ec = cc ea
no_dirs false true c ea eb ec = cc eb
no_dirs false false true ea eb ec = cc ec
no_dirs false false false ea eb ec = refl

long_dirs : (word : List ℕ) → 4 < length word → dirs_of word ≡ None
long_dirs word long =
    no_dirs (bytes_eq word (codes "up")) (bytes_eq word (codes "down")) (bytes_eq word (codes "both"))
    (long_other word (codes "up") (omega (arith, long))) (long_other word (codes "down") (omega (arith, long))) (long_other word (codes "both") (omega (arith, long)))

no_front : (a b : Bool) → a ≡ false → b ≡ false → cond {A = Option Bool} a (Some false) (cond b (Some true) None) ≡ None
no_front true b ea eb = cc ea
no_front false true ea eb = cc eb
no_front false false ea eb = refl

long_front : (word : List ℕ) → 1 < length word → front_of word ≡ None
long_front word long =
    no_front (bytes_eq word (codes "0")) (bytes_eq word (codes "1")) (long_other word (codes "0") (omega (arith, long))) (long_other word (codes "1") (omega (arith, long)))

-- a restriction lacks one of its values
lacking : (n : Option ℕ) (s : Option Segment) (d : Option Dirs) (v : Option ℕ) (f : Option Bool) → (n ≡ None) ⊎ ((s ≡ None) ⊎ ((d ≡ None) ⊎ ((v ≡ None) ⊎ (f ≡ None)))) → restriction_from n s d v f ≡ None
lacking None s d v f some = refl
lacking (Some n) None d v f some = refl
lacking (Some n) (Some s) None v f some = refl
lacking (Some n) (Some s) (Some d) None f some = refl
lacking (Some n) (Some s) (Some d) (Some v) None some = refl
lacking (Some n) (Some s) (Some d) (Some v) (Some f) (inl e) = cc e
lacking (Some n) (Some s) (Some d) (Some v) (Some f) (inr (inl e)) = cc e
lacking (Some n) (Some s) (Some d) (Some v) (Some f) (inr (inr (inl e))) = cc e
lacking (Some n) (Some s) (Some d) (Some v) (Some f) (inr (inr (inr (inl e)))) = cc e
lacking (Some n) (Some s) (Some d) (Some v) (Some f) (inr (inr (inr (inr e)))) = cc e

long_restriction : (words : List (List ℕ)) → 200 < room_of words → restriction_of words ≡ None
long_restriction [] long = refl
long_restriction (n ∷ []) long = refl
long_restriction (n ∷ s ∷ []) long = refl
long_restriction (n ∷ s ∷ d ∷ []) long = refl
long_restriction (n ∷ s ∷ d ∷ v ∷ []) long = refl
long_restriction (n ∷ s ∷ d ∷ v ∷ f ∷ []) long =
    lacking (decimal_of n) (segment_of s) (dirs_of d) (decimal_of v) (front_of f)
    (elim (cases_lt 10 (length n)) [
      | inl a ↦ inl (long_decimal n a)
      | inr a ↦
          inr (elim (cases_lt 32 (length s)) [
            | inl b ↦ inl (long_segment s b)
            | inr b ↦
                inr (elim (cases_lt 4 (length d)) [
                  | inl e ↦ inl (long_dirs d e)
                  | inr e ↦
                      inr (elim (cases_lt 10 (length v)) [
                        | inl g ↦ inl (long_decimal v g)
                        | inr g ↦ inr (long_front f (omega (arith, long, a, b, e, g)))
                      ])
                ])
          ])
    ])
long_restriction (n ∷ s ∷ d ∷ v ∷ f ∷ word ∷ words) long = refl

-- each command, where it spells nothing
chosen : (r e w s l t f : Bool) (message : Option Line) (enrol withdraw stop release restrict lift : Option Input)
    → (r ≡ true → message ≡ None) → (e ≡ true → enrol ≡ None) → (w ≡ true → withdraw ≡ None) → (s ≡ true → stop ≡ None) → (l ≡ true → release ≡ None) → (t ≡ true → restrict ≡ None)
    → (f ≡ true → lift ≡ None)
    → cond r message (option_map Spelled (cond e enrol (cond w withdraw (cond s stop (cond l release (cond t restrict (cond f lift None))))))) ≡ None
chosen true e w s l t f message enrol withdraw stop release restrict lift hr he hw hs hl ht hf = hr refl
chosen false true w s l t f message enrol withdraw stop release restrict lift hr he hw hs hl ht hf = ap (option_map Spelled) (he refl)
chosen false false true s l t f message enrol withdraw stop release restrict lift hr he hw hs hl ht hf = ap (option_map Spelled) (hw refl)
chosen false false false true l t f message enrol withdraw stop release restrict lift hr he hw hs hl ht hf = ap (option_map Spelled) (hs refl)
chosen false false false false true t f message enrol withdraw stop release restrict lift hr he hw hs hl ht hf = ap (option_map Spelled) (hl refl)
chosen false false false false false true f message enrol withdraw stop release restrict lift hr he hw hs hl ht hf = ap (option_map Spelled) (ht refl)
chosen false false false false false false true message enrol withdraw stop release restrict lift hr he hw hs hl ht hf = ap (option_map Spelled) (hf refl)
chosen false false false false false false false message enrol withdraw stop release restrict lift hr he hw hs hl ht hf = refl

-- the words behind a short name are long
behind : (word name : List ℕ) (words : List (List ℕ)) → bytes_eq word name ≡ true → length name ≤ 8 → 1000 < room_of (word ∷ words) → 200 < room_of words
behind word name words is short long =
    let same = ap length ((bytes_eq-Decides word name).0 is) in
    omega (arith, same, short, long)

-- many long words spell nothing, unless they are a message or a stop
pub long_words : (word : List ℕ) (words : List (List ℕ)) → (bytes_eq word (codes "recv") ≡ true → message_of words ≡ None) → (bytes_eq word (codes "stop") ≡ true → stop_of words ≡ None)
    → 1000 < room_of (word ∷ words) → line_of_words (word ∷ words) ≡ None
long_words word words no_message no_stop long =
    chosen (bytes_eq word (codes "recv")) (bytes_eq word (codes "enrol")) (bytes_eq word (codes "withdraw")) (bytes_eq word (codes "stop")) (bytes_eq word (codes "release")) (bytes_eq word (codes "restrict"))
    (bytes_eq word (codes "lift")) (message_of words) (enrolment_of words) (withdrawal_of words) (stop_of words) _ (restriction_of words) _ no_message
    (λ is. long_enrolment words (behind word (codes "enrol") words is (omega arith) long)) (λ is. long_withdrawal words (behind word (codes "withdraw") words is (omega arith) long)) no_stop
    (λ is. ap (option_map _) (long_number words (behind word (codes "release") words is (omega arith) long)))
    (λ is. long_restriction words (behind word (codes "restrict") words is (omega arith) long))
    (λ is. ap (option_map _) (long_number words (behind word (codes "lift") words is (omega arith) long)))

-- a line whose words spell nothing
pub spells_nothing : (line : List ℕ) (words : List (List ℕ)) → words_of line ≡ words → line_of_words words ≡ None → line_of line ≡ Spelled (Bad 1)
spells_nothing line words e none = ap (λ (o : Option Line). unwrap_or o (Spelled (Bad 1))) (ap line_of_words e ∙ none)

-- ---- hexadecimal digits

other : (none digit : ℕ) → is_hex_digit none ≡ false → is_hex_digit digit ≡ true → eqb digit none ≡ false
other none digit not_one one = ne_eqb digit none (λ same. let bad : true ≡ false = sym one ∙ ap is_hex_digit same ∙ not_one in absurd cc)

-- digits are one word
pub digits_are_one : (text : List ℕ) → list_all is_hex_digit text ≡ true → words_of text ≡ text ∷ []
digits_are_one [] digits = refl
digits_are_one (digit ∷ text) digits =
    let parts = and_parts (is_hex_digit digit) (list_all is_hex_digit text) digits in
    slice_split-cons_no is_space digit text (other 32 digit refl parts.0) ∙ ap (onto_first digit) (digits_are_one text parts.1)
