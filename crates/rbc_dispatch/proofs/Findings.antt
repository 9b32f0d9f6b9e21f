-- What was found for the arguments of a subcommand, and how it is read.
use Rattle.std.proofs.Common.{ap, sym, ◌∙◌, codes, ◌≡◌, ◌&&◌, ℕ, Bool, List, Option, Some, None, Result, Ok, Err, true, false, refl, option_and_then, option_map, unwrap_or, [], ◌∷◌, length, nat_lt, lt-ltb, ltb-true}
use Rattle.std.specs.Prelude.{if◌then◌else◌}
use Rattle.std.specs.Option.{option_map_or}
use Rattle.std.specs.Str.{bytes_eq}
use Rattle.std.specs.List.{list_all}
use Rattle.std.specs.Result.{result_ok, result_unwrap_or}
use Rattle.std.specs.Char.{digit_value}
use Rattle.std.specs.Str.Parse.{AllDigits, ParsesBool, ParsesUnsigned, digits_value, without_leading_plus}
use Rattle.std.proofs.lemmas.Slice.Eq.{bytes_eq-Decides}
use Rattle.clap.specs.Matches.{ReadsOne}
use Rattle.clap.specs.Walk.{Row, Text, byte_or_zero}
use Rattle.clap.proofs.WalkLemmas.{both, byte_read}
use Rattle.rbc_dispatch.specs.Words.{Asked, asked_in, asked_named, count_in, explain_asked, finding_in, live_asked, number_in, picture_asked, run_asked}

-- the subcommand that was used, and its rows
pub used_is : (used : Option (Text × List Row)) (name : Text) (rows : List Row) → option_map (λ p. p.0) used ≡ Some name → option_map (λ p. p.1) used ≡ Some rows → used ≡ Some (name, rows)
used_is None name rows named found = cc
used_is (Some p) name rows named found = ap Some (pair (ap (λ (o : Option Text). unwrap_or o []) named) (ap (λ (o : Option (List Row)). unwrap_or o []) found))
  where
    pair : p.0 ≡ name → p.1 ≡ rows → p ≡ (name, rows)
    pair first second = rw (← first, ← second) refl

-- a byte that was read of the text that was found, or 0 where none was
pub byte_found : {E : Type 0} (G : List ℕ → Result ℕ E → Type 0) (found : Option Text) (read : Option ℕ)
    → (found ≡ None → read ≡ None) → ((t : Text) → found ≡ Some t → ReadsOne G t read)
    → ((t : Text) (r : Result ℕ E) → G t r → ParsesUnsigned 8 10 t r) → unwrap_or read 0 ≡ option_map_or byte_or_zero found 0
byte_found G None read none value only = rw (none refl) refl
byte_found {E = E} G (Some t) read none value only = reads read (value t refl)
  where
    reads : (r : Option ℕ) → ReadsOne G t r → unwrap_or r 0 ≡ byte_or_zero t
    reads (Some v) h = byte_read {E = E} t (Ok v) (only t (Ok v) h)
    reads None h = byte_read {E = E} t (Err h.0) (only t (Err h.0) h.1)

-- ---- a count

digits_pass : (ds : List ℕ) → AllDigits 10 ds → list_all (λ d. nat_lt (digit_value d) 10) ds ≡ true
digits_pass [] h = refl
digits_pass (d ∷ ds) h = rw (lt-ltb (digit_value d) 10 h.0) (digits_pass ds h.1)

digits_from : (ds : List ℕ) → list_all (λ d. nat_lt (digit_value d) 10) ds ≡ true → AllDigits 10 ds
digits_from [] e = tt
digits_from (d ∷ ds) e =
    let parts = both _ _ e in
    (ltb-true _ _ parts.0, digits_from ds parts.1)

abbrev is_count : List ℕ → Bool
is_count ds = nat_lt 0 (length ds) && list_all (λ d. nat_lt (digit_value d) 10) ds && nat_lt (digits_value 10 ds) 18446744073709551616

-- a count that was read of a text, if it is one
count_read : {E : Type 0} (text : Text) (r : Result ℕ E) → ParsesUnsigned 64 10 text r → result_ok r ≡ count_in text
count_read text (Ok n) h =
    let ds = without_leading_plus text in
    rw (lt-ltb 0 (length ds) h.0.0.0, digits_pass ds h.0.0.1, lt-ltb (digits_value 10 ds) 18446744073709551616 h.0.1) (ap Some h.1)
count_read text (Err e) h = go (is_count (without_leading_plus text)) refl
  where
    go : (b : Bool) → is_count (without_leading_plus text) ≡ b → None ≡ count_in text
    go false t = rw t refl
    go true t =
        let outer = both _ _ t in
        let inner = both _ _ outer.0 in
        absurd (h ((ltb-true _ _ inner.0, digits_from (without_leading_plus text) inner.1), ltb-true _ _ outer.1))

-- a count that was read of the text that was found, if one was
pub count_found : {E : Type 0} (G : List ℕ → Result ℕ E → Type 0) (found : Option Text) (read : Option ℕ)
    → (found ≡ None → read ≡ None) → ((t : Text) → found ≡ Some t → ReadsOne G t read)
    → ((t : Text) (r : Result ℕ E) → G t r → ParsesUnsigned 64 10 t r) → read ≡ option_and_then count_in found
count_found G None read none value only = none refl
count_found {E = E} G (Some t) read none value only = reads read (value t refl)
  where
    reads : (r : Option ℕ) → ReadsOne G t r → r ≡ count_in t
    reads (Some v) h = count_read {E = E} t (Ok v) (only t (Ok v) h)
    reads None h = count_read {E = E} t (Err h.0) (only t (Err h.0) h.1)

-- ---- a number

abbrev is_number : List ℕ → Bool
is_number ds = nat_lt 0 (length ds) && list_all (λ d. nat_lt (digit_value d) 10) ds && nat_lt (digits_value 10 ds) 4294967296

-- a number that was read of a text, if it is one
pub number_read : {E : Type 0} (text : Text) (r : Result ℕ E) → ParsesUnsigned 32 10 text r → result_ok r ≡ number_in text
number_read text (Ok n) h =
    let ds = without_leading_plus text in
    rw (lt-ltb 0 (length ds) h.0.0.0, digits_pass ds h.0.0.1, lt-ltb (digits_value 10 ds) 4294967296 h.0.1) (ap Some h.1)
number_read text (Err e) h = go (is_number (without_leading_plus text)) refl
  where
    go : (b : Bool) → is_number (without_leading_plus text) ≡ b → None ≡ number_in text
    go false t = rw t refl
    go true t =
        let outer = both _ _ t in
        let inner = both _ _ outer.0 in
        absurd (h ((ltb-true _ _ inner.0, digits_from (without_leading_plus text) inner.1), ltb-true _ _ outer.1))

-- a number that was read of the text that was found, if one was
pub number_found : {E : Type 0} (G : List ℕ → Result ℕ E → Type 0) (found : Option Text) (read : Option ℕ)
    → (found ≡ None → read ≡ None) → ((t : Text) → found ≡ Some t → ReadsOne G t read)
    → ((t : Text) (r : Result ℕ E) → G t r → ParsesUnsigned 32 10 t r) → read ≡ option_and_then number_in found
number_found G None read none value only = none refl
number_found {E = E} G (Some t) read none value only = reads read (value t refl)
  where
    reads : (r : Option ℕ) → ReadsOne G t r → r ≡ number_in t
    reads (Some v) h = number_read {E = E} t (Ok v) (only t (Ok v) h)
    reads None h = number_read {E = E} t (Err h.0) (only t (Err h.0) h.1)

-- ---- a flag

-- the text of a flag is "true"
abbrev pub is_set : Option Text → Bool
is_set text = option_map_or (λ word. bytes_eq word (codes "true")) text false

-- a flag that was read of a text
flag_read : {E : Type 0} (text : Text) (r : Result Bool E) → ParsesBool text r → result_unwrap_or r false ≡ is_set (Some text)
flag_read text (Ok true) h = sym ((bytes_eq-Decides text (codes "true")).1 h)
flag_read text (Ok false) h = rw h refl
flag_read text (Err e) h = go (bytes_eq text (codes "true")) refl
  where
    go : (b : Bool) → bytes_eq text (codes "true") ≡ b → false ≡ b
    go false t = refl
    go true t = absurd (h.0 ((bytes_eq-Decides text (codes "true")).0 t))

-- a flag that was read of the text that was found, or no flag where none was
pub flag_found : {E : Type 0} (G : List ℕ → Result Bool E → Type 0) (found : Option Text) (read : Option Bool)
    → (found ≡ None → read ≡ None) → ((t : Text) → found ≡ Some t → ReadsOne G t read)
    → ((t : Text) (r : Result Bool E) → G t r → ParsesBool t r) → unwrap_or read false ≡ is_set found
flag_found G None read none value only = rw (none refl) refl
flag_found {E = E} G (Some t) read none value only = reads read (value t refl)
  where
    reads : (r : Option Bool) → ReadsOne G t r → unwrap_or r false ≡ is_set (Some t)
    reads (Some v) h = flag_read {E = E} t (Ok v) (only t (Ok v) h)
    reads None h = flag_read {E = E} t (Err h.0) (only t (Err h.0) h.1)

-- ---- what words ask for, by the rows of a subcommand

-- what was found for the arguments of the subcommand of this name
abbrev pub found_after : Text → Option (Text × List Row) → Option (List Row)
found_after name None = None
found_after name (Some p) = if bytes_eq p.0 name then Some p.1 else None

named_so : (p : Text × List Row) (name : Text) (rows : List Row) (b : Bool) → bytes_eq p.0 name ≡ b → (if b then Some p.1 else None) ≡ Some rows → (p.0 ≡ name) × (p.1 ≡ rows)
named_so p name rows true is found = ((bytes_eq-Decides p.0 name).0 is, ap (λ (o : Option (List Row)). unwrap_or o []) found)
named_so p name rows false is found = cc

by_rows : (words : List Text) (name : Text) (found : Option (Text × List Row)) (rows : List Row) → found_after name found ≡ Some rows → asked_in words found ≡ asked_named words name rows
by_rows words name None rows is = cc
by_rows words name (Some p) rows is =
    let same = named_so p name rows (bytes_eq p.0 name) refl is in
    ap (λ (n : Text). asked_named words n p.1) same.0 ∙ ap (λ (rs : List Row). asked_named words name rs) same.1

pub run_by : (words : List Text) {rows : List Row} {asked : Asked} → found_after (codes "run") (finding_in words) ≡ Some rows → run_asked rows ≡ Some asked → asked_in words (finding_in words) ≡ Some asked
run_by words is asked = by_rows words (codes "run") (finding_in words) _ is ∙ asked

pub explain_by : (words : List Text) {rows : List Row} {asked : Asked} → found_after (codes "explain") (finding_in words) ≡ Some rows → explain_asked rows ≡ Some asked → asked_in words (finding_in words) ≡ Some asked
explain_by words is asked = by_rows words (codes "explain") (finding_in words) _ is ∙ asked

pub picture_by : (words : List Text) {rows : List Row} {asked : Asked} → found_after (codes "picture") (finding_in words) ≡ Some rows → picture_asked rows ≡ Some asked → asked_in words (finding_in words) ≡ Some asked
picture_by words is asked = by_rows words (codes "picture") (finding_in words) _ is ∙ asked

pub live_by : (words : List Text) {rows : List Row} {asked : Asked} → found_after (codes "live") (finding_in words) ≡ Some rows → live_asked rows ≡ Some asked → asked_in words (finding_in words) ≡ Some asked
live_by words is asked = by_rows words (codes "live") (finding_in words) _ is ∙ asked
