-- The text of a value is plain.
use Rattle.std.proofs.Common.{◌≡◌, ◌∙◌, ℕ, ◌+◌, ◌-◌, ◌/◌, ◌%◌, ◌^◌, ◌<◌, ◌≤◌, ◌==◌, ◌||◌, ◌&&◌, Bool, true, false, List, [], ◌∷◌, ◌++◌, arith, refl, sym, if◌then◌else◌, nat_lt, nat_le, nat_abs, codes, ℤ, pos, negsuc, suc}
use Rattle.std.specs.Fmt.{decimal, signed_decimal}
use Rattle.std.proofs.lemmas.Fmt.{decimal_by_steps}
use Rattle.std.proofs.lemmas.List.Folds.{list_all-append}
use Rattle.std.proofs.lemmas.Bool.{and_from}
use Rattle.rbc_json.specs.Json.{Json, Null, Truth, Number, Text, Array, Object, Values, NoValue, Value, Fields, NoField, Field}
use Rattle.rbc_json.specs.Json.{json_text, values_text, fields_text, characters_text, character_text, unit_text, hex_digit}
use Rattle.rbc_json.specs.Plain.{is_plain, are_plain, IsShort, AreShort, HaveShort}

appended : (xs ys : List ℕ) → are_plain xs ≡ true → are_plain ys ≡ true → are_plain (xs ++ ys) ≡ true
appended xs ys one two = list_all-append is_plain xs ys ∙ and_from (are_plain xs) (are_plain ys) one two

within : (byte : ℕ) → 32 ≤ byte → byte ≤ 126 → is_plain byte ≡ true
within byte low high = grind arith

one_byte : (byte : ℕ) → 32 ≤ byte → byte ≤ 126 → are_plain (byte ∷ []) ≡ true
one_byte byte low high = and_from (is_plain byte) true (within byte low high) refl

hex_plain : (n : ℕ) → n < 16 → is_plain (hex_digit n) ≡ true
hex_plain n small = grind arith

unit_plain : (n : ℕ) → are_plain (unit_text n) ≡ true
unit_plain n =
    and_from (is_plain (hex_digit (n / 4096 % 16))) _ (hex_plain (n / 4096 % 16) (omega arith))
    (and_from (is_plain (hex_digit (n / 256 % 16))) _ (hex_plain (n / 256 % 16) (omega arith))
    (and_from (is_plain (hex_digit (n / 16 % 16))) _ (hex_plain (n / 16 % 16) (omega arith))
    (and_from (is_plain (hex_digit (n % 16))) true (hex_plain (n % 16) (omega arith)) refl)))

-- by what a character is
chosen : (c : ℕ) (is_marked is_shown is_short : Bool) → is_marked ≡ (c == 34 || c == 92) → is_shown ≡ (nat_le 32 c && nat_le c 126)
    → are_plain (if is_marked then 92 ∷ c ∷ [] else if is_shown then c ∷ [] else if is_short then unit_text c
    else unit_text (55296 + (c - 65536) / 1024) ++ unit_text (56320 + (c - 65536) % 1024)) ≡ true
chosen c true is_shown is_short marked shown = let high : is_plain c ≡ true = grind arith in and_from (is_plain c) true high refl
chosen c false true is_short marked shown = and_from (is_plain c) true (sym shown) refl
chosen c false false true marked shown = unit_plain c
chosen c false false false marked shown = appended (unit_text (55296 + (c - 65536) / 1024)) (unit_text (56320 + (c - 65536) % 1024)) (unit_plain (55296 + (c - 65536) / 1024)) (unit_plain (56320 + (c - 65536) % 1024))

character_plain : (c : ℕ) → are_plain (character_text c) ≡ true
character_plain c = chosen c (c == 34 || c == 92) (nat_le 32 c && nat_le c 126) (nat_lt c 65536) refl refl

characters_plain : (text : List ℕ) → are_plain (characters_text text) ≡ true
characters_plain [] = refl
characters_plain (c ∷ more) = appended (character_text c) (characters_text more) (character_plain c) (characters_plain more)

decimal_plain : (n : ℕ) → n < 2 ^ 64 → are_plain (decimal n) ≡ true
decimal_plain =
    decimal_by_steps (λ n text. are_plain text ≡ true) (λ n small. one_byte (48 + n) (omega arith) (omega arith))
    (λ n text more before. appended text ((48 + n % 10) ∷ []) before (one_byte (48 + n % 10) (omega arith) (omega arith)))

number_plain : (n : ℤ) → nat_abs n < 2 ^ 63 → are_plain (signed_decimal n) ≡ true
number_plain (pos n) short = decimal_plain n (omega (arith, short))
number_plain (negsuc n) short = decimal_plain (suc n) (omega (arith, short))

mutual
  pub value_plain : (value : Json) → IsShort value → are_plain (json_text value) ≡ true
  value_plain Null short = refl
  value_plain (Truth true) short = refl
  value_plain (Truth false) short = refl
  value_plain (Number n) short = number_plain n short
  value_plain (Text text) short = appended (characters_text text) (34 ∷ []) (characters_plain text) refl
  value_plain (Array values) short = values_plain values [] short refl
  value_plain (Object fields) short = fields_plain fields [] short refl

  values_plain : (values : Values) (before : List ℕ) → AreShort values → are_plain before ≡ true → are_plain (values_text before values) ≡ true
  values_plain NoValue before short plain = refl
  values_plain (Value value more) before short plain =
      appended before (json_text value ++ values_text (codes ",") more) plain
      (appended (json_text value) (values_text (codes ",") more) (value_plain value short.0) (values_plain more (codes ",") short.1 refl))

  fields_plain : (fields : Fields) (before : List ℕ) → HaveShort fields → are_plain before ≡ true → are_plain (fields_text before fields) ≡ true
  fields_plain NoField before short plain = refl
  fields_plain (Field key value more) before short plain =
      appended before (34 ∷ (characters_text key ++ (34 ∷ 58 ∷ (json_text value ++ fields_text (codes ",") more)))) plain
      (appended (characters_text key) (34 ∷ 58 ∷ (json_text value ++ fields_text (codes ",") more)) (characters_plain key)
      (appended (json_text value) (fields_text (codes ",") more) (value_plain value short.0) (fields_plain more (codes ",") short.1 refl)))
