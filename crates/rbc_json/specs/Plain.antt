-- What the text of a value has in it (own rule).
use Rattle.std.specs.Prelude.{◌≡◌, ℕ, ◌^◌, ◌<◌, ◌&&◌, nat_le, nat_abs, Bool, true, List}
use Rattle.std.specs.List.{list_all}
use Rattle.rbc_json.specs.Json.{Json, Null, Truth, Number, Text, Array, Object, Values, NoValue, Value, Fields, NoField, Field, json_text}

-- a printable byte of ASCII
abbrev pub is_plain : ℕ → Bool
is_plain byte = nat_le 32 byte && nat_le byte 126

-- each byte is a printable one, so that the text is in one line
abbrev pub are_plain : List ℕ → Bool
are_plain text = list_all is_plain text

-- this is the text of a value, and it is in one line
abbrev pub IsInOneLine : Json → List ℕ → Type 0
IsInOneLine value text = (json_text value ≡ text) × (are_plain text ≡ true)

-- the numbers of a value have at most 63 bits
abbrev mutual
  pub IsShort : Json → Type 0
  IsShort Null = Unit
  IsShort (Truth is) = Unit
  IsShort (Number n) = nat_abs n < 2 ^ 63
  IsShort (Text text) = Unit
  IsShort (Array values) = AreShort values
  IsShort (Object fields) = HaveShort fields

  pub AreShort : Values → Type 0
  AreShort NoValue = Unit
  AreShort (Value value more) = IsShort value × AreShort more

  pub HaveShort : Fields → Type 0
  HaveShort NoField = Unit
  HaveShort (Field key value more) = IsShort value × HaveShort more
