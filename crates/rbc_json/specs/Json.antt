-- A value of JSON and how it is written (RFC 8259; own rules: no space, ASCII alone, keys in the order given).
use Rattle.std.specs.Prelude.{ℕ, ◌+◌, ◌-◌, ◌/◌, ◌%◌, ◌==◌, ◌||◌, ◌&&◌, nat_le, nat_lt, ℤ, pos, Bool, true, false, if◌then◌else◌, List, [], ◌∷◌, ◌++◌, codes}
use Rattle.std.specs.Fmt.{signed_decimal}

-- A value. A text is a list of characters, an object its keys with their values, in order.
mutual
  pub data Json : Type 0 where
    Null : Json
    Truth : Bool → Json
    Number : ℤ → Json
    Text : List ℕ → Json
    Array : Values → Json
    Object : Fields → Json

  pub data Values : Type 0 where
    NoValue : Values
    Value : Json → Values → Values

  pub data Fields : Type 0 where
    NoField : Fields
    Field : List ℕ → Json → Fields → Fields

-- ---- how a text is written

-- a digit of 0 to 15, in lower case
abbrev pub hex_digit : ℕ → ℕ
hex_digit n = if nat_lt n 10 then 48 + n else 87 + n

-- a unit of UTF-16 as `\uXXXX`
abbrev pub unit_text : ℕ → List ℕ
unit_text n = 92 ∷ 117 ∷ hex_digit (n / 4096 % 16) ∷ hex_digit (n / 256 % 16) ∷ hex_digit (n / 16 % 16) ∷ hex_digit (n % 16) ∷ []

-- A character in a text: `"` (34) and `\` (92) behind a `\`, any other of 32 to 126 as itself, and the rest as one unit of
-- UTF-16, or two.
abbrev pub character_text : ℕ → List ℕ
character_text c =
    if c == 34 || c == 92 then 92 ∷ c ∷ []
    else if nat_le 32 c && nat_le c 126 then c ∷ []
    else if nat_lt c 65536 then unit_text c
    else unit_text (55296 + (c - 65536) / 1024) ++ unit_text (56320 + (c - 65536) % 1024)

abbrev pub characters_text : List ℕ → List ℕ
characters_text [] = []
characters_text (c ∷ more) = character_text c ++ characters_text more

-- ---- how a value is written

abbrev mutual
  pub json_text : Json → List ℕ
  json_text Null = codes "null"
  json_text (Truth true) = codes "true"
  json_text (Truth false) = codes "false"
  json_text (Number n) = signed_decimal n
  json_text (Text text) = 34 ∷ (characters_text text ++ 34 ∷ [])
  json_text (Array values) = 91 ∷ values_text [] values
  json_text (Object fields) = 123 ∷ fields_text [] fields

  -- values up to the end of their list, the first one behind these characters
  pub values_text : List ℕ → Values → List ℕ
  values_text before NoValue = 93 ∷ []
  values_text before (Value value more) = before ++ (json_text value ++ values_text (codes ",") more)

  -- the same for the fields of an object
  pub fields_text : List ℕ → Fields → List ℕ
  fields_text before NoField = 125 ∷ []
  fields_text before (Field key value more) =
      before ++ (34 ∷ (characters_text key ++ (34 ∷ 58 ∷ (json_text value ++ fields_text (codes ",") more))))

-- ---- short ways to name values

abbrev pub number : ℕ → Json
number n = Number (pos n)

abbrev pub values_of : List Json → Values
values_of [] = NoValue
values_of (value ∷ more) = Value value (values_of more)

abbrev pub array : List Json → Json
array values = Array (values_of values)

abbrev pub fields_of : List (List ℕ × Json) → Fields
fields_of [] = NoField
fields_of ((key, value) ∷ more) = Field key value (fields_of more)

abbrev pub object : List (List ℕ × Json) → Json
object fields = Object (fields_of fields)

-- ---- an object in pieces

-- fields, the first one behind these characters, and then a text
abbrev pub fields_before : List ℕ → List (List ℕ × Json) → List ℕ → List ℕ
fields_before before [] rest = rest
fields_before before ((key, value) ∷ more) rest =
    before ++ (34 ∷ (characters_text key ++ (34 ∷ 58 ∷ (json_text value ++ fields_before (codes ",") more rest))))

-- how an object begins that has these fields first
abbrev pub opened : List (List ℕ × Json) → List ℕ
opened fields = 123 ∷ fields_before [] fields []

-- further fields of an object
abbrev pub middle : List (List ℕ × Json) → List ℕ
middle fields = fields_before (codes ",") fields []

-- how an object ends that has these fields last
abbrev pub closed : List (List ℕ × Json) → List ℕ
closed fields = fields_text (codes ",") (fields_of fields)
