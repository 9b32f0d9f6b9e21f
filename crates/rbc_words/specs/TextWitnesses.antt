-- Worked cases of texts of messages: texts that are encoded, with the bytes, and texts that are refused, with the
-- first wrong word (own rule).
use Rattle.std.specs.Prelude.{ℕ, ◌+◌, ◌-◌, ◌*◌, List, [], ◌∷◌, ◌==◌, nat_lt, if◌then◌else◌}
use Rattle.std.specs.List.{slice_split}
use Rattle.ertms_codec.specs.declared.wrong_word.Expected.{Expected}
use Rattle.ertms_codec.specs.Encoding.{Encodes}
use Rattle.ertms_codec.specs.Grammar.{FirstWrong, message, wrong_at}

-- the value of a hexadecimal digit, 0 to 9 or A to F
abbrev pub digit_of : ℕ → ℕ
digit_of code = if nat_lt code 58 then code - 48 else code - 55

-- the bytes that hexadecimal digits write, two digits each
abbrev pub bytes_of_hex : List ℕ → List ℕ
bytes_of_hex [] = []
bytes_of_hex (high ∷ []) = []
bytes_of_hex (high ∷ (low ∷ digits)) = (digit_of high * 16 + digit_of low) ∷ bytes_of_hex digits

-- a text is encoded to the bytes that these digits write
abbrev pub IsEncoded : List ℕ → List ℕ → Type 0
IsEncoded text digits = Encodes text (bytes_of_hex digits)

-- the first wrong word of a text has this number, and this can stand in its place
abbrev pub IsWrongAt : List ℕ → ℕ → Expected → Type 0
IsWrongAt text index expected = FirstWrong 1 message (slice_split (λ byte. byte == 32) text) (wrong_at index expected)
