-- What encoding the text of a message leaves (own rule).
use Rattle.std.specs.Prelude.{◌≡◌, ◌⊎◌, ℕ, ◌<◌, ◌≤◌, ◌==◌, List, length}
use Rattle.std.specs.List.{slice_split}
use Rattle.ertms_codec.specs.declared.from_train.FromTrain.{FromTrain}
use Rattle.ertms_codec.specs.declared.to_train.ToTrain.{ToTrain}
use Rattle.ertms_codec.specs.declared.wrong_word.WrongWord.{WrongWord}
use Rattle.ertms_codec.specs.Encoding.{Encodes, IsInRangeToTrain}
use Rattle.ertms_codec.specs.FromTrainWritten.{IsInRange}
use Rattle.ertms_codec.specs.Grammar.{FirstWrong, message, wrong_word_text}
use Rattle.ertms_codec.specs.Texts.{text_to_train, text_from_train}
use Rattle.ertms_c.specs.declared.encoded.Encoded.{Encoded}
use Rattle.ertms_c.specs.Faults.{done, memory, room, wrong_word}
use Rattle.ertms_c.specs.Given.{fronted}

-- what came of encoding: a message of so many bytes, or a wrong word
abbrev pub bytes_told : ℕ → Encoded
bytes_told count = record { count = count; word = 0; words = 0 }

abbrev pub wrong_told : WrongWord → Encoded
wrong_told wrong = record { count = 0; word = wrong.index; words = length (wrong_word_text wrong) }

-- the text is that of a message, whose bytes have all been written
pub record IsEncoded (text out written : List ℕ) (encoded : Encoded) : Type 0 where
  pub bytes : List ℕ
  pub encodes : Encodes text bytes
  pub fit : length bytes ≤ length out
  pub front : written ≡ fronted bytes out
  pub told : encoded ≡ bytes_told (length bytes)

-- the text is that of a message that has more bytes than there is room for
pub record IsTooLong (text out : List ℕ) (encoded : Encoded) : Type 0 where
  pub bytes : List ℕ
  pub encodes : Encodes text bytes
  pub long : length out < length bytes
  pub told : encoded ≡ bytes_told (length bytes)

-- the first wrong word of the text is told: its number, and the words on it, as far as there is room
pub record IsWrong (text out written : List ℕ) (encoded : Encoded) : Type 0 where
  pub wrong : WrongWord
  pub first : FirstWrong 1 message (slice_split (λ byte. byte == 32) text) wrong
  pub front : written ≡ fronted (wrong_word_text wrong) out
  pub told : encoded ≡ wrong_told wrong

-- the text is that of a message in range
abbrev pub IsText : List ℕ → Type 0
IsText text = ((m : ToTrain) × IsInRangeToTrain m × (text ≡ text_to_train m)) ⊎ ((m : FromTrain) × IsInRange m × (text ≡ text_from_train m))

-- What encoding a text leaves, by its code: of the bytes, of the words on a wrong word, and of what it tells. Only a text that is none has a wrong
-- word. If memory was refused, all stays.
pub record Leaves (text out words : List ℕ) (before : Encoded) (code : ℕ) (written worded : List ℕ) (encoded : Encoded) : Type 0 where
  pub codes : (code ≡ done) ⊎ ((code ≡ memory) ⊎ ((code ≡ room) ⊎ (code ≡ wrong_word)))
  pub given : code ≡ done → IsEncoded text out written encoded
  pub short : code ≡ room → IsTooLong text out encoded
  pub wrong : code ≡ wrong_word → IsWrong text words worded encoded
  pub text_is : IsText text → code ≡ wrong_word → ⊥
  pub memory_is : code ≡ memory → encoded ≡ before
  pub bytes_stay : 0 < code → written ≡ out
  pub words_stay : (code ≡ wrong_word → ⊥) → worded ≡ words
