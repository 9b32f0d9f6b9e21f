-- What the texts of messages and their bytes have to do with each other (own rule).
use Rattle.std.specs.Prelude.{◌≡◌, ◌⊎◌, ◌==◌, ℕ, List, ◌∷◌, ◌++◌, codes}
use Rattle.std.specs.List.{slice_split}
use Rattle.ertms_codec.specs.declared.from_train.FromTrain.{FromTrain}
use Rattle.ertms_codec.specs.declared.to_train.ToTrain.{ToTrain}
use Rattle.ertms_codec.specs.declared.wrong_word.WrongWord.{WrongWord}
use Rattle.ertms_codec.specs.Encoding.{Encodes, IsInRangeToTrain}
use Rattle.ertms_codec.specs.FromTrain as from_train
use Rattle.ertms_codec.specs.FromTrainWritten as from_train_written
use Rattle.ertms_codec.specs.FromTrainWritten.{IsInRange}
use Rattle.ertms_codec.specs.Grammar.{FirstWrong, message}
use Rattle.ertms_codec.specs.Texts.{HasText, text_to_train, text_from_train}
use Rattle.ertms_codec.specs.ToTrain as to_train
use Rattle.ertms_codec.specs.Words.{kind_from_train, words_from_train}

-- bytes are described as a text: that is its line, with a line feed at its end
abbrev pub IsDescribed : List ℕ → List ℕ → Type 0
IsDescribed bytes text = HasText bytes (text ++ codes "\n")

-- a text is that of a message in range, and bytes spell this message
pub record IsTextToTrain (text bytes : List ℕ) : Type 0 where
  pub message : ToTrain
  pub range : IsInRangeToTrain message
  pub text_is : text ≡ text_to_train message
  pub spelled : to_train.Spells bytes message

pub record IsTextFromTrain (text bytes : List ℕ) : Type 0 where
  pub message : FromTrain
  pub range : IsInRange message
  pub text_is : text ≡ text_from_train message
  pub spelled : from_train.Spells bytes message

abbrev pub IsTextOfAMessage : List ℕ → List ℕ → Type 0
IsTextOfAMessage text bytes = IsTextToTrain text bytes ⊎ IsTextFromTrain text bytes

-- the text of each message in range is encoded, to its one spelling
pub record EachIsEncoded : Type 0 where
  pub to_a_train : (m : ToTrain) → IsInRangeToTrain m → Encodes (text_to_train m) (to_train.spelling_of m)
  pub from_a_train : (m : FromTrain) → IsInRange m → Encodes (text_from_train m) (from_train_written.spelling_of m)

-- bytes that a text is encoded to are described as that text
abbrev pub EachEncodedIsDescribed : Type 0
EachEncodedIsDescribed = (text bytes : List ℕ) → Encodes text bytes → IsDescribed bytes text

-- a text that bytes are described as is that of a message in range; so it is encoded
abbrev pub EachDescribedIsOfAMessage : Type 0
EachDescribedIsOfAMessage = (text bytes : List ℕ) → IsDescribed bytes text → IsTextOfAMessage text bytes

-- messages with the same text are the same
pub record OneMessageEach : Type 0 where
  pub to_a_train : (m n : ToTrain) → IsInRangeToTrain m → IsInRangeToTrain n → text_to_train m ≡ text_to_train n → m ≡ n
  pub from_a_train : (m n : FromTrain) → IsInRange m → IsInRange n → text_from_train m ≡ text_from_train n → m ≡ n
  pub not_both : (m : ToTrain) (n : FromTrain) → IsInRangeToTrain m → IsInRange n → text_to_train m ≡ text_from_train n → ⊥

-- so a text is encoded to the same bytes whenever it is
abbrev pub OneEncodingEach : Type 0
OneEncodingEach = (text bytes others : List ℕ) → Encodes text bytes → Encodes text others → bytes ≡ others

-- the words of the text of a message from a train, between single spaces, are these
abbrev pub EachHasItsWords : Type 0
EachHasItsWords = (m : FromTrain) → IsInRange m → slice_split (λ byte. byte == 32) (text_from_train m) ≡ kind_from_train m ∷ words_from_train m

-- the first word of a text that is wrong is this one
abbrev pub IsFirstWrong : List ℕ → WrongWord → Type 0
IsFirstWrong text wrong = FirstWrong 1 message (slice_split (λ byte. byte == 32) text) wrong

-- a text has one first wrong word at most, and a text that is encoded has none
pub record OneWrongWordEach : Type 0 where
  pub one : (text : List ℕ) (wrong other : WrongWord) → IsFirstWrong text wrong → IsFirstWrong text other → wrong ≡ other
  pub none : (text bytes : List ℕ) (wrong : WrongWord) → Encodes text bytes → IsFirstWrong text wrong → ⊥
