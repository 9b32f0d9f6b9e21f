-- What comes of encoding the text of a message (own rule).
use Rattle.std.specs.Prelude.{◌≡◌, ◌⊎◌, ℕ, List, [], ◌∷◌, Result, Err, codes}
use Rattle.ertms_codec.specs.declared.from_train.FromTrain.{FromTrain}
use Rattle.ertms_codec.specs.declared.to_train.ToTrain.{ToTrain}
use Rattle.ertms_codec.specs.declared.wrong_word.WrongWord.{WrongWord}
use Rattle.ertms_codec.specs.declared.wrong_word.EncodeError.{EncodeError}
use Rattle.ertms_codec.specs.declared.wrong_word.EncodeError.TheVariants.{Word, OutOfMemory}
use Rattle.ertms_codec.specs.Layout.{HoldValues}
use Rattle.ertms_codec.specs.FromTrain as from_train
use Rattle.ertms_codec.specs.FromTrainWritten as from_train_written
use Rattle.ertms_codec.specs.Texts.{text_to_train, text_from_train}
use Rattle.ertms_codec.specs.ToTrain as to_train
use Rattle.ertms_codec.specs.Words.{kind_to_train, words_to_train, kind_from_train, words_from_train}

-- each variable of a message to a train is in its range, and fits its field
pub record IsInRangeToTrain (m : ToTrain) : Type 0 where
  pub fits : to_train.Fits m
  pub reference : to_train.HoldsReference m
  pub holds : HoldValues (to_train.fields_of m)

-- bytes are those in which a message with this text is written
pub record EncodesToTrain (text bytes : List ℕ) : Type 0 where
  pub message : ToTrain
  pub fits : to_train.Fits message
  pub text_is : text ≡ text_to_train message
  pub bytes_are : bytes ≡ to_train.spelling_of message
  pub spelled : to_train.Spells bytes message

pub record EncodesFromTrain (text bytes : List ℕ) : Type 0 where
  pub message : FromTrain
  pub range : from_train_written.IsInRange message
  pub text_is : text ≡ text_from_train message
  pub bytes_are : bytes ≡ from_train_written.spelling_of message
  pub spelled : from_train.Spells bytes message

abbrev pub Encodes : List ℕ → List ℕ → Type 0
Encodes text bytes = EncodesToTrain text bytes ⊎ EncodesFromTrain text bytes

-- the same of the words of a text
pub record EncodesWordsToTrain (words : List (List ℕ)) (bytes : List ℕ) : Type 0 where
  pub message : ToTrain
  pub fits : to_train.Fits message
  pub are : words ≡ kind_to_train message ∷ words_to_train message
  pub bytes_are : bytes ≡ to_train.spelling_of message
  pub spelled : to_train.Spells bytes message

pub record EncodesWordsFromTrain (words : List (List ℕ)) (bytes : List ℕ) : Type 0 where
  pub message : FromTrain
  pub range : from_train_written.IsInRange message
  pub are : words ≡ kind_from_train message ∷ words_from_train message
  pub bytes_are : bytes ≡ from_train_written.spelling_of message
  pub spelled : from_train.Spells bytes message

abbrev pub EncodesWords : List (List ℕ) → List ℕ → Type 0
EncodesWords words bytes = EncodesWordsToTrain words bytes ⊎ EncodesWordsFromTrain words bytes

-- a wrong word of which this holds, or memory ran out
abbrev pub IsEncodeFault : (WrongWord → Type 0) → EncodeError → Type 0
IsEncodeFault IsWrong (Word wrong) = IsWrong wrong
IsEncodeFault IsWrong OutOfMemory = Unit {0}

-- a text of these words is one of message 24
abbrev pub IsOfGeneral : List (List ℕ) → Type 0
IsOfGeneral [] = ⊥
IsOfGeneral (word ∷ words) = word ≡ codes "24"

-- memory ran out over a text of message 24, whose packets take memory before the next word is read
pub record IsWantOfMemory {T : Type 0} (words : List (List ℕ)) (result : Result T EncodeError) : Type 0 where
  pub general : IsOfGeneral words
  pub is : result ≡ Err OutOfMemory
