-- What is encoded.
use Rattle.std.proofs.Common.{◌≡◌, ◌==◌, ℕ, List, inl, inr, refl}
use Rattle.std.specs.List.{slice_split}
use Rattle.ertms_codec.specs.declared.wrong_word.WrongWord.{WrongWord}
use Rattle.ertms_codec.specs.declared.wrong_word.EncodeError.{EncodeError}
use Rattle.ertms_codec.specs.declared.wrong_word.EncodeError.TheVariants.{Word, OutOfMemory}
use Rattle.ertms_codec.specs.Encoding.{Encodes, EncodesWords, IsEncodeFault}
use Rattle.ertms_codec.proofs.TextWords.{from_train_joined}
use Rattle.ertms_codec.proofs.ToTrainTexts.{to_train_joined}

-- where no word is wrong, memory ran out
pub only_memory : {P : WrongWord → Type 0} (fault : EncodeError) → IsEncodeFault P fault → ((wrong : WrongWord) → P wrong → ⊥) → fault ≡ OutOfMemory
only_memory (Word wrong) holds never = absurd (never wrong holds)
only_memory OutOfMemory holds never = refl

-- bytes that a text's words are encoded in are those of the text
pub encodes : (text bytes : List ℕ) → EncodesWords (slice_split (λ byte. byte == 32) text) bytes → Encodes text bytes
encodes text bytes (inl e) = inl record { message = e.message; fits = e.fits; text_is = to_train_joined e.message text e.are; bytes_are = e.bytes_are; spelled = e.spelled }
encodes text bytes (inr e) = inr record { message = e.message; range = e.range; text_is = from_train_joined e.message text e.are; bytes_are = e.bytes_are; spelled = e.spelled }
