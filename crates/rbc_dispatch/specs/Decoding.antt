-- What `decode` does with a word.
use Rattle.std.specs.Prelude.{◌≡◌, ◌≤◌, ℕ, List, Option, Result, Ok, Err, IsErr, IsErrAnd, ◌⊎◌, take, length, ⊤}
use Rattle.std.specs.Io.KnownBytes.{Appends}
use Rattle.hex.specs.Hex.{decode_of}
use Rattle.ertms_codec.specs.Texts.{HasText, IsRefused}
use Rattle.ertms_codec.specs.declared.error.DecodeError.{DecodeError}
use Rattle.rbc_dispatch.specs.Long.{long_text}
use Rattle.rbc_dispatch.specs.declared.fault.Fault.{Fault}
use Rattle.rbc_dispatch.specs.declared.fault.Fault.TheVariants.{Lines, BadHex, Decode, Write, ReaderGone, OutOfMemory}

-- the word stands for bytes with this text
abbrev pub SpellsText : List ℕ → List ℕ → Type 0
SpellsText word text = (bytes : List ℕ) × (decode_of word ≡ Ok bytes) × HasText bytes text

-- At Ok the text of the word's bytes is added to the output, and nothing else; at a write fault, or if the reader went
-- away, exactly its first bytes. A bad word is not hexadecimal text of whole bytes, and only the codec refuses bytes.
abbrev pub Decodes : {E : Type 0} → List ℕ → Option (List ℕ) → Option (List ℕ) → Result E Fault → Type 0
Decodes word old new (Ok done) = (text : List ℕ) × SpellsText word text × Appends old new text
Decodes word old new (Err (Write sent)) = (text : List ℕ) × SpellsText word text × (sent ≤ length text) × Appends old new (take sent text)
Decodes word old new (Err (ReaderGone sent)) = (text : List ℕ) × SpellsText word text × (sent ≤ length text) × Appends old new (take sent text)
Decodes word old new (Err BadHex) = IsErr (decode_of word)
Decodes word old new (Err (Decode e)) = (bytes : List ℕ) × (decode_of word ≡ Ok bytes) × IsRefused bytes e
Decodes word old new (Err OutOfMemory) = ⊤
Decodes word old new (Err _) = ⊥

-- the word stands for bytes that are a message, and this is that message in lines
abbrev pub SpellsLongText : List ℕ → List ℕ → Type 0
SpellsLongText word text = (bytes : List ℕ) × (decode_of word ≡ Ok bytes) × ((line : List ℕ) × HasText bytes line) × (text ≡ long_text bytes)

-- The same with a line for each variable. Refusals are the same as for one line.
abbrev pub DecodesLong : {E : Type 0} → List ℕ → Option (List ℕ) → Option (List ℕ) → Result E Fault → Type 0
DecodesLong word old new (Ok done) = (text : List ℕ) × SpellsLongText word text × Appends old new text
DecodesLong word old new (Err (Write sent)) = (text : List ℕ) × SpellsLongText word text × (sent ≤ length text) × Appends old new (take sent text)
DecodesLong word old new (Err (ReaderGone sent)) = (text : List ℕ) × SpellsLongText word text × (sent ≤ length text) × Appends old new (take sent text)
DecodesLong {E = E} word old new (Err fault) = Decodes {E = E} word old new (Err fault)

-- refused bytes are answered by their refusal, unless memory runs out
abbrev pub MeetsRefusal : {E : Type 0} → DecodeError → Result E Fault → Type 0
MeetsRefusal e r = IsErrAnd r (λ fault. (fault ≡ Decode e) ⊎ (fault ≡ OutOfMemory))

-- until there is a text to write the output is as it was
abbrev pub IsUntouched : {E W : Type 0} → Result E Fault → W → W → Type 0
IsUntouched (Ok done) old new = ⊤
IsUntouched (Err (Write sent)) old new = ⊤
IsUntouched (Err (ReaderGone sent)) old new = ⊤
IsUntouched (Err (Lines error)) old new = ⊤
IsUntouched (Err _) old new = new ≡ old
