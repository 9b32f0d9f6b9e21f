-- What a line becomes whose last word is the digits of a message (own rule).
use Rattle.std.specs.Prelude.{◌≡◌, ◌⊎◌, ℕ, Bool, true, false, ◌&&◌, if◌then◌else◌, List, [], ◌∷◌, ◌++◌, codes, slice_get, Option, Some, None, is_some, Ok}
use Rattle.std.specs.Str.{bytes_eq}
use Rattle.std.specs.declared.vec.Vec.{Vec}
use Rattle.std.specs.declared.alloc.Global.{Global}
use Rattle.hex.specs.Hex.{decode_of}
use Rattle.ertms_codec.specs.declared.to_train.ToTrain.{ToTrain}
use Rattle.ertms_codec.specs.declared.from_train.FromTrain.{FromTrain}
use Rattle.ertms_codec.specs.ToTrain as to_train
use Rattle.ertms_codec.specs.FromTrain as from_train
use Rattle.ertms_codec.specs.Texts as texts
use Rattle.rbc_text.specs.BatchText.{words_of, decimal_of}
use Rattle.rbc_words.specs.declared.decode.Direction.{Direction}
use Rattle.rbc_words.specs.declared.decode.Direction.TheVariants as ways
use denote.Ref.{Bor}

-- bytes spell a message with this text; the flag says whether it is one to a train
abbrev pub Says : Bool → List ℕ → List ℕ → Type 0
Says true bytes text = (m : ToTrain) × to_train.Spells bytes m × (text ≡ texts.text_to_train m)
Says false bytes text = (m : FromTrain) × from_train.Spells bytes m × (text ≡ texts.text_from_train m)

-- whether the message of these bytes is one to a train; where both may be, the first byte says
abbrev pub is_to_train : Direction → List ℕ → Bool
is_to_train ways.FromTrain bytes = false
is_to_train ways.ToTrain bytes = true
is_to_train ways.Either bytes = texts.is_to_train (slice_get bytes 0)

-- digits spell a message in this direction, with this text
abbrev pub HasText : Direction → List ℕ → List ℕ → Type 0
HasText direction digits text = (bytes : List ℕ) × (decode_of digits ≡ Ok bytes) × Says (is_to_train direction bytes) bytes text

-- the word that may be the digits of a message, and its direction: a word alone, the word behind `recv`, or the one behind two decimals, the
-- numbers of an engine and of an input
abbrev pub digits_in : List (List ℕ) → Option (List ℕ × Direction)
digits_in [] = None
digits_in (word ∷ []) = Some (word, ways.Either)
digits_in (command ∷ word ∷ []) = if bytes_eq command (codes "recv") then Some (word, ways.FromTrain) else None
digits_in (engine ∷ input ∷ word ∷ []) = if is_some (decimal_of engine) && is_some (decimal_of input) then Some (word, ways.ToTrain) else None
digits_in (engine ∷ input ∷ word ∷ more ∷ words) = None

-- the last word of the line is the digits of a message with this text, and this stands before it
pub record EndsInMessage (line front text : List ℕ) : Type 0 where
  pub digits : List ℕ
  pub direction : Direction
  pub word : digits_in (words_of line) ≡ Some (digits, direction)
  pub whole : line ≡ front ++ digits
  pub says : HasText direction digits text

-- the text of the message stands in place of its digits, or there is no message, and the line stays as it is
abbrev pub Decodes : List ℕ → List ℕ → Type 0
Decodes line out =
    ((front text : List ℕ) × EndsInMessage line front text × (out ≡ front ++ text))
    ⊎ (((front text : List ℕ) → EndsInMessage line front text → ⊥) × (out ≡ line))

-- what was found, or nothing where there is none
abbrev pub IsFound : (List ℕ → Type 0) → Option (Vec ℕ Global) → Type 0
IsFound Is None = (text : List ℕ) → Is text → ⊥
IsFound Is (Some text) = Is text.items

-- the word that a slice shows
abbrev pub shown_digits : Option (Bor (List ℕ) × Direction) → Option (List ℕ × Direction)
shown_digits None = None
shown_digits (Some (word, direction)) = Some (word.now, direction)
