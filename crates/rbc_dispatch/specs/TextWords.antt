-- The words of a text among arguments (own rule).
use Rattle.std.specs.Prelude.{ℕ, Bool, List, [], ◌∷◌, if◌then◌else◌, take, codes}
use Rattle.std.specs.List.{flat_map}
use Rattle.std.specs.Str.{bytes_eq}
use Rattle.clap.specs.Walk.{Text}
use Rattle.rbc_dispatch.specs.declared.encode.Next.{Next}
use Rattle.rbc_dispatch.specs.declared.encode.Next.TheVariants.{Word, File, Rest}

-- the word names a track by itself
abbrev pub names_track : Text → Bool
names_track word = bytes_eq (take 8 word) (codes "--track=")

-- the words of the text among these, by what the first of them is: all but `--track FILE`, `--track=FILE` and the first `--`
abbrev pub texts_in : Next → List Text → List Text
texts_in next [] = []
texts_in Rest (word ∷ words) = word ∷ words
texts_in File (word ∷ words) = texts_in Word words
texts_in Word (word ∷ words) =
    if bytes_eq word (codes "--") then texts_in Rest words
    else if bytes_eq word (codes "--track") then texts_in File words
    else if names_track word then texts_in Word words
    else word ∷ texts_in Word words

-- a word with a space before it
abbrev pub spaced : Text → List ℕ
spaced word = 32 ∷ word

-- the words of the text behind the name of the command, each with a space before it; nothing where there are none
abbrev pub spaced_text : List Text → List ℕ
spaced_text [] = []
spaced_text (command ∷ words) = flat_map spaced (texts_in Word words)
