-- The words of a text among arguments.
use Rattle.std.proofs.Common.{◌≡◌, List, [], ◌∷◌, refl}
use Rattle.clap.specs.Walk.{Text}
use Rattle.rbc_dispatch.specs.TextWords.{texts_in}
use Rattle.rbc_dispatch.specs.declared.encode.Next.TheVariants.{Rest}

-- all that are left are words of the text
pub all_are : (words : List Text) → texts_in Rest words ≡ words
all_are [] = refl
all_are (word ∷ words) = refl
