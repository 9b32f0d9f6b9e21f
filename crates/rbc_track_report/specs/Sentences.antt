-- The sentence of each rule on a track (own rule).
use Rattle.std.specs.Prelude.{ℕ, List, codes}
use Rattle.rbc_track.specs.declared.error.TrackError.{TrackError}
use Rattle.rbc_track.specs.declared.error.TrackError.TheVariants.{Text, Shape, TooManyLines, TooManyGroups, BadLength, GroupOffLine, GroupTwice, OutOfMemory}

-- the sentence of each rule
abbrev pub sentence_of : TrackError → List ℕ
sentence_of Text = codes "The text is no TOML document, or has a number beyond 64 bits."
sentence_of Shape = codes "A key is missing, or is not what it has to be."
sentence_of TooManyLines = codes "There are more than 64 lines."
sentence_of TooManyGroups = codes "There are more than 8000 balise groups."
sentence_of BadLength = codes "The length of a line is outside 1 to 3000000 (units of 10 cm)."
sentence_of GroupOffLine = codes "A balise group is on a line that does not exist, or beyond the end of its line."
sentence_of GroupTwice = codes "Two balise groups have the same nid."
sentence_of OutOfMemory = codes "Memory ran out."
