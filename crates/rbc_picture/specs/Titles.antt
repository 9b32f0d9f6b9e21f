-- The texts that a picture shows of lines, of trains, and of stops and restrictions (own rule). Places are in units of
-- 10 cm.
use Rattle.std.specs.Prelude.{ℕ, List, ◌∷◌, ◌++◌, map, Option, Some, None, codes}
use Rattle.std.specs.Fmt.{decimal}
use Rattle.rbc_place.specs.Placing as placing
use Rattle.rbc_track.specs.declared.group.Way.{Way}
use Rattle.rbc_track.specs.declared.group.Way.TheVariants as way
use Rattle.rbc_zones.specs.declared.limit.Dirs.{Dirs}
use Rattle.rbc_zones.specs.declared.limit.Dirs.TheVariants as dirs
use Rattle.rbc_live.specs.declared.waiting.Waiting.{Waiting}
use Rattle.rbc_live.specs.declared.waiting.Waits.{Waits}
use Rattle.rbc_live.specs.declared.waiting.Waits.TheVariants as waits
use Rattle.rbc_words.specs.Units.{km_text}
use Rattle.rbc_picture.specs.declared.stretches.Stretch.{Stretch}
use Rattle.rbc_picture.specs.declared.stretches.Active.{Active}
use Rattle.rbc_picture.specs.declared.stretches.Active.TheVariants.{Stop, Restriction}

-- how the heading of the panel of a line begins, with the end of the tag before it
abbrev pub line_heading : ℕ → List ℕ
line_heading line = codes ">Line " ++ decimal line

-- the word for the trains that a restriction is for
abbrev pub dirs_words : Dirs → List ℕ
dirs_words dirs.Up = codes "up"
dirs_words dirs.Down = codes "down"
dirs_words dirs.Both = codes "both ways"

-- the words for a stop or a restriction with a number
abbrev pub active_words : ℕ → Active → List ℕ
active_words number Stop = codes "stop " ++ decimal number
active_words number (Restriction speed dirs) =
    codes "restriction " ++ (decimal number ++ (codes ": " ++ (decimal speed ++ (codes " km/h, " ++ dirs_words dirs))))

abbrev pub stretch_words : Stretch → List ℕ
stretch_words stretch = active_words stretch.number stretch.active

-- the title of the band of a stretch of a line
abbrev pub band_title : ℕ → Stretch → List ℕ
band_title line stretch =
    codes "<title>" ++ (stretch_words stretch ++ (codes ": line " ++ (decimal line ++ (codes ", km "
    ++ (km_text stretch.from ++ (codes " to km " ++ (km_text stretch.to ++ codes "</title>\n")))))))

-- the word for a way
abbrev pub way_word : Way → List ℕ
way_word way.Up = codes "up"
way_word way.Down = codes "down"

-- how the title of a train begins
abbrev pub train_title : ℕ → Option placing.Place → List ℕ
train_title engine None = codes "<title>Train " ++ (decimal engine ++ codes " has no place.")
train_title engine (Some place) =
    codes "<title>Train " ++ (decimal engine ++ (codes " may be at km " ++ (km_text place.lo ++ (codes " to km "
    ++ (km_text place.hi ++ (codes " of line " ++ (decimal place.line ++ (codes ", facing "
    ++ (way_word place.facing ++ codes ".")))))))))

-- the sentence on a stop or a restriction that a train is not told, or on a stop that it is not told again
abbrev pub waiting_sentence : Waits → List ℕ
waiting_sentence (waits.Stop number) = codes " NOT TOLD: stop " ++ (decimal number ++ codes ".")
waiting_sentence (waits.Restriction number) = codes " NOT TOLD: restriction " ++ (decimal number ++ codes ".")
waiting_sentence (waits.Again number) = codes " NOT TOLD AGAIN: stop " ++ (decimal number ++ codes ".")

-- a train as a picture shows it: its engine, its place if it has one, and what waits at it
pub record ShownTrain : Type 0 where
  pub engine : ℕ
  pub place : Option placing.Place
  pub waiting : List Waiting

-- the texts of a train: how its title begins, and a sentence on each thing that it is not told
abbrev pub train_texts : ShownTrain → List (List ℕ)
train_texts train = train_title train.engine train.place ∷ map (λ one. waiting_sentence one.what) train.waiting
