-- Worked cases of what words ask for, with a track in the file `t`; and of the rows of a message.
use Rattle.std.specs.Prelude.{ℕ, Bool, false, List, Option, [], ◌∷◌, codes}
use Rattle.clap.specs.Walk.{Text}
use Rattle.ertms_bits.specs.Bits.{bits_of_bytes}
use Rattle.rbc_account.specs.declared.log_form.LogParts.{LogParts}
use Rattle.rbc_dispatch.specs.Words.{Asked, Asks, Chosen, Explain, Live, Picture, Run}
use Rattle.rbc_dispatch.specs.declared.stand.Row.{Row}
use Rattle.rbc_dispatch.specs.declared.variable.Variable.TheVariants.{Passed}

-- a command with the track, and more words
abbrev pub on_track : Text → List Text → List Text
on_track command more = command ∷ codes "--track" ∷ codes "t" ∷ more

-- words that ask for nothing
abbrev pub AskForNothing : List Text → Type 0
AskForNothing words = (asked : Asked) → Asks asked words → ⊥

-- after `run`: as many workers as this, who do not share by train, without figures and alarms
abbrev pub AskFor : ℕ → List Text → Type 0
AskFor workers more = Asks (Run (codes "t") workers false false false) (on_track (codes "run") more)

-- the same, by train or not, with figures or not, and with alarms or not
abbrev pub AskForRun : ℕ → Bool → Bool → Bool → List Text → Type 0
AskForRun workers by_train stats alarms more = Asks (Run (codes "t") workers by_train stats alarms) (on_track (codes "run") more)

-- after `live`: the answers from this number on, with alarms or not
abbrev pub AskFrom : ℕ → Bool → List Text → Type 0
AskFrom from alarms more = Asks (Live (codes "t") (record { from = from; alarms = alarms })) (on_track (codes "live") more)

-- after `explain`: these parts of the log from this input to that one, in words or as objects
abbrev pub AskToExplain : ℕ → Option ℕ → LogParts → Bool → List Text → Type 0
AskToExplain from to parts json more = Asks (Explain (codes "t") (record { from = from; to = to; parts = parts }) json) (on_track (codes "explain") more)

-- after `picture`: this part of the track, after this many inputs
abbrev pub AskToDraw : Option ℕ → Chosen → List Text → Type 0
AskToDraw after chosen more = Asks (Picture (codes "t") after chosen) (on_track (codes "picture") more)

-- the bits of a byte
abbrev pub in_bits : ℕ → List ℕ
in_bits byte = bits_of_bytes (byte ∷ [])

-- a row of so many bits with this value
abbrev pub row_in : ℕ → ℕ → Row
row_in width value = record { place = 0; width = width; variable = Passed; scale = 0; value = value }
