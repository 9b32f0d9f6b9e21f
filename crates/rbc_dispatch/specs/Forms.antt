-- The forms of `run`, `live`, `explain` and `picture`, and what they ask for.
use Rattle.std.specs.Prelude.{◌≡◌, ◌≢◌, ◌<◌, ℕ, true, false, List, [], ◌∷◌, ◌++◌, None, codes}
use Rattle.std.specs.List.{AllByRecursion}
use Rattle.std.specs.Str.Parse.{IsNumeral, digits_value}
use Rattle.clap.specs.Walk.{Text}
use Rattle.rbc_account.specs.declared.log_form.LogParts.TheVariants as parts
use Rattle.rbc_dispatch.specs.Words.{Asks, All, Run, Live, Explain, Picture, Decode}

-- the word has a first byte, which is no hyphen
abbrev pub IsPlain : Text → Type 0
IsPlain [] = ⊥
IsPlain (c ∷ rest) = c ≢ 45

-- the word is a number up to 255 in decimal digits
abbrev pub WritesByte : Text → ℕ → Type 0
WritesByte word number = IsNumeral 10 word × (digits_value 10 word ≡ number) × (number < 256)

-- `run` with a track, and with a number of workers: in two words or in one, before the track or after it
abbrev pub forms_of : Text → Text → List (List Text)
forms_of file word =
    (codes "run" ∷ codes "--track" ∷ file ∷ codes "--workers" ∷ word ∷ [])
    ∷ (codes "run" ∷ codes "--track" ∷ file ∷ (codes "--workers=" ++ word) ∷ [])
    ∷ (codes "run" ∷ codes "--workers" ∷ word ∷ codes "--track" ∷ file ∷ [])
    ∷ (codes "run" ∷ (codes "--workers=" ++ word) ∷ codes "--track" ∷ file ∷ []) ∷ []

-- without more words there is one worker, workers do not share by train, and neither figures nor alarms are asked for
abbrev pub OneByDefault : Type 0
OneByDefault = (file : Text) → IsPlain file → Asks (Run file 1 false false false) (codes "run" ∷ codes "--track" ∷ file ∷ [])

-- without a number answers are written from the first one on, and without `--alarms` no alarms are
abbrev pub FromOneByDefault : Type 0
FromOneByDefault = (file : Text) → IsPlain file → Asks (Live file (record { from = 1; alarms = false })) (codes "live" ∷ codes "--track" ∷ file ∷ [])

-- without more words all inputs are told, and the end, in words
abbrev pub BeginAtOneByDefault : Type 0
BeginAtOneByDefault = (file : Text) → IsPlain file
    → Asks (Explain file (record { from = 1; to = None; parts = parts.All }) false) (codes "explain" ∷ codes "--track" ∷ file ∷ [])

-- without more words the whole track is drawn after all inputs
abbrev pub AfterAllByDefault : Type 0
AfterAllByDefault = (file : Text) → IsPlain file → Asks (Picture file None All) (codes "picture" ∷ codes "--track" ∷ file ∷ [])

-- with a number there are as many workers, and all else is as without it
abbrev pub AsManyAsNamed : Type 0
AsManyAsNamed = (file word : Text) (number : ℕ) → IsPlain file → WritesByte word number → AllByRecursion (Asks (Run file number false false false)) (forms_of file word)

-- a command with a track and `--alarms`: before the track or after it
abbrev pub alarmed_forms_of : Text → Text → List (List Text)
alarmed_forms_of command file =
    (command ∷ codes "--track" ∷ file ∷ codes "--alarms" ∷ [])
    ∷ (command ∷ codes "--alarms" ∷ codes "--track" ∷ file ∷ []) ∷ []

-- `run` with `--alarms` asks for the batch with its alarms
abbrev pub AlarmsOfRun : Type 0
AlarmsOfRun = (file : Text) → IsPlain file → AllByRecursion (Asks (Run file 1 false false true)) (alarmed_forms_of (codes "run") file)

-- `live` with `--alarms` asks for the answers with their alarms
abbrev pub AlarmsOfLive : Type 0
AlarmsOfLive = (file : Text) → IsPlain file → AllByRecursion (Asks (Live file (record { from = 1; alarms = true }))) (alarmed_forms_of (codes "live") file)

-- without `--long` the text of a message is one line
abbrev pub OneLineByDefault : Type 0
OneLineByDefault = (word : Text) → IsPlain word → Asks (Decode word false) (codes "decode" ∷ word ∷ [])

-- with `--long`, before the message or after it, it has a line for each variable
abbrev pub LongIfAsked : Type 0
LongIfAsked = (word : Text) → IsPlain word
    → AllByRecursion (Asks (Decode word true)) ((codes "decode" ∷ codes "--long" ∷ word ∷ []) ∷ (codes "decode" ∷ word ∷ codes "--long" ∷ []) ∷ [])
