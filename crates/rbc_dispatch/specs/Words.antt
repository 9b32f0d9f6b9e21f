-- What the words ask for.
use Rattle.std.specs.Prelude.{◌≡◌, ⊤, ℕ, Bool, List, [], ◌∷◌, Option, Some, None, Result, Ok, Err, MatchResult, option_and_then, option_map, map, filter_map, string_bytes, unwrap_or, is_some, if◌then◌else◌, ◌&&◌, nat_lt, length, true, false, codes}
use Rattle.std.specs.Option.{option_map_or}
use Rattle.std.specs.List.{list_all}
use Rattle.std.specs.Char.{digit_value}
use Rattle.std.specs.Str.Parse.{digits_value, without_leading_plus}
use Rattle.std.specs.Str.{bytes_eq}
use Rattle.clap.specs.Simple.{subcommand_of}
use Rattle.clap.specs.Walk.{Row, Text, all_of, byte_or_zero, first_of, one_of}
use Rattle.clap.specs.Words.{fault_of}
use Rattle.clap.specs.Kinds.{Kinds}
use Rattle.rbc_account.specs.declared.log_form.LogParts.{LogParts}
use Rattle.rbc_account.specs.declared.log_form.LogParts.TheVariants as parts
use Rattle.rbc_account.specs.declared.log_form.LogWanted.{LogWanted}
use Rattle.rbc_live.specs.declared.wanted.Wanted.{Wanted}
use denote.Ref.{Bor}
use Rattle.rbc_picture.specs.declared.selection.LinePart.{LinePart}
use Rattle.rbc_picture.specs.declared.selection.Selection.{Selection}
use Rattle.rbc_picture.specs.declared.selection.Selection.TheVariants as selection
use Rattle.rbc_dispatch.specs.CommandLine.{command_line}
use Rattle.rbc_dispatch.specs.Kilometres.{part_of}
use Rattle.rbc_dispatch.specs.Pages.{topic_in}
use Rattle.rbc_dispatch.specs.TextWords.{spaced_text}
use Rattle.rbc_dispatch.specs.declared.misuse.Misuse.{Misuse}
use Rattle.rbc_dispatch.specs.declared.misuse.Misuse.TheVariants as misuse
use Rattle.rbc_dispatch.specs.declared.pages.Topic.{Topic}
use Rattle.rbc_dispatch.specs.declared.no_task.NoTask.{NoTask}
use Rattle.rbc_dispatch.specs.declared.no_task.NoTask.TheVariants.{OutOfMemory}
use Rattle.rbc_dispatch.specs.declared.words.Choice.{Choice}
use Rattle.rbc_dispatch.specs.declared.words.Choice.TheVariants as choice
use Rattle.rbc_dispatch.specs.declared.words.Task.{Task}
use Rattle.rbc_dispatch.specs.declared.words.Task.TheVariants as task

-- what is drawn of the track: all of it, the lines on which something is, these parts of lines, or the part of its line on which this train is
pub data Chosen : Type 0 where
  All : Chosen
  Busy : Chosen
  Lines : List LinePart → Chosen
  Train : ℕ → Chosen

-- What the arguments ask for. The first text is the name of the track file.
pub data Asked : Type 0 where
  -- how many workers, whether they share by train, whether figures are reported, and whether alarms are written
  Run : Text → ℕ → Bool → Bool → Bool → Asked
  Live : Text → Wanted → Asked
  -- what is told, and whether as objects
  Explain : Text → LogWanted → Bool → Asked
  -- after how many inputs, and what is drawn
  Picture : Text → Option ℕ → Chosen → Asked
  -- whether unknown keys are notes, and whether the report is an object
  Check : Text → Bool → Bool → Asked
  -- the text, each word with a space before it, or nothing for lines
  Encode : Option Text → List ℕ → Asked
  -- the bytes, and whether each variable has a line
  Decode : Text → Bool → Asked
  DecodeLines : Asked
  -- one code or all, and whether as objects
  Codes : Option ℕ → Bool → Asked
  Page : Topic → Asked

-- a selection of this is made, and it holds of that one
abbrev pub IsSelected : Chosen → (Selection → Type 0) → Type 0
IsSelected All P = P selection.All
IsSelected Busy P = P selection.Busy
IsSelected (Lines lines) P = (parts : Bor (List LinePart)) × (parts.now ≡ lines) × P (selection.Lines parts)
IsSelected (Train engine) P = P (selection.Train engine)

-- ---- what was found for the arguments of a subcommand

-- `text.parse::<u64>().ok()`
abbrev pub count_in : Text → Option ℕ
count_in text =
    let digits = without_leading_plus text in
    if nat_lt 0 (length digits) && list_all (λ digit. nat_lt (digit_value digit) 10) digits && nat_lt (digits_value 10 digits) 18446744073709551616
    then Some (digits_value 10 digits) else None

-- `text.parse::<u32>().ok()`
abbrev pub number_in : Text → Option ℕ
number_in text =
    let digits = without_leading_plus text in
    if nat_lt 0 (length digits) && list_all (λ digit. nat_lt (digit_value digit) 10) digits && nat_lt (digits_value 10 digits) 4294967296
    then Some (digits_value 10 digits) else None

-- the number below 256 that an argument was given, or 0 if it was given none
abbrev pub byte_of : Text → List Row → ℕ
byte_of id rows = option_map_or byte_or_zero (one_of id rows) 0

-- the number below 2 ^ 64, or below 2 ^ 32, that an argument was given, if it was given one
abbrev pub count_of : Text → List Row → Option ℕ
count_of id rows = option_and_then count_in (one_of id rows)

abbrev pub number_of : Text → List Row → Option ℕ
number_of id rows = option_and_then number_in (one_of id rows)

-- a flag stands there
abbrev pub flag_of : Text → List Row → Bool
flag_of id rows = option_map_or (λ word. bytes_eq word (codes "true")) (one_of id rows) false

-- all words that an argument was given
abbrev pub words_of : Text → List Row → List Text
words_of id rows = unwrap_or (all_of id rows) []

-- ---- what each subcommand asks for, by what was found for its arguments; nothing where they do not go together

abbrev pub run_asked : List Row → Option Asked
run_asked rows =
    option_map (λ file. Run file (byte_of (codes "workers") rows) (flag_of (codes "by-train") rows) (flag_of (codes "stats") rows) (flag_of (codes "alarms") rows))
    (first_of (codes "track") rows)

abbrev pub live_asked : List Row → Option Asked
live_asked rows =
    option_map (λ file. Live file (record { from = unwrap_or (count_of (codes "from") rows) 1; alarms = flag_of (codes "alarms") rows }))
    (first_of (codes "track") rows)

-- `--refused` and `--end` do not go together
abbrev pub parts_asked : Bool → Bool → Option LogParts
parts_asked true true = None
parts_asked true false = Some parts.Refused
parts_asked false true = Some parts.End
parts_asked false false = Some parts.All

-- the last input is not before the first one
abbrev pub is_before : Option ℕ → ℕ → Bool
is_before None from = false
is_before (Some to) from = nat_lt to from

abbrev pub log_asked : ℕ → Option ℕ → LogParts → Option LogWanted
log_asked from to parts = if is_before to from then None else Some (record { from = from; to = to; parts = parts })

abbrev pub explain_asked : List Row → Option Asked
explain_asked rows =
    option_and_then (λ file. option_map (λ wanted. Explain file wanted (flag_of (codes "json") rows))
    (option_and_then (log_asked (unwrap_or (count_of (codes "from") rows) 1) (count_of (codes "to") rows))
    (parts_asked (flag_of (codes "refused") rows) (flag_of (codes "end") rows))))
    (first_of (codes "track") rows)

-- a line from its beginning to its end
abbrev pub whole_line : ℕ → LinePart
whole_line line = record { line = line; part = None }

-- the numbers among words
abbrev pub numbers_in : List Text → List ℕ
numbers_in words = filter_map number_in words

-- lines are named, a part of one line, a train, or `--busy`: no two of them
abbrev pub chosen_by : List ℕ → Option Text → Option ℕ → Bool → Option Chosen
chosen_by [] None None false = Some All
chosen_by [] None None true = Some Busy
chosen_by [] None (Some engine) false = Some (Train engine)
chosen_by [] None (Some engine) true = None
chosen_by [] (Some km) engine busy = None
chosen_by (line ∷ lines) None None false = Some (Lines (map whole_line (line ∷ lines)))
chosen_by (line ∷ []) (Some km) None false = option_map (λ part. Lines (record { line = line; part = Some part } ∷ [])) (part_of km)
chosen_by (line ∷ other ∷ lines) (Some km) None false = None
chosen_by (line ∷ lines) km None true = None
chosen_by (line ∷ lines) km (Some engine) busy = None

abbrev pub picture_asked : List Row → Option Asked
picture_asked rows =
    option_and_then (λ file. option_map (λ chosen. Picture file (count_of (codes "after") rows) chosen)
    (chosen_by (numbers_in (words_of (codes "line") rows)) (first_of (codes "km") rows) (number_of (codes "train") rows) (flag_of (codes "busy") rows)))
    (first_of (codes "track") rows)

abbrev pub check_asked : List Row → Option Asked
check_asked rows =
    option_map (λ file. Check file (flag_of (codes "other-keys") rows) (flag_of (codes "json") rows)) (first_of (codes "track") rows)

-- `--long` needs a message
abbrev pub decode_asked_by : Option Text → Bool → Option Asked
decode_asked_by (Some word) long = Some (Decode word long)
decode_asked_by None false = Some DecodeLines
decode_asked_by None true = None

abbrev pub decode_asked : List Row → Option Asked
decode_asked rows = decode_asked_by (first_of (codes "HEX") rows) (flag_of (codes "long") rows)

abbrev pub encode_asked : List Text → List Row → Option Asked
encode_asked words rows = Some (Encode (first_of (codes "track") rows) (spaced_text words))

-- objects are those of all codes
abbrev pub codes_asked_by : Option ℕ → Bool → Option Asked
codes_asked_by (Some code) true = None
codes_asked_by (Some code) false = Some (Codes (Some code) false)
codes_asked_by None json = Some (Codes None json)

abbrev pub codes_asked : List Row → Option Asked
codes_asked rows = codes_asked_by (number_of (codes "CODE") rows) (flag_of (codes "json") rows)

-- ---- what words ask for

abbrev pub asked_named : List Text → Text → List Row → Option Asked
asked_named words name rows =
    if bytes_eq name (codes "run") then run_asked rows
    else if bytes_eq name (codes "live") then live_asked rows
    else if bytes_eq name (codes "explain") then explain_asked rows
    else if bytes_eq name (codes "picture") then picture_asked rows
    else if bytes_eq name (codes "check") then check_asked rows
    else if bytes_eq name (codes "encode") then encode_asked words rows
    else if bytes_eq name (codes "decode") then decode_asked rows
    else if bytes_eq name (codes "codes") then codes_asked rows
    else None

-- the name of a subcommand, and what was found for its arguments
abbrev pub Finding : Type 0
Finding = Option (Text × List Row)

abbrev pub asked_in : List Text → Finding → Option Asked
asked_in words None = None
asked_in words (Some p) = asked_named words p.0 p.1

-- what clap finds in the words
abbrev pub finding_in : List Text → Finding
finding_in words = subcommand_of command_line words

-- What is wrong with words: nothing with those that ask for a page of help, and else what clap says of them.
abbrev pub fault_in : List Text → Kinds
fault_in words = if is_some (topic_in words) then [] else fault_of command_line words

-- what words ask for that clap takes: a page of help, or a task
abbrev pub asked_on : Option Topic → List Text → Option Asked
asked_on (Some topic) words = Some (Page topic)
asked_on None words = asked_in words (finding_in words)

abbrev pub asked_by : List Text → Option Asked
asked_by words = asked_on (topic_in words) words

-- words without a fault ask for this
pub record Asks (asked : Asked) (words : List Text) : Type 0 where
  pub taken : fault_in words ≡ []
  pub is : asked_by words ≡ Some asked

-- words without a fault ask for nothing, since they do not go together
pub record DoNotFit (words : List Text) : Type 0 where
  pub taken : fault_in words ≡ []
  pub none : asked_by words ≡ None

-- ---- tasks

abbrev pub chosen_of : Choice → Chosen
chosen_of choice.All = All
chosen_of choice.Busy = Busy
chosen_of (choice.Lines lines) = Lines lines.items
chosen_of (choice.Train engine) = Train engine

-- what a task does
abbrev pub asked_of : Task → Asked
asked_of (task.Run track workers by_train stats alarms) = Run track.now workers by_train stats alarms
asked_of (task.Live track wanted) = Live track.now wanted
asked_of (task.Explain track wanted json) = Explain track.now wanted json
asked_of (task.Picture track after choice) = Picture track.now after (chosen_of choice)
asked_of (task.Check track other json) = Check track.now other json
asked_of (task.Encode track words) = Encode (option_map (λ file. file.now) track) (spaced_text (map string_bytes words.now))
asked_of (task.Decode hex long) = Decode hex.now long
asked_of task.DecodeLines = DecodeLines
asked_of (task.Codes code json) = Codes code json
asked_of (task.Page topic) = Page topic

-- nothing is asked for, or memory ran out
abbrev pub IsUnfit : {A : Type 0} → Option A → Misuse → Type 0
IsUnfit asked misuse.OutOfMemory = ⊤
IsUnfit asked (misuse.Words says) = asked ≡ None

-- the task is what is asked for, and there is none only where nothing is asked for, or memory ran out
abbrev pub IsFor : Option Asked → Result Task Misuse → Type 0
IsFor asked (Ok done) = asked ≡ Some (asked_of done)
IsFor asked (Err unfit) = IsUnfit asked unfit

-- memory ran out
abbrev pub IsWantOfMemory : NoTask → Type 0
IsWantOfMemory no_task = no_task ≡ OutOfMemory

-- the words are taken for what they ask for, unless memory runs out
abbrev pub IsTakenFor : Asked → Result Task NoTask → Type 0
IsTakenFor asked result = MatchResult result (λ done. asked_of done ≡ asked) IsWantOfMemory
