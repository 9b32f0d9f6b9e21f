-- The inputs of a batch text, one for each line (own rule).
use Rattle.std.specs.Prelude.{◌≡◌, ℕ, ◌+◌, ◌-◌, ◌*◌, Bool, true, false, ◌&&◌, ◌==◌, nat_le, if◌then◌else◌, List, [], ◌∷◌, length, codes, Option, Some, None, option_map, Result, Ok, Err}
use Rattle.std.specs.List.{fold, list_all, slice_split, before_first, after_first}
use Rattle.std.specs.Option.{unwrap_or, option_and_then}
use Rattle.std.specs.Str.{bytes_eq}
use Rattle.hex.specs.Hex.{decode_of}
use Rattle.hex.specs.declared.error.FromHexError.{FromHexError}
use Rattle.ertms_codec.specs.declared.error.DecodeError.{DecodeError}
use Rattle.ertms_codec.specs.declared.error.DecodeError.TheVariants.{Length, Message, Packet, Field}
use Rattle.ertms_codec.specs.FromTrain.{Spells}
use Rattle.ertms_codec.specs.RefusalsFromTrain.{Refuses}
use Rattle.rbc_zones.specs.declared.segment.Segment.{Segment}
use Rattle.rbc_zones.specs.declared.limit.Dirs.{Dirs}
use Rattle.rbc_zones.specs.declared.limit.Dirs.TheVariants.{Up, Down, Both}
use Rattle.rbc_settle.specs.Trains.{max_engine, max_train_length}
use Rattle.rbc_rule.specs.declared.refuse.Refusal.{Refusal}
use Rattle.rbc_rule.specs.declared.refuse.Refusal.TheVariants as refusal
use Rattle.rbc_rule.specs.Codes.{code_of}
use Rattle.rbc_rule.specs.declared.input.Input.{Input}
use Rattle.rbc_rule.specs.declared.input.Input.TheVariants.{Enrol, Withdraw, Stop, Release, Restrict, Lift, Received, Bad}

abbrev pub is_line_feed : ℕ → Bool
is_line_feed byte = byte == 10

abbrev pub is_space : ℕ → Bool
is_space byte = byte == 32

abbrev pub is_colon : ℕ → Bool
is_colon byte = byte == 58

abbrev pub is_dash : ℕ → Bool
is_dash byte = byte == 45

-- pieces without the last one, if it is empty
abbrev pub without_empty_end : List (List ℕ) → List (List ℕ)
without_empty_end [] = []
without_empty_end ([] ∷ []) = []
without_empty_end (piece ∷ pieces) = piece ∷ without_empty_end pieces

-- the lines of a text: each ends with a line feed, which the last one may lack, and the empty text has no line
abbrev pub lines_of : List ℕ → List (List ℕ)
lines_of text = without_empty_end (slice_split is_line_feed text)

-- the words of a line: between two of them stands one space
abbrev pub words_of : List ℕ → List (List ℕ)
words_of line = slice_split is_space line

abbrev pub is_digit : ℕ → Bool
is_digit byte = nat_le 48 byte && nat_le byte 57

-- the number that digits spell
abbrev pub value_of : List ℕ → ℕ
value_of digits = fold (λ value digit. 10 * value + (digit - 48)) 0 digits

-- 1 to 10 digits
abbrev pub is_decimal : List ℕ → Bool
is_decimal word = nat_le 1 (length word) && (nat_le (length word) 10 && list_all is_digit word)

-- a decimal has 1 to 10 digits, of which the first may be zeros, and is at most 4294967295
abbrev pub decimal_of : List ℕ → Option ℕ
decimal_of word = if is_decimal word && nat_le (value_of word) 4294967295 then Some (value_of word) else None

-- a segment, if all its numbers are there
abbrev pub segment_from : Option ℕ → Option ℕ → Option ℕ → Option Segment
segment_from line from to = option_and_then (λ l. option_and_then (λ f. option_map (λ t. record { line = l; from = f; to = t }) to) from) line

-- `LINE:FROM-TO`, three decimals
abbrev pub segment_of : List ℕ → Option Segment
segment_of word = let places = after_first is_colon word in
    segment_from (decimal_of (before_first is_colon word)) (decimal_of (before_first is_dash places)) (decimal_of (after_first is_dash places))

-- a segment before others, if all are there
abbrev pub onto_all : Option Segment → Option (List Segment) → Option (List Segment)
onto_all segment segments = option_and_then (λ first. option_map (λ more. first ∷ more) segments) segment

-- the segments that words spell, if each of them spells one
abbrev pub segments_of : List (List ℕ) → Option (List Segment)
segments_of [] = Some []
segments_of (word ∷ words) = onto_all (segment_of word) (segments_of words)

-- an enrolment, if the engine number is in its range, and the length is in its range and at least 1 unit
abbrev pub enrolment_from : Option ℕ → Option ℕ → Option Input
enrolment_from engine length =
    option_and_then (λ e. option_and_then (λ l. if nat_le e max_engine && (nat_le 1 l && nat_le l max_train_length) then Some (Enrol e l) else None) length) engine

-- `enrol ENGINE LENGTH`
abbrev pub enrolment_of : List (List ℕ) → Option Input
enrolment_of (engine ∷ length ∷ []) = enrolment_from (decimal_of engine) (decimal_of length)
enrolment_of _ = None

-- a stop, if its number and all its segments are there
abbrev pub stop_from : Option ℕ → Option (List Segment) → Option Input
stop_from number segments = option_and_then (λ n. option_map (Stop n) segments) number

-- `stop NUMBER SEGMENT SEGMENT ..`, at least one segment
abbrev pub stop_of : List (List ℕ) → Option Input
stop_of (number ∷ segment ∷ segments) = stop_from (decimal_of number) (segments_of (segment ∷ segments))
stop_of _ = None

-- a withdrawal, if the engine number is in its range
abbrev pub withdrawal_from : Option ℕ → Option Input
withdrawal_from engine = option_and_then (λ e. if nat_le e max_engine then Some (Withdraw e) else None) engine

-- `withdraw ENGINE`
abbrev pub withdrawal_of : List (List ℕ) → Option Input
withdrawal_of (engine ∷ []) = withdrawal_from (decimal_of engine)
withdrawal_of _ = None

-- a number by itself
abbrev pub number_of : List (List ℕ) → Option ℕ
number_of (number ∷ []) = decimal_of number
number_of _ = None

-- `release NUMBER`
abbrev pub release_of : List (List ℕ) → Option Input
release_of words = option_map Release (number_of words)

-- `lift NUMBER`
abbrev pub lift_of : List (List ℕ) → Option Input
lift_of words = option_map Lift (number_of words)

-- `up`, `down` or `both`
abbrev pub dirs_of : List ℕ → Option Dirs
dirs_of word =
    if bytes_eq word (codes "up") then Some Up
    else (if bytes_eq word (codes "down") then Some Down
    else (if bytes_eq word (codes "both") then Some Both
    else None))

-- Q_FRONT, `0` or `1`
abbrev pub front_of : List ℕ → Option Bool
front_of word =
    if bytes_eq word (codes "0") then Some false
    else (if bytes_eq word (codes "1") then Some true
    else None)

-- a restriction, if all its values are there
abbrev pub restriction_from : Option ℕ → Option Segment → Option Dirs → Option ℕ → Option Bool → Option Input
restriction_from number segment dirs speed front =
    option_and_then (λ n. option_and_then (λ s. option_and_then (λ d. option_and_then (λ v. option_map (Restrict n s d v) front) speed) dirs) segment) number

-- `restrict NUMBER SEGMENT DIR SPEED FRONT`, the speed in km/h
abbrev pub restriction_of : List (List ℕ) → Option Input
restriction_of (number ∷ segment ∷ dirs ∷ speed ∷ front ∷ []) = restriction_from (decimal_of number) (segment_of segment) (dirs_of dirs) (decimal_of speed) (front_of front)
restriction_of _ = None

-- what a line spells: an input, or bytes that a train sent
pub data Line : Type 0 where
  Spelled : Input → Line
  Heard : List ℕ → Line

-- R-REFUSE-2: the bytes that hexadecimal digits spell, or a bad line, refused for its digits
abbrev pub line_of_hex : Result (List ℕ) FromHexError → Line
line_of_hex (Ok bytes) = Heard bytes
line_of_hex (Err fault) = Spelled (Bad (code_of refusal.BadHex))

-- a word that may be hexadecimal text: it is not empty, and has no carriage return (13)
abbrev pub is_hex_word : List ℕ → Bool
is_hex_word [] = false
is_hex_word (digit ∷ digits) = list_all (λ byte. if byte == 13 then false else true) (digit ∷ digits)

-- `recv HEX`
abbrev pub message_of : List (List ℕ) → Option Line
message_of (word ∷ []) = if is_hex_word word then Some (line_of_hex (decode_of word)) else None
message_of _ = None

-- a signaller's command by its first word
abbrev pub command_of : List ℕ → List (List ℕ) → Option Input
command_of word arguments =
    if bytes_eq word (codes "enrol") then enrolment_of arguments
    else (if bytes_eq word (codes "withdraw") then withdrawal_of arguments
    else (if bytes_eq word (codes "stop") then stop_of arguments
    else (if bytes_eq word (codes "release") then release_of arguments
    else (if bytes_eq word (codes "restrict") then restriction_of arguments
    else (if bytes_eq word (codes "lift") then lift_of arguments
    else None)))))

-- what a line spells by its first word, if anything
abbrev pub line_of_words : List (List ℕ) → Option Line
line_of_words [] = None
line_of_words (word ∷ arguments) =
    if bytes_eq word (codes "recv") then message_of arguments
    else option_map Spelled (command_of word arguments)

-- R-REFUSE-1: what a line spells; a line that spells nothing is a bad line
abbrev pub line_of : List ℕ → Line
line_of line = unwrap_or (line_of_words (words_of line)) (Spelled (Bad (code_of refusal.BadLine)))

-- R-REFUSE-3, R-REFUSE-4, R-REFUSE-5, R-REFUSE-6: why bytes that are not a message are refused
abbrev pub refusal_of : DecodeError → Refusal
refusal_of Length = refusal.Length
refusal_of Message = refusal.Message
refusal_of Packet = refusal.Packet
refusal_of Field = refusal.Field

-- R-REFUSE-3, R-REFUSE-4, R-REFUSE-5, R-REFUSE-6: the input of bytes: the message that they spell, or a bad line with
-- the code of the first step that fails
abbrev pub AreHeard : List ℕ → Input → Type 0
AreHeard bytes (Received message) = Spells bytes message
AreHeard bytes (Bad code) = (fault : DecodeError) × Refuses bytes fault × (code ≡ code_of (refusal_of fault))
AreHeard bytes (Enrol engine train_length) = ⊥
AreHeard bytes (Withdraw engine) = ⊥
AreHeard bytes (Stop number segments) = ⊥
AreHeard bytes (Release number) = ⊥
AreHeard bytes (Restrict number segment dirs speed front) = ⊥
AreHeard bytes (Lift number) = ⊥

-- the input of what a line spells
abbrev pub IsInput : Line → Input → Type 0
IsInput (Spelled spelled) input = input ≡ spelled
IsInput (Heard bytes) input = AreHeard bytes input

-- one input for each line, in order, also for an empty one
abbrev pub AreInputs : List (List ℕ) → List Input → Type 0
AreInputs [] [] = Unit
AreInputs (line ∷ lines) (input ∷ inputs) = IsInput (line_of line) input × AreInputs lines inputs
AreInputs [] (input ∷ inputs) = ⊥
AreInputs (line ∷ lines) [] = ⊥

-- the inputs of a batch
abbrev pub AreInputsOf : List ℕ → List Input → Type 0
AreInputsOf text inputs = AreInputs (lines_of text) inputs
