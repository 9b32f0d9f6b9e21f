-- Each input of a line is one that a batch can have.
use Rattle.std.proofs.Common.{◌≡◌, ℕ, ◌≤◌, Bool, true, false, ◌&&◌, nat_le, if◌then◌else◌, List, [], ◌∷◌, length, codes, Option, Some, None, option_map, Result, Ok, Err, All, IfSome, refl, sym, subst, arith}
use Rattle.std.specs.Option.{unwrap_or}
use Rattle.std.specs.Str.{bytes_eq}
use Rattle.std.proofs.lemmas.Bool.Decides.{nat_tests}
use Rattle.std.proofs.lemmas.List.Elements.{All-nil, All-cons}
use Rattle.hex.specs.Hex.{decode_of}
use Rattle.hex.specs.declared.error.FromHexError.{FromHexError}
use Rattle.ertms_codec.specs.declared.error.DecodeError.{DecodeError}
use Rattle.ertms_codec.specs.declared.error.DecodeError.TheVariants.{Length, Message, Packet, Field}
use Rattle.rbc_zones.specs.declared.segment.Segment.{Segment}
use Rattle.rbc_zones.specs.declared.limit.Dirs.{Dirs}
use Rattle.rbc_rule.specs.declared.input.Input.{Input}
use Rattle.rbc_rule.specs.declared.input.Input.TheVariants.{Enrol, Withdraw, Stop, Release, Restrict, Lift, Received, Bad}
use Rattle.rbc_rule.specs.Codes.{code_of}
use Rattle.rbc_rule.specs.Inputs.{Fits}
use Rattle.rbc_text.specs.BatchText.{decimal_of, segment_of, onto_all, segments_of, enrolment_from, enrolment_of, withdrawal_from, withdrawal_of, number_of, stop_from, stop_of, release_of, lift_of, dirs_of, front_of, restriction_from, restriction_of, command_of, refusal_of, AreHeard, Line, Spelled, line_of_hex, is_hex_word, message_of, words_of, line_of_words, line_of, IsInput, AreInputs}

-- a bad line has a code
pub bad_fits : Fits (Bad 1)
bad_fits = (omega arith, omega arith)

-- ---- commands

tested : (b : Bool) (input : Input) → (b ≡ true → Fits input) → IfSome (if b then Some input else None) Fits
tested true input fits = fits refl
tested false input fits = tt

chosen : (b : Bool) (x y : Option Input) → IfSome x Fits → IfSome y Fits → IfSome (if b then x else y) Fits
chosen true x y first second = first
chosen false x y first second = second

made : (f : ℕ → Input) (number : Option ℕ) → ((n : ℕ) → Fits (f n)) → IfSome (option_map f number) Fits
made f None fits = tt
made f (Some n) fits = fits n

enrolment_from_fits : (engine train_length : Option ℕ) → IfSome (enrolment_from engine train_length) Fits
enrolment_from_fits (Some engine) (Some train_length) = tested (nat_le engine 16777215 && (nat_le 1 train_length && nat_le train_length 40000)) (Enrol engine train_length) (λ e. (grind (arith, nat_tests), (grind (arith, nat_tests), grind (arith, nat_tests))))
enrolment_from_fits None train_length = tt
enrolment_from_fits (Some engine) None = tt

enrolment_fits : (words : List (List ℕ)) → IfSome (enrolment_of words) Fits
enrolment_fits (engine ∷ train_length ∷ []) = enrolment_from_fits (decimal_of engine) (decimal_of train_length)
enrolment_fits [] = tt
enrolment_fits (engine ∷ []) = tt
enrolment_fits (engine ∷ train_length ∷ word ∷ words) = tt

withdrawal_from_fits : (engine : Option ℕ) → IfSome (withdrawal_from engine) Fits
withdrawal_from_fits (Some engine) = tested (nat_le engine 16777215) (Withdraw engine) (λ e. grind (arith, nat_tests))
withdrawal_from_fits None = tt

withdrawal_fits : (words : List (List ℕ)) → IfSome (withdrawal_of words) Fits
withdrawal_fits (engine ∷ []) = withdrawal_from_fits (decimal_of engine)
withdrawal_fits [] = tt
withdrawal_fits (engine ∷ word ∷ words) = tt

-- words that spell segments spell one at least
onto_all_is_filled : (segment : Option Segment) (segments : Option (List Segment)) → IfSome (onto_all segment segments) (λ found. 1 ≤ length found)
onto_all_is_filled (Some segment) (Some segments) = omega arith
onto_all_is_filled None segments = tt
onto_all_is_filled (Some segment) None = tt

stop_from_fits : (number : Option ℕ) (segments : Option (List Segment)) → IfSome segments (λ found. 1 ≤ length found) → IfSome (stop_from number segments) Fits
stop_from_fits (Some number) (Some segments) filled = filled
stop_from_fits None segments filled = tt
stop_from_fits (Some number) None filled = tt

stop_fits : (words : List (List ℕ)) → IfSome (stop_of words) Fits
stop_fits (number ∷ segment ∷ segments) = stop_from_fits (decimal_of number) _ (onto_all_is_filled (segment_of segment) (segments_of segments))
stop_fits [] = tt
stop_fits (number ∷ []) = tt

restriction_from_fits : (number : Option ℕ) (segment : Option Segment) (dirs : Option Dirs) (speed : Option ℕ) (front : Option Bool) → IfSome (restriction_from number segment dirs speed front) Fits
restriction_from_fits (Some number) (Some segment) (Some dirs) (Some speed) (Some front) = tt
restriction_from_fits None segment dirs speed front = tt
restriction_from_fits (Some number) None dirs speed front = tt
restriction_from_fits (Some number) (Some segment) None speed front = tt
restriction_from_fits (Some number) (Some segment) (Some dirs) None front = tt
restriction_from_fits (Some number) (Some segment) (Some dirs) (Some speed) None = tt

restriction_fits : (words : List (List ℕ)) → IfSome (restriction_of words) Fits
restriction_fits (number ∷ segment ∷ dirs ∷ speed ∷ front ∷ []) = restriction_from_fits (decimal_of number) (segment_of segment) (dirs_of dirs) (decimal_of speed) (front_of front)
restriction_fits [] = tt
restriction_fits (number ∷ []) = tt
restriction_fits (number ∷ segment ∷ []) = tt
restriction_fits (number ∷ segment ∷ dirs ∷ []) = tt
restriction_fits (number ∷ segment ∷ dirs ∷ speed ∷ []) = tt
restriction_fits (number ∷ segment ∷ dirs ∷ speed ∷ front ∷ word ∷ words) = tt

command_fits : (word : List ℕ) (arguments : List (List ℕ)) → IfSome (command_of word arguments) Fits
command_fits word arguments =
    chosen (bytes_eq word (codes "enrol")) (enrolment_of arguments) _ (enrolment_fits arguments)
    (chosen (bytes_eq word (codes "withdraw")) (withdrawal_of arguments) _ (withdrawal_fits arguments)
    (chosen (bytes_eq word (codes "stop")) (stop_of arguments) _ (stop_fits arguments)
    (chosen (bytes_eq word (codes "release")) (release_of arguments) _ (made Release (number_of arguments) (λ n. tt))
    (chosen (bytes_eq word (codes "restrict")) (restriction_of arguments) _ (restriction_fits arguments)
    (chosen (bytes_eq word (codes "lift")) (lift_of arguments) None (made Lift (number_of arguments) (λ n. tt)) tt)))))

or_bad : (found : Option Input) → IfSome found Fits → Fits (unwrap_or found (Bad 1))
or_bad None fits = bad_fits
or_bad (Some input) fits = fits

-- what a command spells, or else a bad line
pub command_or_bad_fits : (word : List ℕ) (arguments : List (List ℕ)) (found : Option Input) (input : Input) → found ≡ command_of word arguments → input ≡ unwrap_or found (Bad 1) → Fits input
command_or_bad_fits word arguments found input e same = rw same (rw e (or_bad (command_of word arguments) (command_fits word arguments)))

-- ---- messages

code_fits : (fault : DecodeError) → Fits (Bad (code_of (refusal_of fault)))
code_fits Length = (omega arith, omega arith)
code_fits Message = (omega arith, omega arith)
code_fits Packet = (omega arith, omega arith)
code_fits Field = (omega arith, omega arith)

heard_fits : (bytes : List ℕ) (input : Input) → AreHeard bytes input → Fits input
heard_fits bytes (Received message) heard = tt
heard_fits bytes (Bad code) heard = rw heard.2 (code_fits heard.0)
heard_fits bytes (Enrol engine train_length) heard = absurd heard
heard_fits bytes (Withdraw engine) heard = absurd heard
heard_fits bytes (Stop number segments) heard = absurd heard
heard_fits bytes (Release number) heard = absurd heard
heard_fits bytes (Restrict number segment dirs speed front) heard = absurd heard
heard_fits bytes (Lift number) heard = absurd heard

-- ---- lines

-- each input of a line
abbrev pub HasInputsThatFit : Line → Type 0
HasInputsThatFit line = (input : Input) → IsInput line input → Fits input

spelled_fits : (spelled : Input) → Fits spelled → HasInputsThatFit (Spelled spelled)
spelled_fits spelled fits input is = subst Fits (sym is) fits

hex_fits : (decoded : Result (List ℕ) FromHexError) → HasInputsThatFit (line_of_hex decoded)
hex_fits (Ok bytes) = heard_fits bytes
hex_fits (Err fault) = spelled_fits (Bad 2) (omega arith, omega arith)

message_fits : (words : List (List ℕ)) → IfSome (message_of words) HasInputsThatFit
message_fits (word ∷ []) = elim (is_hex_word word) as (λ b. IfSome (if b then Some (line_of_hex (decode_of word)) else None) HasInputsThatFit) [ true ↦ hex_fits (decode_of word) | false ↦ tt ]
message_fits [] = tt
message_fits (word ∷ other ∷ words) = tt

spelled_command_fits : (found : Option Input) → IfSome found Fits → IfSome (option_map Spelled found) HasInputsThatFit
spelled_command_fits None fits = tt
spelled_command_fits (Some spelled) fits = spelled_fits spelled fits

words_fit : (words : List (List ℕ)) → IfSome (line_of_words words) HasInputsThatFit
words_fit [] = tt
words_fit (word ∷ arguments) = elim (bytes_eq word (codes "recv")) as (λ b. IfSome (if b then message_of arguments else option_map Spelled (command_of word arguments)) HasInputsThatFit) [
  | true ↦ message_fits arguments
  | false ↦ spelled_command_fits (command_of word arguments) (command_fits word arguments)
]

or_bad_line_fits : (found : Option Line) → IfSome found HasInputsThatFit → HasInputsThatFit (unwrap_or found (Spelled (Bad 1)))
or_bad_line_fits None fits = spelled_fits (Bad 1) bad_fits
or_bad_line_fits (Some line) fits = fits

line_fits : (line : List ℕ) → HasInputsThatFit (line_of line)
line_fits line = or_bad_line_fits (line_of_words (words_of line)) (words_fit (words_of line))

-- so are the inputs of lines
pub inputs_fit : (lines : List (List ℕ)) (inputs : List Input) → AreInputs lines inputs → All Fits inputs
inputs_fit [] [] are = All-nil Fits
inputs_fit (line ∷ lines) (input ∷ inputs) are = All-cons Fits input inputs (line_fits line input are.0) (inputs_fit lines inputs are.1)
inputs_fit [] (input ∷ inputs) are = absurd are
inputs_fit (line ∷ lines) [] are = absurd are
