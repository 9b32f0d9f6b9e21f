-- What a line becomes that is a message from a train in words, or a report (own rule).
use Rattle.std.specs.Prelude.{◌≡◌, ◌⊎◌, ℕ, ◌+◌, Bool, true, false, ◌&&◌, ◌||◌, List, [], ◌∷◌, ◌++◌, codes, slice_get, Option, Some, None, Ok, Err}
use Rattle.std.specs.Str.{bytes_eq}
use Rattle.hex.specs.Hex.{encode_upper}
use Rattle.ertms_codec.specs.declared.from_train.FromTrain.{FromTrain}
use Rattle.ertms_codec.specs.declared.from_train.FromTrain.TheVariants as message
use Rattle.ertms_codec.specs.declared.from_train.Position.{Position}
use Rattle.ertms_codec.specs.declared.wrong_word.WrongWord.{WrongWord}
use Rattle.ertms_codec.specs.FromTrainWritten.{IsInRange, spelling_of}
use Rattle.ertms_codec.specs.Grammar.{FirstWrong, from_train}
use Rattle.ertms_codec.specs.Texts.{text_from_train}
use Rattle.rbc_track.specs.Plan.{Plan}
use Rattle.rbc_place.specs.Reporting.{IsReportAt, IsNoReportAt}
use Rattle.rbc_place.specs.declared.reporting.NoReport.{NoReport}
use Rattle.rbc_place.specs.declared.reporting.NoReport.TheVariants as why
use Rattle.rbc_text.specs.BatchText.{words_of}
use Rattle.rbc_words.specs.ReportWords.{report_of}
use Rattle.rbc_words.specs.declared.line_fault.LineWord.TheVariants as ways
use Rattle.rbc_words.specs.declared.line_fault.LineFault.{LineFault}
use Rattle.rbc_words.specs.declared.line_fault.LineFault.TheVariants.{Word, NeedsTrack, NoLine, Beyond, NoGroup}
use Rattle.rbc_words.specs.declared.report.Report.{Report}
use Rattle.rbc_words.specs.declared.encode.Form.{Form}
use Rattle.rbc_words.specs.declared.encode.Form.TheVariants as form
use denote.Ref.{Bor}

-- the number of a message from a train
abbrev pub is_number : List ℕ → Bool
is_number word = bytes_eq word (codes "136") || (bytes_eq word (codes "146") || bytes_eq word (codes "147"))

-- `recv TEXT`: TEXT has two words or more, of which the first is the number of a message from a train
abbrev pub is_text : List (List ℕ) → Bool
is_text (command ∷ number ∷ word ∷ words) = bytes_eq command (codes "recv") && is_number number
is_text _ = false

-- `report ..`
abbrev pub is_report : List (List ℕ) → Bool
is_report [] = false
is_report (command ∷ words) = bytes_eq command (codes "report")

-- the words behind the first one
abbrev pub behind_first : List (List ℕ) → List (List ℕ)
behind_first [] = []
behind_first (word ∷ words) = words

-- `recv HEX`
abbrev pub received : FromTrain → List ℕ
received m = codes "recv " ++ encode_upper (spelling_of m)

-- the message of a report on a track
pub record IsMessageOf (plan : Plan) (report : Report) (m : FromTrain) : Type 0 where
  pub position : Position
  pub placed : IsReportAt plan report.front.line report.front.at report.facing report.doubt position
  pub is : m ≡ message.Report report.stamp report.engine position

-- the words of a report, and its message
pub record IsReportedAs (track : Option Plan) (words : List (List ℕ)) (m : FromTrain) : Type 0 where
  pub plan : Plan
  pub report : Report
  pub given : track ≡ Some plan
  pub said : report_of (slice_get words) ≡ Ok report
  pub message : IsMessageOf plan report m

-- the line is neither a text nor a report
pub record IsOther (line : List ℕ) : Type 0 where
  pub no_text : is_text (words_of line) ≡ false
  pub no_report : is_report (words_of line) ≡ false

-- what a line becomes: the digits of its message, or, where it is neither a text nor a report, itself
abbrev pub Encodes : Option Plan → List ℕ → List ℕ → Type 0
Encodes track line out =
    ((m : FromTrain) × IsInRange m × (line ≡ codes "recv " ++ text_from_train m) × (out ≡ received m))
    ⊎ (((m : FromTrain) × (is_report (words_of line) ≡ true) × IsReportedAs track (words_of line) m × (out ≡ received m)) ⊎ (IsOther line × (out ≡ line)))

-- why a report has no message
abbrev pub fault_of : ℕ → NoReport → LineFault
fault_of line why.NoLine = NoLine line
fault_of line (why.Beyond end) = Beyond line end
fault_of line why.NoGroup = NoGroup

abbrev pub HasNoMessage : Option Plan → Report → LineFault → Type 0
HasNoMessage None report fault = fault ≡ NeedsTrack
HasNoMessage (Some plan) report fault =
    (none : NoReport) × IsNoReportAt plan report.front.line report.front.at report.facing none × (fault ≡ fault_of report.front.line none)

-- a report is wrong: a word is, or all words are right and it has no message
abbrev pub IsWrongReport : Option Plan → List (List ℕ) → LineFault → Type 0
IsWrongReport track words fault =
    (report_of (slice_get words) ≡ Err fault) ⊎ ((report : Report) × (report_of (slice_get words) ≡ Ok report) × HasNoMessage track report fault)

-- the first wrong word of a text behind `recv`; the words of the line are counted
abbrev pub IsWrongText : List (List ℕ) → LineFault → Type 0
IsWrongText words fault = (wrong : WrongWord) × FirstWrong 1 from_train words wrong × (fault ≡ Word (wrong.index + 1) (ways.Text wrong.expected))

-- what is wrong with a line
abbrev pub IsWrongLine : Option Plan → List ℕ → LineFault → Type 0
IsWrongLine track line fault =
    ((is_text (words_of line) ≡ true) × IsWrongText (behind_first (words_of line)) fault)
    ⊎ ((is_report (words_of line) ≡ true) × IsWrongReport track (words_of line) fault)

-- the track that is given
abbrev pub plan_given : Option (Bor Plan) → Option Plan
plan_given None = None
plan_given (Some track) = Some track.now

-- two words or more, of which the first is the number of a message from a train
abbrev pub has_number : List (List ℕ) → Bool
has_number (number ∷ word ∷ words) = is_number number
has_number _ = false

-- what is said of the form of a line
abbrev pub IsForm : List ℕ → Form → Type 0
IsForm line (form.Text text) = (line ≡ codes "recv " ++ text.now) × (has_number (words_of text.now) ≡ true)
IsForm line form.Report = is_report (words_of line) ≡ true
IsForm line form.Other = IsOther line
